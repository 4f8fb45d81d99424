-- A symbol that is written and read again is the element, 0 through `X` too.
use mathlib.Core.Path.{◌≡◌, refl}
use Prim.Native.Nat.{ℕ, ◌≤◌}
use Prim.Native.String.{String}
use native.Mathlib.Omega.{arith}
use Rattle.ascii.specs.Bytes.{bytes}
use Rattle.ascii.specs.Words.{same_bytes}
use Rattle.names.specs.Elements.{symbols, element_from, element_of, symbol_of}
use Rattle.names.specs.Packing.{packed_in, packed, unpacked_in, unpacked}
use Rattle.names.proofs.TablesByTest.{tabled}

pub read_again : (n : ℕ) → n ≤ 118 → element_of (unpacked (symbol_of n)) ≡ n
unfolding symbols same_bytes element_from element_of symbol_of packed_in unpacked_in
read_again n h = tabled (λ (t : String). element_of (unpacked (packed (bytes t)))) (λ (k : ℕ). k) symbols "X" refl n (omega arith)
