-- Nothing put anywhere changes nothing.
use mathlib.Core.Path.{refl}
use mathlib.Core.List.{List, []}
use Prim.Native.Nat.{ℕ}
use native.Mathlib.Omega.{arith}
use Rattle.row_texts.specs.Emitted.{Emitted}

pub nothing : (out : List ℕ) (at : ℕ) → Emitted out at [] at out
nothing out at = record { place = λ h. omega arith; same = refl; bytes = λ h. refl }
