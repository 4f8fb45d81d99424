-- The text of a field, by the case that the code has found; and a name that was unpacked into a cell of 8 bytes stands at its front.
use mathlib.Core.Path.{◌≡◌, sym, ap, ◌∙◌}
use mathlib.Core.Bool.{true}
use mathlib.Core.List.{List, [], ◌∷◌}
use Prim.Native.Nat.{ℕ, ◌-◌, ◌^◌, ◌≤◌, ◌<◌}
use native.Mathlib.Nat.{sub-zero}
use native.Mathlib.Omega.{arith}
use lib.Ieee.{Float}
use lib.ListN.{length, take, drop}
use Rattle.std.specs.Prelude.{Result, Ok, Err}
use borrow.Author.Tests.{eq-eqb, ne_eqb, lt-ltb, le-ltb}
use Rattle.ascii.specs.Bytes.{byte, bytes}
use Rattle.ascii.specs.declared.output.NoRoom.{NoRoom}
use Rattle.ascii.specs.Output.{placed_of, buffer_after}
use Rattle.numbers.specs.declared.printing.PrintError.{PrintError}
use Rattle.numbers.specs.declared.printing.PrintError.TheVariants as print_error
use Rattle.numbers.specs.Rounding.{printable}
use Rattle.numbers.specs.Writing.{as_printed, printed_of, after_printing}
use Rattle.names.specs.Packing.{unpacked, cell_of}
use Rattle.names.proofs.CellTurns.{cell_holds, cell_length}
use Rattle.names.proofs.PackingTurns.{unpacked_short}
use Rattle.row_texts.specs.Fields.{decimal_of, sequence_text, code_text, coordinate_text}

pub code_none : (code : ℕ) → code ≡ 0 → code_text code ≡ bytes "?"
unfolding code_text
code_none code e = simp (eq-eqb code 0 e)

pub code_some : (code : ℕ) → (code ≡ 0 → ⊥) → code_text code ≡ code ∷ []
unfolding code_text
code_some code n = simp (ne_eqb code 0 n)

pub sequence_negative : (s : ℕ) → s < 2 ^ 31 → sequence_text s ≡ byte "-" ∷ decimal_of (2 ^ 31 - s)
unfolding sequence_text
sequence_negative s h = simp (lt-ltb s (2 ^ 31) h)

pub sequence_positive : (s : ℕ) → 2 ^ 31 ≤ s → sequence_text s ≡ decimal_of (s - 2 ^ 31)
unfolding sequence_text
sequence_positive s h = simp (le-ltb s (2 ^ 31) h)

-- the name, as a slice `&cell[0..n]` has it
module _ (name : ℕ) {n : ℕ} {cell : List ℕ} (u : (n ≡ length (unpacked name)) × (cell ≡ cell_of 8 (unpacked name))) where
  pub name_fits : (n ≤ 8) × (length cell ≡ 8)
  name_fits = (rw u.0 (unpacked_short 8 name), ap length u.1 ∙ cell_length 8 (unpacked name))

  pub name_in_front : take (n - 0) (drop 0 cell) ≡ unpacked name
  name_in_front = rw (sub-zero, u.0, u.1) (cell_holds 8 (unpacked name) (unpacked_short 8 name))

-- a printable coordinate is put, or has no room
module _ (x : Float) (out : List ℕ) (at : ℕ) (near : printable x ≡ true) {printed : Result ℕ PrintError} {after : List ℕ} (p : (printed ≡ printed_of 3 x out at) × (after ≡ after_printing 3 x out at)) where
  printed_put : printed_of 3 x out at ≡ as_printed (placed_of out at (coordinate_text x))
  unfolding printed_of
  printed_put = simp near

  printed_after : after_printing 3 x out at ≡ buffer_after out at (coordinate_text x)
  unfolding after_printing
  printed_after = simp near

  pub within_reach_lem : printed ≡ Err print_error.BeyondReach → ⊥
  within_reach_lem e = go (placed_of out at (coordinate_text x)) (sym e ∙ p.0 ∙ printed_put)
    where
      go : (placed : Result ℕ NoRoom) → Err print_error.BeyondReach ≡ as_printed placed → ⊥
      go (Ok next) f = let z : ◌≡◌ {A = ℕ} 0 1 = cc in omega arith
      go (Err short) f = let z : ◌≡◌ {A = ℕ} 0 1 = cc in omega arith

  pub coordinate_put : (placed : Result ℕ NoRoom) → printed ≡ as_printed placed → (placed ≡ placed_of out at (coordinate_text x)) × (after ≡ buffer_after out at (coordinate_text x))
  coordinate_put placed e = (go placed (placed_of out at (coordinate_text x)) (sym e ∙ p.0 ∙ printed_put), p.1 ∙ printed_after)
    where
      go : (a b : Result ℕ NoRoom) → as_printed a ≡ as_printed b → a ≡ b
      go (Ok n) (Ok m) f = let z : n ≡ m = cc in ap Ok z
      go (Err n) (Err m) f = let z : n ≡ m = cc in ap Err z
      go (Ok n) (Err m) f = let z : ◌≡◌ {A = ℕ} 0 1 = cc in absurd (omega arith)
      go (Err n) (Ok m) f = let z : ◌≡◌ {A = ℕ} 0 1 = cc in absurd (omega arith)
