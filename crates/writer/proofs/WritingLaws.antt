-- What is written by the test that led there: 12, 13, 14 and the text.
use mathlib.Core.Path.{◌≡◌, refl, sym, ap, ◌∙◌, subst}
use mathlib.Core.Bool.{Bool, true, false, cond}
use mathlib.Core.List.{List}
use Prim.Native.Nat.{ℕ, ◌≤◌, ◌<◌}
use lib.ListN.{length}
use lib.Seq.{sets}
use borrow.Author.Tests.{le-leb, lt-leb}
use Rattle.std.specs.Prelude.{Option, None, Some, Ok, Err}
use Rattle.refusals.specs.declared.reasons.Reason.{Reason}
use Rattle.refusals.specs.declared.reasons.Reason.TheVariants.{NotWellFormed, CannotBeWritten, OutputTooShort}
use Rattle.model.specs.Lent.{Lent, model_in}
use Rattle.model.specs.Records.{Model}
use Rattle.model.specs.WellFormed.{well_formed_in}
use Rattle.model.specs.declared.room.Room.{Room}
use Rattle.writer.specs.Text.{text_of}
use Rattle.writer.specs.Unwritable.{unwritable_in}
use Rattle.writer.specs.Writing.{Writing, written, refused, fitted, written_but, writing_of, write_of, Wrote}

-- a writing refused leaves the buffer as it was
refuses : (out : List ℕ) (writing : Writing) (why : Reason) → writing ≡ refused why → Wrote out writing (Err why) out
refuses out writing why e = subst (λ (w : Writing). Wrote out w (Err why) out) (sym e) (record { answered = refl; left = refl })

-- ---- 14
module _ (out text : List ℕ) where
  pub too_short : (needed : ℕ) → needed ≡ length text → length out < needed → Wrote out (fitted (length out) text) (Err (OutputTooShort needed)) out
  too_short needed e h =
      refuses out (fitted (length out) text) (OutputTooShort needed)
      (ap (λ (b : Bool). cond b (written text) (refused (OutputTooShort (length text)))) (lt-leb (length text) (length out) (subst (λ (n : ℕ). length out < n) e h))
      ∙ ap (λ (n : ℕ). refused (OutputTooShort n)) (sym e))

  pub all_written : (end : ℕ) (after : List ℕ) → length text ≤ length out → end ≡ length text → after ≡ sets out 0 text → Wrote out (fitted (length out) text) (Ok end) after
  all_written end after h e f =
      subst (λ (w : Writing). Wrote out w (Ok end) after)
      (sym (ap (λ (b : Bool). cond b (written text) (refused (OutputTooShort (length text)))) (le-leb (length text) (length out) h)))
      (record { answered = ap Ok e; left = f })

-- ---- 13
module _ (out : List ℕ) (m : Model) where
  pub unwritable : (atom : ℕ) → Some atom ≡ unwritable_in m → Wrote out (writing_of (length out) m) (Err (CannotBeWritten atom)) out
  unwritable atom is = refuses out (writing_of (length out) m) (CannotBeWritten atom) (ap (λ (o : Option ℕ). written_but o (length out) m) (sym is))

  pub writable : None ≡ unwritable_in m → fitted (length out) (text_of m) ≡ writing_of (length out) m
  writable is = ap (λ (o : Option ℕ). written_but o (length out) m) is

-- ---- 12
module _ (out : List ℕ) (l : Lent) (counts : Room) where
  abbrev writing : Bool → Writing
  writing b = cond b (writing_of (length out) (model_in l counts)) (refused NotWellFormed)

  pub not_well_formed : well_formed_in l counts ≡ false → Wrote out (write_of l counts (length out)) (Err NotWellFormed) out
  unfolding write_of
  not_well_formed e = refuses out (writing (well_formed_in l counts)) NotWellFormed (ap writing e)

  pub well_formed_lem : well_formed_in l counts ≡ true → writing_of (length out) (model_in l counts) ≡ write_of l counts (length out)
  unfolding write_of
  well_formed_lem e = sym (ap writing e)
