-- The return trip through lent slices: what the writer writes of a model in some slices, a reader with as many records leaves in its own; and each coordinate that it
-- leaves is the double nearest what the text says.
use mathlib.Core.Path.{◌≡◌, refl, sym, ap, ◌∙◌, subst}
use mathlib.Core.Bool.{Bool, true, false, ◌&&◌, cond}
use mathlib.Core.List.{List}
use Prim.Native.Nat.{ℕ, zero, suc, ◌≤◌}
use native.Mathlib.Omega.{arith}
use lib.Dec.{T, leb}
use lib.Ieee.{Float}
use lib.ListN.{length, length-take}
use borrow.Author.Tests.{leb-true}
use Rattle.numbers.specs.Nearest.{NearestOfText}
use Rattle.numbers.specs.Rounding.{printable}
use Rattle.numbers.proofs.PrintedReadsBack.{printed_reads_back}
use Rattle.numbers.proofs.ValueIsNearest.{value_is_nearest}
use Rattle.refusals.specs.declared.reasons.Reason.{Reason}
use Rattle.refusals.specs.declared.reasons.Reason.TheVariants.{NotWellFormed, OutputTooShort}
use Rattle.rows.specs.declared.settings.Settings.{Settings}
use Rattle.model.specs.Lent.{Lent, room_of, residue_in, atom_in, list_from, model_in, holding}
use Rattle.model.specs.Records.{Model}
use Rattle.model.specs.declared.room.Room.{Room}
use Rattle.model.specs.WellFormed.{well_formed, counts_fit, well_formed_in}
use Rattle.model.proofs.ListLaws.{left_of, right_of}
use Rattle.readings.specs.Reading.{largest, read, answer_of, left_by}
use Rattle.std.specs.Prelude.{Option, Some, None, Result, Ok}
use Rattle.refusals.specs.declared.reasons.Refusal.{Refusal}
use Rattle.building.specs.declared.sites.Counts.{Counts}
use Rattle.reader.specs.Reading.{read_of, ReadBy}
use Rattle.row_texts.specs.Fields.{coordinate_text}
use Rattle.writer.specs.Text.{text_of}
use Rattle.writer.specs.Unwritable.{first_unwritable}
use Rattle.writer.specs.Writing.{written, refused, written_but, write_of}
use Rattle.return_trip.specs.Returned.{printed, returned, returned_counts, AsMany}
use Rattle.return_trip.proofs.ReturnTrip.{return_trip}

-- a coordinate that is left is nearest what the text says
pub returned_is_nearest : (x : Float) → printable x ≡ true → NearestOfText (coordinate_text x) (printed x)
returned_is_nearest x h = value_is_nearest (coordinate_text x) (printed x) (printed_reads_back 3 x (omega arith) (subst T (sym h) tt))

-- ---- what was written
record Wrote (m : Model) (text : List ℕ) : Type 0 where
  formed : well_formed m ≡ true
  writable : first_unwritable m 1 m.atoms ≡ None
  same : text_of m ≡ text

refused_not : {why : Reason} {text : List ℕ} {A : Type 0} → refused why ≡ written text → A
refused_not e = let z : ◌≡◌ {A = ℕ} 0 1 = cc in absurd (omega arith)

wrote : (l : Lent) (counts : Room) (size : ℕ) (text : List ℕ) → write_of l counts size ≡ written text → Wrote (model_in l counts) text
unfolding write_of well_formed_in
wrote l counts size text e = go (well_formed_in l counts) refl e
  where
    m : Model
    m = model_in l counts

    by_size : (t : Bool) → cond t (written (text_of m)) (refused (OutputTooShort (length (text_of m)))) ≡ written text → text_of m ≡ text
    by_size true e = cc
    by_size false e = refused_not e

    by_id : (id : Option ℕ) → well_formed m ≡ true → first_unwritable m 1 m.atoms ≡ id → written_but id size m ≡ written text → Wrote m text
    by_id None f u e = record { formed = f; writable = u; same = by_size (leb (length (text_of m)) size) e }
    by_id (Some id) f u e = refused_not e

    go : (t : Bool) → (counts_fit l counts && well_formed m) ≡ t → cond t (written_but (first_unwritable m 1 m.atoms) size m) (refused NotWellFormed) ≡ written text → Wrote m text
    go true q e = by_id (first_unwritable m 1 m.atoms) (right_of (counts_fit l counts) (well_formed m) q) refl e
    go false q e = refused_not e

-- ---- as many records
listed_long : {A : Type 0} (at : ℕ → A) (i n : ℕ) → length (list_from at i n) ≡ n
unfolding list_from
listed_long at i zero = refl
listed_long at i (suc n) = ap suc (listed_long at (suc i) n)

as_many : (l k : Lent) (counts : Room) → counts_fit k counts ≡ true → AsMany (room_of k) (model_in l counts)
unfolding counts_fit model_in
as_many l k counts e =
    let room = room_of k in
    let c = leb counts.chains room.chains in
    let r = leb counts.residues room.residues in
    let a = leb counts.atoms room.atoms in
    let two : (c && r) ≡ true = left_of (c && r) a e in
    record {
      chains = omega (arith, length-take counts.chains l.chains, leb-true counts.chains room.chains (left_of c r two));
      residues = omega (arith, listed_long (residue_in l) 0 counts.residues, leb-true counts.residues room.residues (right_of c r two));
      atoms = omega (arith, listed_long (atom_in l) 0 counts.atoms, leb-true counts.atoms room.atoms (right_of (c && r) a e));
    }

-- ---- the theorems
module _ (settings : Settings) (l k : Lent) (counts : Room) (size : ℕ) (text : List ℕ) (e : write_of l counts size ≡ written text) (short : length text ≤ largest) (fit : counts_fit k counts ≡ true) where
  pub written_is_read : read_of settings (room_of k) text ≡ read (returned (model_in l counts)) (returned_counts (model_in l counts))
  written_is_read =
      let w = wrote l counts size text e in
      ap (read_of settings (room_of k)) (sym w.same)
      ∙ return_trip (model_in l counts) w.formed w.writable settings (room_of k) (as_many l k counts fit) (subst (λ (t : List ℕ). length t ≤ largest) (sym w.same) short)

  -- what `read` then answers and leaves
  pub read_leaves_it : (r : Result Counts Refusal) (after : Lent) → ReadBy settings k text r after
      → (r ≡ Ok (returned_counts (model_in l counts))) × (after ≡ holding k (returned (model_in l counts)))
  read_leaves_it r after h = (h.0 ∙ ap answer_of written_is_read, h.1 ∙ ap (left_by k) written_is_read)
