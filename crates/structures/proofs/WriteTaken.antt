-- What is written from the names taken out of a chain list is what is written from the list: they are the list's first 4,096 names, and a model that is
-- well formed has no more chains.
use mathlib.Core.Path.{◌≡◌, refl, sym, ap, ◌∙◌}
use mathlib.Core.Bool.{Bool, true, false, ◌&&◌, cond}
use mathlib.Core.List.{List, [], ◌∷◌, ◌++◌}
use Prim.Native.Nat.{ℕ, zero, suc, min, ◌≤◌}
use native.Mathlib.Nat.{suc_inj, suc-ne-zero}
use native.Mathlib.Omega.{arith}
use lib.Dec.{leb}
use lib.ListN.{length, take, drop, length-take, length-map}
use lib.Seq.{take-nil, take-take}
use borrow.Author.Tests.{leb-true}
use Rattle.model.specs.Lent.{Lent, room_of, list_from, residue_in, atom_in, model_in}
use Rattle.model.specs.Records.{Model}
use Rattle.model.specs.WellFormed.{within, well_formed, counts_fit, well_formed_in}
use Rattle.model.specs.declared.room.Room.{Room}
use Rattle.model.proofs.ListLaws.{left_of}
use Rattle.writer.specs.Writing.{Writing, refused, writing_of, write_of}
use Rattle.refusals.specs.declared.reasons.Reason.TheVariants.{NotWellFormed}
use Rattle.chains.specs.declared.chain.Chain.{Chain}
use Rattle.chains.specs.Names.{names_in, taken_over}
use Rattle.structures.proofs.WithChains.{with_chains, same_room}

-- ---- the names that are taken
taken_first : (n : ℕ) (l names : List ℕ) → length names ≡ n → take (length l) (take n l ++ drop (length l) names) ≡ take n l
taken_first n [] names e = sym (take-nil n)
taken_first zero (x ∷ l) [] e = refl
taken_first zero (x ∷ l) (y ∷ names) e = absurd (suc-ne-zero (length names) e)
taken_first (suc n) (x ∷ l) [] e = absurd (suc-ne-zero n (sym e))
taken_first (suc n) (x ∷ l) (y ∷ names) e = ap (λ (m : List ℕ). x ∷ m) (taken_first n l names (suc_inj e))

-- ---- the first 4,096 chains are enough
module _ (l : Lent) (names : List ℕ) (counts : Room) (size : ℕ) where
  abbrev first : Lent
  first = with_chains l (take 4096 names)

  abbrev whole : Lent
  whole = with_chains l names

  same_fit : counts_fit first counts ≡ counts_fit whole counts
  unfolding counts_fit
  same_fit =
      ap (within counts)
      (same_room l (take 4096 names) names (simp length-take (omega arith)))

  few : counts_fit whole counts ≡ true → counts.chains ≤ 4096
  unfolding counts_fit room_of
  few e =
      let fits = leb counts.chains (min 4096 (length names)) in
      let h = leb-true counts.chains (min 4096 (length names)) (left_of fits (leb counts.residues (room_of whole).residues) (left_of (fits && leb counts.residues (room_of whole).residues) (leb counts.atoms (room_of whole).atoms) e)) in
      omega arith

  same_model : counts.chains ≤ 4096 → model_in first counts ≡ model_in whole counts
  unfolding model_in
  same_model h =
      λ i. record { chains = take-take counts.chains 4096 names h i; residues = list_from (residue_in l) 0 counts.residues; atoms = list_from (atom_in l) 0 counts.atoms }

  abbrev written : Bool → Model → Writing
  written fit m = cond (fit && well_formed m) (writing_of size m) (refused NotWellFormed)

  same_written : write_of first counts size ≡ write_of whole counts size
  unfolding write_of well_formed_in
  same_written = ap (λ (fit : Bool). written fit (model_in first counts)) same_fit ∙ go (counts_fit whole counts) few
    where
      go : (fit : Bool) → (fit ≡ true → counts.chains ≤ 4096) → written fit (model_in first counts) ≡ written fit (model_in whole counts)
      go true h = ap (written true) (same_model (h refl))
      go false h = refl

pub write_taken : (ys : List Chain) (names : List ℕ) (l : Lent) (counts : Room) (size : ℕ) → length names ≡ 4096
    → write_of (with_chains l (take (length ys) (taken_over (names_in ys) names))) counts size ≡ write_of (with_chains l (names_in ys)) counts size
unfolding taken_over
write_taken ys names l counts size long =
    ap (λ (x : List ℕ). write_of (with_chains l x) counts size)
    (ap (λ (n : ℕ). take n (taken_over (names_in ys) names)) (sym (length-map ys (λ c. c.name))) ∙ taken_first 4096 (names_in ys) names long)
    ∙ same_written l (names_in ys) counts size
