-- The model that the rows leave is what the rules say of the rows.
use mathlib.Core.Path.{◌≡◌, refl, sym, ◌∙◌, subst}
use mathlib.Core.List.{List, [], ◌∷◌}
use mathlib.Core.Option.{none, some}
use Prim.Native.Nat.{ℕ}
use Rattle.rows.specs.declared.rules.Site.{Site}
use Rattle.model.specs.Fold.{Residue, Atom, residue_of, atom_of, first, greater, start, model_of}
use Rattle.model.specs.Keys.{residue_at, atom_at}
use Rattle.model.specs.Lists.{All}
use Rattle.model.specs.Proper.{Proper}
use Rattle.model.specs.Rules.{same_residue, same_atom, first_of, ResidueValue, AtomValue, Entries, Ruled}
use Rattle.model.specs.Taken.{Taken, sites}
use Rattle.model.proofs.BuiltMaps.{left}
use Rattle.model.proofs.ChainsFirstMet.{met_after, chains_first_met}
use Rattle.model.proofs.EarliestIsKept.{Occupied, earliest_is_kept}
use Rattle.model.proofs.EntriesOfRows.{entries}
use Rattle.model.proofs.FoldParts.{chains_after, residues_after, atoms_after, rows_counted, skipped_counted, assumed_counted, rows_add_up}
use Rattle.model.proofs.KeysTellApart.{Placed, all_placed, key_tells, place_tells}
use Rattle.model.proofs.ListLaws.{all_map}
use Rattle.model.proofs.OutdoneCounted.{outdone_counted}

pub left_first : (l : List Site) → left first none l ≡ first_of l
left_first [] = refl
left_first (s ∷ l) = go (residue_of s) l
  where
    go : (r : Residue) (l : List Site) → left first (some r) l ≡ some r
    go r [] = refl
    go r (t ∷ l) = go r l

module _ (c : List ℕ) where
  residue_value : (s : Site) (l : List Site) → All (Placed c) (s ∷ l) → (r : Residue) × (left first none (s ∷ l) ≡ some r) × ResidueValue (s ∷ l) r
  residue_value s l p = (residue_of s, left_first (s ∷ l), refl)

  atom_value : (s : Site) (l : List Site) → All (Placed c) (s ∷ l) → (a : Atom) × (left greater none (s ∷ l) ≡ some a) × AtomValue (s ∷ l) a
  atom_value s l p = let k = earliest_is_kept s l (all_map (Placed c) Occupied (λ t q. q.proper.occupancy) (s ∷ l) p) in (atom_of k.0, k.2, (k.0, k.1, refl))

-- ---- the theorem
pub fold_keeps_rules : (l : List Taken) → All Proper (sites l) → Ruled l (model_of l)
fold_keeps_rules l b =
    let c = met_after [] (sites l) in
    let e : c ≡ (model_of l).chains = sym (chains_after start l) in
    record {
      chains = chains_after start l ∙ chains_first_met (sites l);
      residues = subst (λ (d : List ℕ). Entries (residue_at d) same_residue ResidueValue (sites l) (model_of l).residues) e
          (subst (Entries (residue_at c) same_residue ResidueValue (sites l)) (sym (residues_after start l))
          (entries (Placed c) (residue_at c) same_residue (key_tells c) first ResidueValue (residue_value c) (sites l) (all_placed (sites l) b)));
      atoms = subst (λ (d : List ℕ). Entries (atom_at d) same_atom AtomValue (sites l) (model_of l).atoms) e
          (subst (Entries (atom_at c) same_atom AtomValue (sites l)) (sym (atoms_after start l))
          (entries (Placed c) (atom_at c) same_atom (place_tells c) greater AtomValue (atom_value c) (sites l) (all_placed (sites l) b)));
      rows = rows_counted l;
      skipped = skipped_counted l;
      outdone = outdone_counted l b;
      assumed = assumed_counted l;
      sum = rows_add_up l;
    }
