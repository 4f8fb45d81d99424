-- Demand 3 over rows: the order of the rows does not matter, so long as the rows of each atom keep theirs, chains are first met in the same order, and
-- each residue's first unskipped row says the same. What stands at a key goes by the rows of that key alone, and room is a matter of the final sizes.
use mathlib.Core.Path.{◌≡◌, sym, ap, ◌∙◌, subst}
use mathlib.Core.List.{List, [], Memᴰ}
use mathlib.Core.Option.{none}
use Prim.Native.Nat.{ℕ}
use native.Mathlib.Omega.{arith}
use lib.ListN.{length}
use Rattle.rows.specs.declared.rules.Site.{Site}
use Rattle.model.specs.Alike.{Alike}
use Rattle.model.specs.Fold.{State, first, greater, start, model_of}
use Rattle.model.specs.Keys.{residue_at, atom_at}
use Rattle.model.specs.Lists.{filter, All, count}
use Rattle.model.specs.Proper.{Proper}
use Rattle.model.specs.declared.room.Room.{Room}
use Rattle.model.specs.Room.{Fits, whole, read_within}
use Rattle.model.specs.Rules.{same_residue, same_atom, first_of}
use Rattle.model.specs.Taken.{Taken, sites}
use Rattle.model.proofs.BuiltMaps.{left, build, same_build}
use Rattle.model.proofs.ChainsFirstMet.{met_after, chains_first_met}
use Rattle.model.proofs.ClassLaws.{those, by_class, total, total_one, total_count, same_total}
use Rattle.model.proofs.FoldKeepsRules.{left_first}
use Rattle.model.proofs.FoldParts.{chains_after, residues_after, atoms_after, rows_counted, skipped_counted, assumed_counted, rows_split, rows_add_up}
use Rattle.model.proofs.KeysTellApart.{same_self, Placed, all_placed, key_tells, place_tells}
use Rattle.model.proofs.ListLaws.{all_at, all_of, mem_filter, filter_mem}
use Rattle.model.proofs.RoomIsForTheEnd.{read_to_the_end, the_end_fits}

-- what holds of each row of one holds of each row of the other
all_too : (P : Site → Type 0) (l m : List Site) → ((s : Site) → filter (same_atom s) l ≡ filter (same_atom s) m) → All P l → All P m
all_too P l m h a =
    all_of P m (λ s d. all_at P l s a (filter_mem (same_atom s) l s (subst (Memᴰ s) (sym (h s)) (mem_filter (same_atom s) m s d (same_self s)))).0)

module _ (l₁ l₂ : List Taken) (a : Alike l₁ l₂) (p₁ : All Proper (sites l₁)) where
  abbrev c : List ℕ
  c = met_after [] (sites l₁)

  same_chains : c ≡ met_after [] (sites l₂)
  same_chains = chains_first_met (sites l₁) ∙ a.chains ∙ sym (chains_first_met (sites l₂))

  placed₁ : All (Placed c) (sites l₁)
  placed₁ = all_placed (sites l₁) p₁

  placed₂ : All (Placed c) (sites l₂)
  placed₂ = subst (λ (d : List ℕ). All (Placed d) (sites l₂)) (sym same_chains) (all_placed (sites l₂) (all_too Proper (sites l₁) (sites l₂) a.atoms p₁))

  same_there : (x : ℕ) → those (atom_at c) x (sites l₁) ≡ those (atom_at c) x (sites l₂)
  same_there = by_class (Placed c) (atom_at c) same_atom (place_tells c) (λ l. l) (sites l₁) (sites l₂) placed₁ placed₂ a.atoms

  same_first : (x : ℕ) → first_of (those (residue_at c) x (sites l₁)) ≡ first_of (those (residue_at c) x (sites l₂))
  same_first = by_class (Placed c) (residue_at c) same_residue (key_tells c) first_of (sites l₁) (sites l₂) placed₁ placed₂ a.residues

  same_residues : (model_of l₁).residues ≡ (model_of l₂).residues
  same_residues =
      residues_after start l₁
      ∙ same_build (residue_at c) first (sites l₁) (sites l₂) (λ x. left_first (those (residue_at c) x (sites l₁)) ∙ same_first x ∙ sym (left_first (those (residue_at c) x (sites l₂))))
      ∙ ap (λ (d : List ℕ). build (residue_at d) first [] (sites l₂)) same_chains
      ∙ sym (residues_after start l₂)

  same_atoms : (model_of l₁).atoms ≡ (model_of l₂).atoms
  same_atoms =
      atoms_after start l₁
      ∙ same_build (atom_at c) greater (sites l₁) (sites l₂) (λ x. ap (left greater none) (same_there x))
      ∙ ap (λ (d : List ℕ). build (atom_at d) greater [] (sites l₂)) same_chains
      ∙ sym (atoms_after start l₂)

  same_sum : (w : Site → ℕ) → total w (sites l₁) ≡ total w (sites l₂)
  same_sum w = same_total (atom_at c) w (sites l₁) (sites l₂) same_there

  same_rows : (model_of l₁).rows ≡ (model_of l₂).rows
  same_rows =
      omega (arith, rows_counted l₁, rows_counted l₂, rows_split l₁, rows_split l₂, a.skipped, total_one (sites l₁), total_one (sites l₂), same_sum (λ s. 1))

  same_skipped : (model_of l₁).skipped ≡ (model_of l₂).skipped
  same_skipped = skipped_counted l₁ ∙ a.skipped ∙ sym (skipped_counted l₂)

  same_assumed : (model_of l₁).assumed ≡ (model_of l₂).assumed
  same_assumed =
      assumed_counted l₁
      ∙ sym (total_count (λ (s : Site). s.assumed) (sites l₁))
      ∙ same_sum (λ s. count s.assumed)
      ∙ total_count (λ (s : Site). s.assumed) (sites l₂)
      ∙ sym (assumed_counted l₂)

  pub same_model : model_of l₁ ≡ model_of l₂
  same_model = λ i. record {
    chains = (chains_after start l₁ ∙ same_chains ∙ sym (chains_after start l₂)) i;
    residues = same_residues i;
    atoms = same_atoms i;
    rows = same_rows i;
    skipped = same_skipped i;
    outdone = same_outdone i;
    assumed = same_assumed i;
  }
    where
      same_outdone : (model_of l₁).outdone ≡ (model_of l₂).outdone
      same_outdone = omega (arith, rows_add_up l₁, rows_add_up l₂, same_rows, same_skipped, ap length same_atoms)

  -- ---- the theorem
  pub order_of_rows : (room : Room) (st : State) → read_within room l₁ ≡ whole st → read_within room l₂ ≡ whole st
  order_of_rows room st e =
      let f = the_end_fits room l₁ st e in
      let q : model_of l₂ ≡ st = sym same_model ∙ sym f.0 in
      read_to_the_end room l₂ (subst (Fits room) (sym q) f.1) ∙ ap whole q
