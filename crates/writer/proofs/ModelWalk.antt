-- In a well-formed model a walk over the atoms, with the residues beside them, stands in the residue of each atom and knows its number: the atoms are in the
-- order of the residues, and a chain's residues are next to each other.
use mathlib.Core.Path.{◌≡◌, refl, sym, ap, ◌∙◌}
use mathlib.Core.Bool.{Bool, true, false, cond}
use mathlib.Core.List.{List}
use Prim.Native.Nat.{ℕ, suc, ◌+◌, ◌<◌}
use native.Mathlib.Omega.{arith}
use lib.Dec.{eqb}
use borrow.Author.Tests.{eqb-true, eqb-false}
use Rattle.model.specs.Lent.{Lent, residue_in, list_from, model_in}
use Rattle.model.specs.Records.{ResidueRecord}
use Rattle.model.specs.TakenOut.{residue_out}
use Rattle.model.specs.WellFormed.{well_formed_in}
use Rattle.model.specs.declared.room.Room.{Room}
use Rattle.wellformed.specs.Slices.{entries}
use Rattle.writer.specs.Text.{number_in, residue_for}
use Rattle.writer.specs.PolymerNumbers.{number_after, entered_at, begun, walked_to}
use Rattle.writer.specs.declared.polymer_numbers.Walk.{Walk}
use Rattle.writer.proofs.NumberWalk.{none_numbered, number_goes}
use Rattle.writer.proofs.ResiduesByIndex.{residue_is}
use Rattle.writer.proofs.RunWalk.{StandsIn, stands_first, stands_still, stands_next}
use Rattle.writer.proofs.WellFormedParts.{runs, keyed}

-- on to the atom at index i
abbrev pub walked_on : Lent → ℕ → Walk → Walk
walked_on l i w = walked_to (residue_in l) w (entries l.atom_keys i)

abbrev residues_in : Lent → ℕ → List ResidueRecord
residues_in l residues = list_from (residue_in l) 0 residues

module _ (l : Lent) (residues atoms : ℕ) where
  -- in the residue at an index
  abbrev standing : ℕ → Walk
  standing j = record { index = j; number = number_in (residues_in l residues) (residue_in l j).key; residue = residue_out (residue_in l j) }

  -- before the atom at index i
  pub record Walked (i : ℕ) (w : Walk) : Type 0 where
    pub stands : StandsIn (entries l.residue_keys) (entries l.atom_keys) residues atoms i w.index
    pub is : 0 < atoms → w ≡ standing w.index

module _ (l : Lent) (counts : Room) (well : well_formed_in l counts ≡ true) where
  pub walk_begins : Walked l counts.residues counts.atoms 0 (begun (residue_in l))
  walk_begins =
      let s = stands_first (entries l.residue_keys) (entries l.atom_keys) counts.residues counts.atoms (runs l counts well) in
      record { stands = s; is = λ some. λ k. record { index = 0; number = number_goes (residue_in l) counts.residues 0 0 0 (keyed l counts well) (none_numbered (residue_in l) counts.residues) (s.within some) k; residue = residue_out (residue_in l 0) } }

  module _ (i : ℕ) (h : i < counts.atoms) (w : Walk) (before : Walked l counts.residues counts.atoms i w) where
    abbrev on : Walk
    on = walked_on l i w

    next_number : suc w.index < counts.residues → number_after w.number w.residue.chain (residue_out (residue_in l (suc w.index))) ≡ number_in (residues_in l counts.residues) (residue_in l (suc w.index)).key
    unfolding residue_out
    next_number g =
        let e = before.is (omega arith) in
        number_goes (residue_in l) counts.residues (suc w.index) w.number w.residue.chain (keyed l counts well)
        (record { counts = ap (λ (v : Walk). v.number) e; place = ap (λ (v : Walk). v.residue.chain) e })
        g

    goes : Walked l counts.residues counts.atoms (i + 1) on × ((residue_in l on.index).key ≡ entries l.atom_keys i)
    unfolding walked_to
    goes = go (eqb (residue_in l w.index).key (entries l.atom_keys i)) refl
      where
        go : (b : Bool) → eqb (residue_in l w.index).key (entries l.atom_keys i) ≡ b
            → let v = cond b w (entered_at (residue_in l) (suc w.index) w.number w.residue.chain) in Walked l counts.residues counts.atoms (i + 1) v × ((residue_in l v.index).key ≡ entries l.atom_keys i)
        go true e =
            let same = eqb-true (residue_in l w.index).key (entries l.atom_keys i) e in
            (record { stands = stands_still (entries l.residue_keys) (entries l.atom_keys) counts.residues counts.atoms i w.index h before.stands same; is = before.is }, same)
        go false e =
            let n = stands_next (entries l.residue_keys) (entries l.atom_keys) counts.residues counts.atoms i w.index h before.stands (eqb-false (residue_in l w.index).key (entries l.atom_keys i) e) in (
              record {
                stands = n.1;
                is = λ some. λ k. record { index = suc w.index; number = next_number (n.1.within some) k; residue = residue_out (residue_in l (suc w.index)) };
              },
              n.0,
            )

    pub walk_goes : Walked l counts.residues counts.atoms (i + 1) on
    walk_goes = goes.0

    abbrev there : on.index < counts.residues
    there = goes.0.stands.within (omega arith)

    -- the residue of the atom, and its number
    residue_found : residue_for (residues_in l counts.residues) (entries l.atom_keys i) ≡ residue_in l on.index
    residue_found = ap (residue_for (residues_in l counts.residues)) (sym goes.1) ∙ residue_is (residue_in l) counts.residues on.index (keyed l counts well) there

    pub walk_residue : on.residue ≡ residue_out (residue_for (model_in l counts).residues (entries l.atom_keys i))
    unfolding model_in
    walk_residue = ap (λ (v : Walk). v.residue) (goes.0.is (omega arith)) ∙ ap residue_out (sym residue_found)

    pub walk_number : on.number ≡ number_in (model_in l counts).residues (entries l.atom_keys i)
    unfolding model_in
    walk_number = ap (λ (v : Walk). v.number) (goes.0.is (omega arith)) ∙ ap (number_in (residues_in l counts.residues)) goes.1
