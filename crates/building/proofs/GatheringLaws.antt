-- With both kinds at the front of their slices, these hold from the front what they held in their areas.
use mathlib.Core.Path.{◌≡◌, sym, ap, subst}
use mathlib.Core.List.{List}
use Prim.Native.Nat.{ℕ}
use lib.ListN.{length}
use Rattle.model.specs.Fold.{State}
use Rattle.model.specs.declared.room.Room.{Room}
use Rattle.building.specs.declared.held.Held.{Held}
use Rattle.building.specs.Gaps.{residues_in, atoms_in, HoldsApart, Gathers}
use Rattle.building.specs.Holds.{Records, SameLengths, HoldsChains, HoldsResidues, HoldsAtoms, Holds}
use Rattle.building.specs.Kinds.{ResiduesIn, ResiduesFirst, ResiduesLong, ResiduesSame, AtomsIn, AtomsFirst, AtomsLong, AtomsSame}
use Rattle.building.specs.Stores.{Gathered}
use Rattle.building.proofs.RoomInSlices.{room_stays}

module _ (r : Records) (h : Held) (after : Records) (chains : after.chains ≡ r.chains)
    (residues : Gathered (ResiduesSame (residues_in r) (residues_in after)) (ResiduesLong (residues_in r)) (ResiduesIn (residues_in r)) (ResiduesFirst (residues_in after)) h.residues)
    (atoms : Gathered (AtomsSame (atoms_in r) (atoms_in after)) (AtomsLong (atoms_in r)) (AtomsIn (atoms_in r)) (AtomsFirst (atoms_in after)) h.atoms) where
  lengths : SameLengths r after
  lengths = record {
    chains = ap length chains;
    residue_keys = residues.same.keys;
    residue_names = residues.same.names;
    residue_marks = residues.same.marks;
    atom_keys = atoms.same.keys;
    atom_names = atoms.same.names;
    elements = atoms.same.elements;
    positions = atoms.same.positions;
    occupancies = atoms.same.occupancies;
  }

  from_front : (room : Room) (st : State) → HoldsApart r room h st → Holds after room h.counts st
  from_front room st a =
      let w = a.within in
      let c = a.counted in
      record {
        within = room_stays room r after lengths w;
        chains = subst (λ (l : List ℕ). HoldsChains l h.counts.chains st.chains) (sym chains) a.chains;
        residues =
            subst (λ (n : ℕ). HoldsResidues after.residue_keys after.residue_names after.residue_marks n st.residues) (sym c.residues)
            (residues.front room.residues st.residues (record { keys = w.residues.0; names = w.residues.1; marks = w.residues.2 }) a.residues);
        atoms =
            subst (λ (n : ℕ). HoldsAtoms after.atom_keys after.atom_names after.elements after.positions after.occupancies n st.atoms) (sym c.atoms)
            (atoms.front room.atoms st.atoms (record { keys = w.atoms.0; names = w.atoms.1; elements = w.atoms.2; positions = w.atoms.3; occupancies = w.atoms.4 }) a.atoms);
        fits = a.fits;
        rows = c.rows;
        skipped = c.skipped;
        outdone = c.outdone;
        assumed = c.assumed;
        skipped_rows = c.skipped_rows;
        outdone_rows = c.outdone_rows;
        assumed_rows = c.assumed_rows;
      }

  pub all_gathered : Gathers r h after
  all_gathered = record { lengths = lengths; model = from_front }
