-- What a site does to the lent slices and the counts.
use Rattle.std.specs.Prelude.{◌≡◌, Bool, true, ◌&&◌, cond, ℕ, suc, ◌^◌, ◌≤◌, ◌<◌, leb, ltb, is_ok, is_err, Option, None, Some, Result, Ok, Err}
use Rattle.refusals.specs.declared.details.RecordKind.{RecordKind}
use Rattle.rows.specs.declared.rules.Site.{Site}
use Rattle.model.specs.Fold.{State, step}
use Rattle.model.specs.Keys.{residue_key}
use Rattle.model.specs.Lent.{coordinates}
use Rattle.model.specs.Lists.{count}
use Rattle.model.specs.Proper.{Proper}
use Rattle.model.specs.declared.room.Room.{Room}
use Rattle.model.specs.Room.{no_room, first_lack, lacking}
use Rattle.model.specs.Taken.{site}
use Rattle.building.specs.declared.atoms.AtomEntry.{AtomEntry}
use Rattle.building.specs.declared.held.Held.{Held}
use Rattle.building.specs.declared.residues.ResidueEntry.{ResidueEntry}
use Rattle.building.specs.declared.sites.Counts.{Counts}
use Rattle.building.specs.declared.sites.Places.{Places}
use Rattle.building.specs.Gaps.{HoldsApart}
use Rattle.building.specs.Holds.{Records, records_of, SameLengths}
use Rattle.building.specs.Kinds.{ResidueSlices, ResidueSought, AtomSlices, AtomSought}

-- ---- where it goes

-- the chain is not there
abbrev pub is_new_chain : Counts → Places → Bool
is_new_chain c p = leb c.chains p.chain

-- the places of a site whose chain stands at this place, as the looks say them, in slices that are long enough
pub record SoughtFor (r : ResidueSlices) (a : AtomSlices) (h : Held) (place : ℕ) (s : Site) (p : Places) : Type 0 where
  pub chain : p.chain ≡ place
  pub key : p.chain ≤ 4096 → p.key ≡ residue_key p.chain s.sequence s.insertion_code
  pub residue : ResidueSought r h.residues p.key p.residue
  pub atom : AtomSought a h.atoms p.key s.atom p.atom

-- what has no room
unfoldable pub lack_of : Room → Counts → Places → Option RecordKind
lack_of room c p =
    first_lack (no_room (is_new_chain c p) room.chains c.chains) (no_room (is_err p.residue) room.residues c.residues) (no_room (is_err p.atom) room.atoms c.atoms)

-- ---- what it leaves

-- what a site says of its residue and of its atom, by the residue's key, as the slices have it
abbrev pub residue_entry : ℕ → Site → ResidueEntry
residue_entry key s = record { key = key; name = s.residue; mark = count s.hetatm }

abbrev pub atom_entry : ℕ → Site → AtomEntry
atom_entry key s = record { key = key; name = s.atom; element = s.element; position = coordinates s.position; occupancy = s.occupancy }

-- one more where that is so, up to the greatest number that there is
unfoldable pub one_more : Bool → ℕ → ℕ
one_more more n = cond (more && ltb n 18446744073709551615) (suc n) n

abbrev pub counts_with : Counts → Places → Bool → Counts
counts_with c p assumed = record {
  chains = one_more (is_new_chain c p) c.chains;
  residues = one_more (is_err p.residue) c.residues;
  atoms = one_more (is_err p.atom) c.atoms;
  rows = one_more true c.rows;
  skipped = c.skipped;
  outdone = one_more (is_ok p.atom) c.outdone;
  assumed = one_more assumed c.assumed;
}

-- a skipped row
abbrev pub with_skipped : Held → Held
with_skipped h =
    let c = h.counts in
    record {
      counts = record {
        chains = c.chains;
        residues = c.residues;
        atoms = c.atoms;
        rows = one_more true c.rows;
        skipped = one_more true c.skipped;
        outdone = c.outdone;
        assumed = c.assumed;
      };
      residues = h.residues;
      atoms = h.atoms;
    }

-- ---- the whole

-- residues and atoms are as they were
abbrev pub OnlyChains : Records → Records → Type 0
OnlyChains r after =
    after ≡ records_of after.chains r.residue_keys r.residue_names r.residue_marks r.atom_keys r.atom_names r.elements r.positions r.occupancies

-- No slice is longer or shorter. Where the site had no room, residues and atoms are as they were, and that is what it lacked of any model that the slices and counts held; else no
-- chain is forgotten, it lacked none, and they hold the model with the site, if the greatest number is above its count of rows.
abbrev pub Did : Records → Room → Held → Site → Result Held RecordKind → Records → Type 0
Did r room h s (Err kind) after = SameLengths r after × OnlyChains r after × ((st : State) → HoldsApart r room h st → Proper s → lacking room st (site s) ≡ Some kind)
Did r room h s (Ok d) after =
    SameLengths r after
    × (h.counts.chains ≤ d.counts.chains)
    × ((st : State) → HoldsApart r room h st → Proper s
    → (lacking room st (site s) ≡ None) × (suc st.rows < 2 ^ 64 → HoldsApart after room d (step st (site s))))
