-- The finished model: names resolved, categories and positions; or the first unknown residue in model order.
use Rattle.std.specs.Prelude.{◌≡◌, true, cond, List, [], ◌∷◌, map, ℕ, suc, ◌/◌, ◌%◌, ◌^◌, eqb}
use Rattle.std.proofs.Math.Option.{Option, none, some}
use Rattle.model.specs.declared.classes.Class.{Class}
use Rattle.model.specs.Classes.{class_of, is_lone, is_unknown}
use Rattle.model.specs.Fold.{Residue, Atom, State}
use Rattle.model.specs.Lists.{any, All}
use Rattle.model.specs.Map.{Entry, Map}
use Rattle.model.specs.Records.{ResidueRecord, AtomRecord, Model}
use Rattle.model.specs.Termini.{ruled_position}

pub data Finished : Type 0 where
  -- the first unknown residue's place, from 1 over the model
  unknown : ℕ → Finished
  known : Model → Finished

-- an atom's place is its residue's key and its name in one number
abbrev pub key_part : ℕ → ℕ
key_part place = place / 2 ^ 64

abbrev pub name_part : ℕ → ℕ
name_part place = place % 2 ^ 64

abbrev pub atom_record : Entry Atom → AtomRecord
atom_record e = record {
  key = key_part e.key;
  name = name_part e.key;
  element = e.value.element;
  position = e.value.position;
  occupancy = e.value.occupancy;
}

-- with no position as yet
abbrev pub with_class : ℕ → Class → ResidueRecord
with_class key c = record { key = key; name = c.name; code = c.code; category = c.category; position = 0 }

abbrev pub classified : List AtomRecord → Entry Residue → ResidueRecord
classified atoms e = with_class e.key (class_of e.value.name (is_lone atoms e.key))

abbrev pub positioned : List ResidueRecord → ResidueRecord → ResidueRecord
positioned residues r = record { key = r.key; name = r.name; code = r.code; category = r.category; position = ruled_position residues r }

abbrev pub all_positioned : List ResidueRecord → List ResidueRecord
all_positioned residues = map (positioned residues) residues

-- one residue further on
abbrev pub further : Option ℕ → Option ℕ
further none = none
further (some place) = some (suc place)

-- the place of the first unknown one
unfoldable pub unknown_in : Map Residue → Option ℕ
unknown_in [] = none
unknown_in (e ∷ m) = cond (is_unknown e.value) (some 1) (further (unknown_in m))

abbrev pub model_from : State → Model
model_from st =
    let atoms = map atom_record st.atoms in
    record { chains = st.chains; residues = all_positioned (map (classified atoms) st.residues); atoms = atoms }

abbrev pub unless : Option ℕ → Model → Finished
unless none m = known m
unless (some place) m = unknown place

unfoldable pub finished_of : State → Finished
finished_of st = unless (unknown_in st.residues) (model_from st)

-- each residue has an atom
abbrev pub Peopled : State → Type 0
Peopled st = All (λ e. any (λ a. eqb (key_part a.key) e.key) st.atoms ≡ true) st.residues
