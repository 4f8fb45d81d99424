-- What a walk over residues and atoms in their order says of each residue, by its index: what it is, and whether it is unknown.
use Rattle.std.specs.Prelude.{◌≡◌, Bool, ◌&&◌, cond, List, ℕ, zero, suc, ◌+◌, eqb, get_or, set, drop, length, Option, Some, None}
use Rattle.model.specs.Classes.{class_of}
use Rattle.model.specs.Neighbours.{lessers, alone_in}
use Rattle.model.specs.declared.classes.Class.{Class}
use Rattle.model.specs.declared.lent.ResiduesMut.{ResiduesMut}
use Rattle.finishing.specs.Filling.{filled}

-- no standard code and no HETATM mark
abbrev pub is_unknown_by : ℕ → ℕ → Bool
is_unknown_by code mark = eqb code 0 && eqb mark 0

-- how many atoms, by the keys of their residues, are passed before residue i
unfoldable pub passed_at : List ℕ → List ℕ → ℕ → ℕ
passed_at keys atoms zero = 0
passed_at keys atoms (suc i) = passed_at keys atoms i + lessers (get_or keys i 0) (drop (passed_at keys atoms i) atoms)

-- what residue i is
unfoldable pub class_at : List ℕ → List ℕ → List ℕ → ℕ → Class
class_at keys names atoms i = class_of (get_or names i 0) (alone_in (get_or keys i 0) (drop (passed_at keys atoms (suc i)) atoms))

-- residue i is unknown
abbrev pub unknown_at : List ℕ → List ℕ → List ℕ → List ℕ → ℕ → Bool
unknown_at keys names marks atoms i = is_unknown_by (class_at keys names atoms i).code (get_or marks i 0)

-- the place, from 1, of the first index that passes, among n from i on; none where none does
unfoldable pub first_place : (ℕ → Bool) → ℕ → ℕ → Option ℕ
first_place passes i zero = None
first_place passes i (suc n) = cond (passes i) (Some (suc i)) (first_place passes (suc i) n)

-- the answer is the first unknown one's place, and where there is none the slices hold what each residue is
pub record Classified (keys names codes marks atoms : List ℕ) (n : ℕ) (r : Option ℕ) (names' codes' categories : List ℕ) : Type 0 where
  pub answer : r ≡ first_place (unknown_at keys names marks atoms) 0 n
  pub names_stored : r ≡ None → names' ≡ filled (λ i. (class_at keys names atoms i).name) n names
  pub codes_stored : r ≡ None → codes' ≡ filled (λ i. (class_at keys names atoms i).code) n codes
  pub categories_stored : r ≡ None → categories ≡ filled (λ i. (class_at keys names atoms i).category) n marks

-- ---- the same of lent records: the marks stand where the categories will

-- what residue i is, in its records
pub record ClassStored (c : Class) (i : ℕ) (r after : ResiduesMut) : Type 0 where
  pub names : after.names.now ≡ set r.names.now i c.name
  pub codes : after.codes.now ≡ set r.codes.now i c.code
  pub categories : after.categories.now ≡ set r.categories.now i c.category
  pub keys : after.keys.now ≡ r.keys.now
  pub positions : after.positions.now ≡ r.positions.now

-- these slices are as long as they were
abbrev pub ClassesAsLong : ResiduesMut → ResiduesMut → Type 0
ClassesAsLong r after =
    (length after.names.now ≡ length r.names.now) × (length after.codes.now ≡ length r.codes.now) × (length after.categories.now ≡ length r.categories.now)

pub record Classifies (r : ResiduesMut) (atoms : List ℕ) (n : ℕ) (unknown : Option ℕ) (after : ResiduesMut) : Type 0 where
  pub classified : Classified r.keys.now r.names.now r.codes.now r.categories.now atoms n unknown after.names.now after.codes.now after.categories.now
  pub keys : after.keys.now ≡ r.keys.now
  pub positions : after.positions.now ≡ r.positions.now
  pub long : ClassesAsLong r after
