-- Well formed: what document 01 asks of a model in lent slices.
use Rattle.std.specs.Prelude.{Bool, true, false, not, ◌&&◌, ◌||◌, cond, List, [], ◌∷◌, map, ℕ, eqb, leb, ltb, length}
use Rattle.ascii.specs.Bytes.{bytes, is_text_byte}
use Rattle.ascii.specs.Lists.{every}
use Rattle.names.specs.Packing.{packed, unpacked}
use Rattle.names.specs.Places.{ascends}
use Rattle.numbers.specs.Rounding.{printable}
use Rattle.rows.specs.declared.rules.Point3.{Point3}
use Rattle.model.specs.Classes.{class_of, is_lone}
use Rattle.model.specs.Keys.{chain_part, code_part, atom_place}
use Rattle.model.specs.Lent.{Lent, room_of, list_from, model_in}
use Rattle.model.specs.Lists.{any}
use Rattle.model.specs.Records.{ResidueRecord, AtomRecord, Model}
use Rattle.model.specs.Termini.{ruled_position}
use Rattle.model.specs.declared.room.Room.{Room}

-- ---- lists

abbrev pub same_list : List ℕ → List ℕ → Bool
same_list [] [] = true
same_list [] (y ∷ m) = false
same_list (x ∷ l) [] = false
same_list (x ∷ l) (y ∷ m) = eqb x y && same_list l m

-- the first of each run of equal numbers: those after x, and all
unfoldable pub runs_after : ℕ → List ℕ → List ℕ
runs_after x [] = []
runs_after x (y ∷ l) = cond (eqb x y) (runs_after x l) (y ∷ runs_after y l)

abbrev pub runs_of : List ℕ → List ℕ
runs_of [] = []
runs_of (x ∷ l) = x ∷ runs_after x l

-- no two are the same
unfoldable pub differ : List ℕ → Bool
differ [] = true
differ (x ∷ l) = not (any (eqb x) l) && differ l

-- ---- names, codes, coordinates

-- 1 to 8 bytes, each 9 or 32 to 126
unfoldable pub is_name : ℕ → Bool
is_name n = ltb 0 n && every is_text_byte (unpacked n)

-- 0, 9 or 32 to 126
unfoldable pub is_code : ℕ → Bool
is_code b = eqb b 0 || is_text_byte b

-- finite, magnitude at most 1,000,000
abbrev pub is_near : Point3 → Bool
is_near p = printable p.x && printable p.y && printable p.z

-- ---- chains, residues, atoms

unfoldable pub chains_well : List ℕ → Bool
chains_well chains = differ chains && every (λ c. is_name c && not (eqb c (packed (bytes ".")))) chains

-- name, standard code and category: an alias would lead to another name
unfoldable pub class_well : List AtomRecord → ResidueRecord → Bool
class_well atoms r =
    let c = class_of r.name (is_lone atoms r.key) in
    eqb r.name c.name && eqb r.code c.code && eqb r.category c.category

unfoldable pub residue_well : Model → ResidueRecord → Bool
residue_well m r =
    is_name r.name && is_code (code_part r.key) && class_well m.atoms r && eqb r.position (ruled_position m.residues r)

unfoldable pub atom_well : AtomRecord → Bool
atom_well a = is_name a.name && leb a.element 118 && is_near a.position

-- ---- the whole

-- chains, residues, atoms form consecutive nonempty runs: each chain has residues, in the order of the chains, and each residue atoms
unfoldable pub in_runs : Model → Bool
in_runs m =
    same_list (runs_of (map (λ r. chain_part r.key) m.residues)) (list_from (λ i. i) 0 (length m.chains))
    && same_list (runs_of (map (λ a. a.key) m.atoms)) (map (λ r. r.key) m.residues)

-- residues and atom names strictly ascend
unfoldable pub in_order : Model → Bool
in_order m = ascends (map (λ r. r.key) m.residues) && ascends (map (λ a. atom_place a.key a.name) m.atoms)

unfoldable pub well_formed : Model → Bool
well_formed m = chains_well m.chains && in_runs m && in_order m && every (residue_well m) m.residues && every atom_well m.atoms

-- counts fit records and sizes
abbrev pub within : Room → Room → Bool
within counts room = leb counts.chains room.chains && leb counts.residues room.residues && leb counts.atoms room.atoms

unfoldable pub counts_fit : Lent → Room → Bool
counts_fit l counts = within counts (room_of l)

unfoldable pub well_formed_in : Lent → Room → Bool
well_formed_in l counts = counts_fit l counts && well_formed (model_in l counts)
