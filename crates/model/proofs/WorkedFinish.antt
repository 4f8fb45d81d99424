-- Document 01's whole case, finished: MSE is MET, and being lone in its chain it has the first mark; QQQ has one atom, and is an ion. Then two chains
-- with every mark, and a residue that is refused.
use mathlib.Core.Path.{◌≡◌, refl}
use mathlib.Core.Bool.{Bool, true, false}
use mathlib.Core.List.{List, [], ◌∷◌, map}
use Prim.Native.Nat.{ℕ, ◌+◌, ◌^◌}
use Prim.Native.String.{String}
use lib.Ieee.{of_bits, lt}
use Rattle.names.specs.Categories.{category_code}
use Rattle.names.specs.Packing.{packed_in}
use Rattle.names.specs.Polymers.{kind_of, polymer_of}
use Rattle.names.specs.Positions.{position_code}
use Rattle.names.specs.Residues.{standard_residues, residues, residue_code, residue_of}
use Rattle.names.specs.Table.{canonical, aliases, resolve_in, resolve_of}
use Rattle.names.specs.declared.residues.ResidueCategory.{ResidueCategory}
use Rattle.names.specs.declared.residues.ResidueCategory.TheVariants.{Standard, Hetero, Ion}
use Rattle.names.specs.declared.residues.ResiduePosition.{ResiduePosition}
use Rattle.names.specs.declared.residues.ResiduePosition.TheVariants.{None, Internal, NTerminal, CTerminal, FivePrime, ThreePrime}
use Rattle.names.specs.declared.residues.StandardResidue.TheVariants.{MET}
use Rattle.rows.specs.declared.rules.Point3.{Point3}
use Rattle.model.specs.Chains.{chain_place, with_chain}
use Rattle.model.specs.Classes.{is_lone, class_of, is_unknown}
use Rattle.model.specs.Finished.{Finished, unknown, known, unknown_in, finished_of}
use Rattle.model.specs.Fold.{Residue, Atom, State, step, run, model_of}
use Rattle.model.specs.Keys.{residue_key, atom_place, residue_at, atom_at}
use Rattle.model.specs.Map.{Entry, Map, find, put}
use Rattle.model.specs.Termini.{is_polymer, is_first, is_last, ruled_position}
use Rattle.model.proofs.WorkedReading.{name, six_tenths, one, case}

pub whole_case_finished : (p q r : Point3) → finished_of (model_of (case p q r)) ≡ known (record {
  chains = name "A" ∷ [];
  residues =
      record { key = residue_key 0 (2 ^ 31 + 7) 0; name = name "MET"; code = residue_code MET; category = category_code Standard; position = position_code NTerminal }
      ∷ record { key = residue_key 0 (2 ^ 31 + 9) 0; name = name "QQQ"; code = 0; category = category_code Ion; position = position_code None }
      ∷ [];
  atoms =
      record { key = residue_key 0 (2 ^ 31 + 7) 0; name = name "CA"; element = 6; position = p; occupancy = six_tenths }
      ∷ record { key = residue_key 0 (2 ^ 31 + 9) 0; name = name "O'"; element = 8; position = r; occupancy = one }
      ∷ [];
})
unfolding
    run step put find chain_place with_chain residue_at atom_at packed_in lt of_bits
    finished_of unknown_in is_unknown class_of is_lone resolve_of resolve_in canonical aliases
    ruled_position is_first is_last is_polymer polymer_of kind_of residue_of residue_code residues standard_residues
whole_case_finished p q r = refl

-- ---- the marks
abbrev residue : ℕ → ℕ → String → Bool → Entry Residue
residue place sequence n hetatm = record { key = residue_key place (2 ^ 31 + sequence) 0; value = record { name = name n; hetatm = hetatm } }

abbrev atom : Atom → ℕ → ℕ → String → Entry Atom
atom a place sequence n = record { key = atom_place (residue_key place (2 ^ 31 + sequence) 0) (name n); value = a }

abbrev state : List ℕ → Map Residue → Map Atom → State
state chains residues atoms = record { chains = chains; residues = residues; atoms = atoms; rows = 0; skipped = 0; outdone = 0; assumed = 0 }

-- category and position of each residue
abbrev rulings : Finished → List (ℕ × ℕ)
rulings (unknown place) = []
rulings (known m) = map (λ r. (r.category, r.position)) m.residues

abbrev ruling : ResidueCategory → ResiduePosition → ℕ × ℕ
ruling c p = (category_code c, position_code p)

pub every_mark : (a : Atom) → rulings (finished_of (state
    (name "A" ∷ name "B" ∷ [])
    (residue 0 1 "GLY" false ∷ residue 0 2 "WAT" true ∷ residue 0 3 "SEP" true ∷ residue 0 4 "ALA" false ∷ residue 0 5 "LIG" true ∷ residue 1 1 "DA" false ∷ residue 1 2 "DG" false ∷ [])
    (atom a 0 5 "C1" ∷ atom a 0 5 "C2" ∷ [])))
    ≡ ruling Standard NTerminal ∷ ruling Standard None ∷ ruling Standard Internal ∷ ruling Standard CTerminal ∷ ruling Hetero None
    ∷ ruling Standard FivePrime ∷ ruling Standard ThreePrime ∷ []
unfolding
    packed_in finished_of unknown_in is_unknown class_of is_lone resolve_of resolve_in canonical aliases
    ruled_position is_first is_last is_polymer polymer_of kind_of residue_of residue_code residues standard_residues
every_mark a = refl

-- ---- neither resolved nor HETATM
pub second_refused : finished_of (state (name "A" ∷ []) (residue 0 1 "QQQ" true ∷ residue 0 2 "QQQ" false ∷ residue 0 3 "his" false ∷ []) []) ≡ unknown 2
unfolding packed_in finished_of unknown_in is_unknown resolve_of resolve_in canonical aliases
second_refused = refl
