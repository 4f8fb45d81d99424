-- What a walk over slices in order sees from where it stands.
use Rattle.std.specs.Prelude.{Bool, true, not, cond, List, [], ◌∷◌, ℕ, suc, eqb, ltb}
use Rattle.names.specs.Polymers.{polymer_of}
use Rattle.names.specs.Positions.{position_code}
use Rattle.model.specs.Keys.{chain_part}
use Rattle.model.specs.Records.{ResidueRecord}
use Rattle.model.specs.Termini.{position_by, is_polymer}

-- ---- atoms, by the keys of their residues

-- how many from the front are less than key
unfoldable pub lessers : ℕ → List ℕ → ℕ
lessers key [] = 0
lessers key (k ∷ l) = cond (ltb k key) (suc (lessers key l)) 0

-- the second from the front is not key
unfoldable pub alone_in : ℕ → List ℕ → Bool
alone_in key [] = true
alone_in key (k ∷ []) = true
alone_in key (k ∷ next ∷ l) = not (eqb next key)

-- ---- residues, by their keys and standard codes

-- the place of the chain, from 1, of the last Standard non-HOH residue that was met; 0 where none was
abbrev pub met_with : ℕ → ℕ → ℕ → ℕ
met_with met key code = cond (is_polymer code) (suc (chain_part key)) met

-- the same past many
unfoldable pub met_in : ℕ → List ResidueRecord → ℕ
met_in met [] = met
met_in met (r ∷ l) = met_in (met_with met r.key r.code) l

-- the first Standard non-HOH residue from the front is not of the chain
unfoldable pub ends_chain : ℕ → List (ℕ × ℕ) → Bool
ends_chain place [] = true
ends_chain place (r ∷ l) = cond (is_polymer r.1) (not (eqb (chain_part r.0) place)) (ends_chain place l)

-- the position of a residue, where the last Standard non-HOH one before it was of a chain, from 1, and by the keys and codes of those after it
unfoldable pub position_between : ℕ → ℕ → ℕ → List (ℕ × ℕ) → ℕ
position_between met key code after =
    position_code (position_by (polymer_of code) (not (eqb met (suc (chain_part key)))) (ends_chain (chain_part key) after))
