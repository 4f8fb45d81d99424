-- Where residues and atoms stand in the model: one number for each, and the order of the numbers is the model's order. Chains in first-met order;
-- residues by sequence as signed number, then insertion code, none first; atoms by name bytes.
use Rattle.std.specs.Prelude.{◌≡◌, ◌⊎◌, List, ℕ, ◌+◌, ◌*◌, ◌/◌, ◌%◌, ◌^◌, ◌<◌}
use Rattle.rows.specs.declared.rules.Site.{Site}
use Rattle.model.specs.Chains.{chain_place}

-- a residue's key, by the place of its chain, its sequence (moved up by 2 ^ 31, so that it has no sign) and its insertion code (a byte, 0 for none)
abbrev pub residue_key : ℕ → ℕ → ℕ → ℕ
residue_key place sequence code = place * 2 ^ 40 + sequence * 2 ^ 8 + code

-- and those three, by the key
abbrev pub chain_part : ℕ → ℕ
chain_part key = key / 2 ^ 40

abbrev pub sequence_part : ℕ → ℕ
sequence_part key = key % 2 ^ 40 / 2 ^ 8

abbrev pub code_part : ℕ → ℕ
code_part key = key % 2 ^ 8

-- an atom's place, by its residue's key and its packed name
abbrev pub atom_place : ℕ → ℕ → ℕ
atom_place key name = key * 2 ^ 64 + name

-- those of a site, among the chains
unfoldable pub residue_at : List ℕ → Site → ℕ
residue_at chains s = residue_key (chain_place s.chain chains) s.sequence s.insertion_code

unfoldable pub atom_at : List ℕ → Site → ℕ
atom_at chains s = atom_place (residue_at chains s) s.atom

-- what the order of the numbers is to be: a residue comes before another
abbrev pub ResidueBefore : List ℕ → Site → Site → Type 0
ResidueBefore chains s t =
    (chain_place s.chain chains < chain_place t.chain chains)
    ⊎ ((chain_place s.chain chains ≡ chain_place t.chain chains)
    × ((s.sequence < t.sequence) ⊎ ((s.sequence ≡ t.sequence) × (s.insertion_code < t.insertion_code))))

abbrev pub AtomBefore : List ℕ → Site → Site → Type 0
AtomBefore chains s t = ResidueBefore chains s t ⊎ ((residue_at chains s ≡ residue_at chains t) × (s.atom < t.atom))
