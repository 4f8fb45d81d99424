-- The text of a model: document 01's "Writing". Two opening lines, the polymer list, the atom loop, the last two closed by `#`.
use Rattle.std.specs.Prelude.{ℕ, suc, ◌&&◌, cond, List, [], ◌∷◌, ◌++◌, eqb, leb, length, get_or}
use Rattle.ascii.specs.Bytes.{bytes}
use Rattle.model.specs.Keys.{chain_part, sequence_part, code_part}
use Rattle.model.specs.Lists.{filter}
use Rattle.model.specs.Records.{ResidueRecord, AtomRecord, Model}
use Rattle.model.specs.Termini.{is_polymer}
use Rattle.row_texts.specs.Rows.{atom_text, polymer_text, line_text}
use Rattle.row_texts.specs.declared.loop_rows.AtomRow.{AtomRow}
use Rattle.row_texts.specs.declared.loop_rows.PolymerRow.{PolymerRow}

-- lines, one after the other
unfoldable pub lines_text : List (List ℕ) → List ℕ
lines_text [] = []
lines_text (line ∷ lines) = line_text line ++ lines_text lines

-- ---- what a row says

-- "Entity number is the chain's place from 1."
abbrev pub entity_of : ℕ → ℕ
entity_of key = suc (chain_part key)

-- "numbered from 1 in its chain": how many polymer residues its chain has up to it
unfoldable pub number_in : List ResidueRecord → ℕ → ℕ
number_in residues key = length (filter (λ t. is_polymer t.code && eqb (chain_part t.key) (chain_part key) && leb t.key key) residues)

-- the residue of a key
unfoldable pub residue_for : List ResidueRecord → ℕ → ResidueRecord
residue_for [] key = record { key = 0; name = 0; code = 0; category = 0; position = 0 }
residue_for (r ∷ residues) key = cond (eqb r.key key) r (residue_for residues key)

abbrev pub atom_row_of : Model → ℕ → AtomRecord → AtomRow
atom_row_of m id a =
    let r = residue_for m.residues a.key in
    record {
      polymer = is_polymer r.code;
      id = id;
      element = a.element;
      atom = a.name;
      residue = r.name;
      chain = get_or m.chains (chain_part a.key) 0;
      entity = entity_of a.key;
      number = number_in m.residues a.key;
      insertion_code = code_part a.key;
      position = a.position;
      sequence = sequence_part a.key;
    }

abbrev pub polymer_row_of : Model → ResidueRecord → PolymerRow
polymer_row_of m r = record { entity = entity_of r.key; number = number_in m.residues r.key; residue = r.name }

-- ---- the rows

-- ids from 1
unfoldable pub atom_rows : Model → ℕ → List AtomRecord → List ℕ
atom_rows m id [] = []
atom_rows m id (a ∷ atoms) = atom_text (atom_row_of m id a) ++ atom_rows m (suc id) atoms

unfoldable pub polymer_rows : Model → List ResidueRecord → List ℕ
polymer_rows m [] = []
polymer_rows m (r ∷ residues) = cond (is_polymer r.code) (polymer_text (polymer_row_of m r)) [] ++ polymer_rows m residues

-- ---- the parts

abbrev pub opening : List (List ℕ)
opening = bytes "data_bio_forge_export" ∷ bytes "#" ∷ []

abbrev pub closing : List (List ℕ)
closing = bytes "#" ∷ []

abbrev pub polymer_headers : List (List ℕ)
polymer_headers =
    bytes "loop_"
    ∷ bytes "_entity_poly_seq.entity_id"
    ∷ bytes "_entity_poly_seq.num"
    ∷ bytes "_entity_poly_seq.mon_id"
    ∷ bytes "_entity_poly_seq.hetero"
    ∷ []

abbrev pub atom_headers : List (List ℕ)
atom_headers =
    bytes "loop_"
    ∷ bytes "_atom_site.group_PDB"
    ∷ bytes "_atom_site.id"
    ∷ bytes "_atom_site.type_symbol"
    ∷ bytes "_atom_site.label_atom_id"
    ∷ bytes "_atom_site.label_alt_id"
    ∷ bytes "_atom_site.label_comp_id"
    ∷ bytes "_atom_site.label_asym_id"
    ∷ bytes "_atom_site.label_entity_id"
    ∷ bytes "_atom_site.label_seq_id"
    ∷ bytes "_atom_site.pdbx_PDB_ins_code"
    ∷ bytes "_atom_site.Cartn_x"
    ∷ bytes "_atom_site.Cartn_y"
    ∷ bytes "_atom_site.Cartn_z"
    ∷ bytes "_atom_site.occupancy"
    ∷ bytes "_atom_site.B_iso_or_equiv"
    ∷ bytes "_atom_site.auth_seq_id"
    ∷ bytes "_atom_site.auth_comp_id"
    ∷ bytes "_atom_site.auth_asym_id"
    ∷ bytes "_atom_site.auth_atom_id"
    ∷ []

-- "The polymer list is omitted when empty."
abbrev pub polymer_list : List ℕ → List ℕ
polymer_list [] = []
polymer_list (b ∷ rows) = lines_text polymer_headers ++ ((b ∷ rows) ++ lines_text closing)

abbrev pub atom_loop : List ℕ → List ℕ
atom_loop rows = lines_text atom_headers ++ (rows ++ lines_text closing)

unfoldable pub text_of : Model → List ℕ
text_of m = lines_text opening ++ (polymer_list (polymer_rows m m.residues) ++ atom_loop (atom_rows m 1 m.atoms))
