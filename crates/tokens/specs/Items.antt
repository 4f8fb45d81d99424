-- The fifteen items that matter, in the order of the column map.
use Rattle.std.specs.Prelude.{ℕ, suc, cond, List, [], ◌∷◌, Option, Some, None, option_map}
use Rattle.ascii.specs.Bytes.{bytes}
use Rattle.ascii.specs.Words.{same_bytes}

unfoldable pub item_names : List (List ℕ)
item_names =
    bytes "_atom_site.group_PDB" ∷
    bytes "_atom_site.auth_atom_id" ∷
    bytes "_atom_site.label_atom_id" ∷
    bytes "_atom_site.auth_comp_id" ∷
    bytes "_atom_site.label_comp_id" ∷
    bytes "_atom_site.auth_asym_id" ∷
    bytes "_atom_site.label_asym_id" ∷
    bytes "_atom_site.auth_seq_id" ∷
    bytes "_atom_site.label_seq_id" ∷
    bytes "_atom_site.pdbx_PDB_ins_code" ∷
    bytes "_atom_site.Cartn_x" ∷
    bytes "_atom_site.Cartn_y" ∷
    bytes "_atom_site.Cartn_z" ∷
    bytes "_atom_site.occupancy" ∷
    bytes "_atom_site.type_symbol" ∷
    []

-- the place of the token among the names, from 0; none where it is none of them
unfoldable pub place_in : List (List ℕ) → List ℕ → Option ℕ
place_in [] token = None
place_in (name ∷ names) token = cond (same_bytes token name) (Some 0) (option_map suc (place_in names token))

-- which item the token names, from 0
abbrev pub item_of : List ℕ → Option ℕ
item_of token = place_in item_names token
