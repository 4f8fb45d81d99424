-- Each field is read from the item that `map_atom_site_indices` reads it from: the places in the map are those that `item_of` gives the items' names.
use mathlib.Core.Path.{◌≡◌, refl}
use Prim.Native.Nat.{ℕ}
use Prim.Native.String.{String}
use Rattle.std.specs.Prelude.{Option, Some, None}
use Rattle.ascii.specs.Bytes.{bytes}
use Rattle.ascii.specs.Words.{same_bytes}
use Rattle.tokens.specs.Items.{item_names, place_in, item_of}
use Rattle.rows.specs.declared.columns.Columns.{Columns}
use Rattle.rows.specs.Columns.{absent, column_of, chosen, group, atom, residue, chain, sequence, insertion_code, x, y, z, occupancy, symbol}

module _ (columns : Columns) where
  -- the column at a place in the map; absent where there is none
  abbrev in_place : Option ℕ → ℕ
  in_place (Some item) = column_of columns item
  in_place None = absent

  -- the column of the item of this name
  abbrev named : String → ℕ
  named item = in_place (item_of (bytes item))

  pub group_item : group columns ≡ named "_atom_site.group_PDB"
  unfolding item_names place_in same_bytes
  group_item = refl

  pub atom_items : atom columns ≡ chosen (named "_atom_site.auth_atom_id") (named "_atom_site.label_atom_id")
  unfolding item_names place_in same_bytes
  atom_items = refl

  pub residue_items : residue columns ≡ chosen (named "_atom_site.auth_comp_id") (named "_atom_site.label_comp_id")
  unfolding item_names place_in same_bytes
  residue_items = refl

  pub chain_items : chain columns ≡ chosen (named "_atom_site.auth_asym_id") (named "_atom_site.label_asym_id")
  unfolding item_names place_in same_bytes
  chain_items = refl

  pub sequence_items : sequence columns ≡ chosen (named "_atom_site.auth_seq_id") (named "_atom_site.label_seq_id")
  unfolding item_names place_in same_bytes
  sequence_items = refl

  pub insertion_code_item : insertion_code columns ≡ named "_atom_site.pdbx_PDB_ins_code"
  unfolding item_names place_in same_bytes
  insertion_code_item = refl

  pub x_item : x columns ≡ named "_atom_site.Cartn_x"
  unfolding item_names place_in same_bytes
  x_item = refl

  pub y_item : y columns ≡ named "_atom_site.Cartn_y"
  unfolding item_names place_in same_bytes
  y_item = refl

  pub z_item : z columns ≡ named "_atom_site.Cartn_z"
  unfolding item_names place_in same_bytes
  z_item = refl

  pub occupancy_item : occupancy columns ≡ named "_atom_site.occupancy"
  unfolding item_names place_in same_bytes
  occupancy_item = refl

  pub symbol_item : symbol columns ≡ named "_atom_site.type_symbol"
  unfolding item_names place_in same_bytes
  symbol_item = refl
