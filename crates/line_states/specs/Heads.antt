-- The state that a reader is in, and what the headers of its loop have said.
use Rattle.std.specs.Prelude.{ℕ, ◌+◌, false, ◌||◌, List, Option, Some, None}
use Rattle.tokens.specs.Items.{item_of}
use Rattle.token_values.specs.Words.{is_atom_site_item}
use Rattle.rows.specs.declared.columns.Columns.{Columns}
use Rattle.rows.specs.Columns.{no_columns, with_column}
use Rattle.line_states.specs.declared.heads.Heads.{Heads}
use Rattle.line_states.specs.declared.heads.State.{State}
use Rattle.line_states.specs.declared.heads.State.TheVariants.{Base}

-- no header is known
abbrev pub no_heads : State → Heads
no_heads state = record { state = state; columns = no_columns; headers = 0; atom_site = false }

abbrev pub start_heads : Heads
start_heads = no_heads Base

abbrev pub in_state : State → Heads → Heads
in_state state heads = record {
  state = state;
  columns = heads.columns;
  headers = heads.headers;
  atom_site = heads.atom_site;
}

-- one of the fifteen items takes the column; any other takes none
abbrev pub with_item : Columns → Option ℕ → ℕ → Columns
with_item columns (Some item) column = with_column columns item column
with_item columns None column = columns

-- the header takes the next column, from 0, also where its item is none of the fifteen
abbrev pub with_header : Heads → List ℕ → Heads
with_header heads token = record {
  state = heads.state;
  columns = with_item heads.columns (item_of token) heads.headers;
  headers = heads.headers + 1;
  atom_site = heads.atom_site || is_atom_site_item token;
}
