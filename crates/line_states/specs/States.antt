-- What a line does, by its first token and the state: the table of document 01's "Reading a line".
use Rattle.std.specs.Prelude.{ℕ, cond, List, [], ◌∷◌, ltb}
use Rattle.tokens.specs.Tokens.{tokens_of}
use Rattle.token_values.specs.Words.{is_loop, is_cell_item, is_item}
use Rattle.line_states.specs.declared.heads.Heads.{Heads}
use Rattle.line_states.specs.declared.heads.State.{State}
use Rattle.line_states.specs.declared.heads.State.TheVariants.{Base, Header, AtomLoop, OtherLoop}
use Rattle.line_states.specs.declared.reading.Does.{Does}
use Rattle.line_states.specs.declared.reading.Does.TheVariants.{Nothing, Row, TooManyHeaders}
use Rattle.line_states.specs.declared.reading.Moved.{Moved}
use Rattle.line_states.specs.Heads.{no_heads, in_state, with_header}

abbrev pub moved : Heads → Does → Moved
moved heads does = record { heads = heads; does = does }

-- "At most 64 headers in a loop."
abbrev pub recorded_of : Heads → List ℕ → Moved
recorded_of heads token = cond (ltb heads.headers 64) (moved (with_header heads token) Nothing) (moved heads TooManyHeaders)

-- "begins `_`": ignored, recorded, to base, to base
abbrev pub item_in : State → Heads → List ℕ → Moved
item_in Base heads token = moved heads Nothing
item_in Header heads token = recorded_of heads token
item_in AtomLoop heads token = moved (in_state Base heads) Nothing
item_in OtherLoop heads token = moved (in_state Base heads) Nothing

-- "row and atom loop if some header begins `_atom_site.`; else other loop"
abbrev pub first_row : Heads → Moved
first_row heads = cond heads.atom_site (moved (in_state AtomLoop heads) Row) (moved (in_state OtherLoop heads) Nothing)

-- "else": ignored, the loop's first row, row, ignored
abbrev pub other_in : State → Heads → Moved
other_in Base heads = moved heads Nothing
other_in Header heads = first_row heads
other_in AtomLoop heads = moved heads Row
other_in OtherLoop heads = moved heads Nothing

-- "First token `loop_`: header state, headers forgotten. First token beginning `_cell.`: passed over, state unchanged. Otherwise by state"
unfoldable pub moved_by_token : Heads → List ℕ → Moved
moved_by_token heads token =
    cond (is_loop token) (moved (no_heads Header) Nothing)
    (cond (is_cell_item token) (moved heads Nothing)
    (cond (is_item token) (item_in heads.state heads token)
    (other_in heads.state heads)))

-- "No tokens: skip."
abbrev pub moved_by_tokens : Heads → List (List ℕ) → Moved
moved_by_tokens heads [] = moved heads Nothing
moved_by_tokens heads (token ∷ tokens) = moved_by_token heads token

unfoldable pub moved_by : Heads → List ℕ → Moved
moved_by heads line = moved_by_tokens heads (tokens_of line)
