-- The lines that are the same in every text: the opening lines and `#` change nothing, `loop_` forgets what was known, and each header, a word that begins `_`, is
-- recorded, so that those of the atom loop leave the columns of its fields.
use mathlib.Core.Path.{◌≡◌, refl, ap, ◌∙◌}
use mathlib.Core.List.{List, [], ◌∷◌}
use mathlib.Core.Bool.{Bool, true, false, not, ◌&&◌, cond}
use Prim.Native.Nat.{ℕ, ◌<◌}
use native.Mathlib.Omega.{arith}
use lib.Dec.{eqb}
use lib.ListN.{drop}
use borrow.Author.Tests.{eqb-false, lt-ltb, not-true}
use Rattle.ascii.specs.Bytes.{byte, bytes, first}
use Rattle.ascii.specs.Lists.{every}
use Rattle.ascii.specs.Words.{starts_with, same_bytes}
use Rattle.tokens.specs.Items.{item_names, place_in}
use Rattle.tokens.specs.Line.{spaced}
use Rattle.tokens.specs.Quote.{all_plain}
use Rattle.tokens.specs.Tokens.{tokens_of}
use Rattle.tokens.specs.Trim.{trim_start, trim_end}
use Rattle.token_values.specs.Words.{is_loop, is_cell_item, is_item}
use Rattle.rows.specs.Columns.{no_columns}
use Rattle.line_states.specs.Heads.{no_heads, start_heads, in_state, with_header}
use Rattle.line_states.specs.States.{moved, item_in, moved_by_token, moved_by_tokens, moved_by}
use Rattle.line_states.specs.declared.heads.Heads.{Heads}
use Rattle.line_states.specs.declared.heads.State.{State}
use Rattle.line_states.specs.declared.heads.State.TheVariants.{Header, AtomLoop, OtherLoop}
use Rattle.line_states.specs.declared.reading.Does.TheVariants.{Nothing, TooManyHeaders}
use Rattle.model.proofs.ListLaws.{left_of, right_of}
use Rattle.writer.specs.Text.{polymer_headers, atom_headers}
use Rattle.return_trip.proofs.FieldLaws.{Word, is_bare, bare_word, word_field, line_tokens}
use Rattle.return_trip.proofs.RowsAgain.{written_columns}

-- ---- the states
-- past the headers of the polymer list, and in its rows
abbrev pub list_heads : Heads
list_heads = record { state = Header; columns = no_columns; headers = 4; atom_site = false }

abbrev pub list_rows : Heads
list_rows = in_state OtherLoop list_heads

-- past the headers of the atom loop, and in its rows
abbrev pub loop_heads : Heads
loop_heads = record { state = Header; columns = written_columns; headers = 19; atom_site = true }

abbrev pub loop_rows : Heads
loop_rows = in_state AtomLoop loop_heads

-- ---- a test of all that a header is
-- neither `loop_` nor an item of the cell, but an item
abbrev is_plain_item : List ℕ → Bool
is_plain_item word = not (is_loop word) && (not (is_cell_item word) && is_item word)

abbrev pub is_header : List ℕ → Bool
is_header word = is_bare word && (not (eqb (first word) (byte "#")) && is_plain_item word)

pub header_word : (word : List ℕ) → is_header word ≡ true → Word word
header_word word e = bare_word word (left_of (is_bare word) (not (eqb (first word) (byte "#")) && is_plain_item word) e)

-- ---- what each line does
-- a word that stands alone in its line is its first token
word_moves : (heads : Heads) (word : List ℕ) → Word word → (first word ≡ byte "#" → ⊥) → moved_by heads word ≡ moved_by_token heads word
unfolding moved_by spaced
word_moves heads word w n = ap (moved_by_tokens heads) (line_tokens (word_field word w ∷ []) n)

title_word : Word (bytes "data_bio_forge_export")
unfolding all_plain
title_word = bare_word (bytes "data_bio_forge_export") refl

pub title_moves : moved_by start_heads (bytes "data_bio_forge_export") ≡ moved start_heads Nothing
unfolding moved_by_token same_bytes starts_with
title_moves = word_moves start_heads (bytes "data_bio_forge_export") title_word (λ e. omega arith)

hash_tokens : tokens_of (bytes "#") ≡ []
unfolding tokens_of trim_start trim_end
hash_tokens = refl

pub comment_moves : (heads : Heads) → moved_by heads (bytes "#") ≡ moved heads Nothing
unfolding moved_by
comment_moves heads = ap (moved_by_tokens heads) hash_tokens

loop_word : Word (bytes "loop_")
unfolding all_plain
loop_word = bare_word (bytes "loop_") refl

pub loop_moves : (heads : Heads) → moved_by heads (bytes "loop_") ≡ moved (no_heads Header) Nothing
unfolding moved_by_token same_bytes
loop_moves heads = word_moves heads (bytes "loop_") loop_word (λ e. omega arith)

item_moves : (heads : Heads) (word : List ℕ) → is_plain_item word ≡ true → moved_by_token heads word ≡ item_in heads.state heads word
unfolding moved_by_token
item_moves heads word e =
    let loop = not (is_loop word) in
    let cell = not (is_cell_item word) in
    let later = right_of loop (cell && is_item word) e in
    rw (not-true (is_loop word) (left_of loop (cell && is_item word) e), not-true (is_cell_item word) (left_of cell (is_item word) later), right_of cell (is_item word) later)

pub header_moves : (heads : Heads) (word : List ℕ) → is_header word ≡ true → heads.state ≡ Header → heads.headers < 64 → moved_by heads word ≡ moved (with_header heads word) Nothing
header_moves heads word e h few =
    let comment = not (eqb (first word) (byte "#")) in
    let later = right_of (is_bare word) (comment && is_plain_item word) e in
    word_moves heads word (header_word word e) (eqb-false (first word) (byte "#") (not-true (eqb (first word) (byte "#")) (left_of comment (is_plain_item word) later)))
    ∙ item_moves heads word (right_of comment (is_plain_item word) later)
    ∙ ap (λ (s : State). item_in s heads word) h
    ∙ ap (λ (t : Bool). cond t (moved (with_header heads word) Nothing) (moved heads TooManyHeaders)) (lt-ltb heads.headers 64 few)

-- ---- the writer's headers, behind `loop_`
abbrev pub with_headers : Heads → List (List ℕ) → Heads
with_headers heads [] = heads
with_headers heads (word ∷ words) = with_headers (with_header heads word) words

pub list_headers : every is_header (drop 1 polymer_headers) ≡ true
unfolding all_plain same_bytes starts_with
list_headers = refl

pub loop_headers : every is_header (drop 1 atom_headers) ≡ true
unfolding all_plain same_bytes starts_with
loop_headers = refl

pub list_heads_lem : with_headers (no_heads Header) (drop 1 polymer_headers) ≡ list_heads
unfolding item_names place_in same_bytes starts_with
list_heads_lem = refl

pub loop_heads_lem : with_headers (no_heads Header) (drop 1 atom_headers) ≡ loop_heads
unfolding item_names place_in same_bytes starts_with
loop_heads_lem = refl
