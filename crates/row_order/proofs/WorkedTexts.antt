-- Document 01's whole case with a comment and a `_cell.` line among its rows; and the same with its last row in front of the others. The lines of the one end in
-- 10, but for the last, which has no ending; those of the other in 13 10. What the definitions say of these texts is computed.
use Prim.{tt}
use mathlib.Core.Path.{◌≡◌, refl}
use mathlib.Core.Bool.{true, false}
use mathlib.Core.List.{List, [], ◌∷◌, ◌++◌, map}
use Prim.Native.Nat.{ℕ, ◌+◌, ◌^◌, ◌≤◌}
use native.Mathlib.Bridge.{le_by_compare, IsLe}
use lib.ListN.{length}
use Rattle.std.specs.Prelude.{Some, None, Ok, Err}
use Rattle.ascii.specs.Bytes.{bytes}
use Rattle.ascii.specs.Digits.{digit_run, all_digits, number_from, capped}
use Rattle.ascii.specs.Letters.{eq_ignore_case}
use Rattle.ascii.specs.Lists.{every}
use Rattle.ascii.specs.Signs.{is_sign, after_sign}
use Rattle.ascii.specs.Words.{starts_with, same_bytes}
use Rattle.numbers.specs.Grammar.{is_exponent_letter, is_word, is_exponent, parts, after_whole, unsigned, spelling_of}
use Rattle.numbers.specs.Reading.{all_together, within_reach, read_as, number_of}
use Rattle.tokens.specs.Items.{item_names, place_in}
use Rattle.token_values.specs.Sequence.{sequence_of}
use Rattle.tokens.specs.Tokens.{scan, tokens_of, token_at}
use Rattle.tokens.specs.Trim.{trim_start, trim_end}
use Rattle.names.specs.Elements.{symbols, element_from, element_of}
use Rattle.names.specs.Packing.{packed_in, packed}
use Rattle.names.specs.Table.{canonical, aliases, resolve_in, resolve_of}
use Rattle.lines.specs.Domain.{outside_from}
use Rattle.lines.specs.Lines.{lines_of}
use Rattle.rows.specs.Fields.{hetatm_at, insertion_code_at, occupancy_at, element_at, fields_of}
use Rattle.rows.specs.Reach.{missing_column, first_absent, misses, reach_of}
use Rattle.rows.specs.Rules.{Row, named, occupied, located, reached, row_of}
use Rattle.rows.specs.declared.columns.Columns.{Columns}
use Rattle.rows.specs.Settings.{assuming}
use Rattle.line_states.specs.Heads.{start_heads}
use Rattle.line_states.specs.States.{moved_by_token, moved_by}
use Rattle.model.specs.Chains.{chain_place, with_chain}
use Rattle.model.specs.Classes.{is_unknown}
use Rattle.model.specs.Finished.{unknown_in, finished_of}
use Rattle.model.specs.Fold.{step}
use Rattle.model.specs.Keys.{residue_at, atom_at}
use Rattle.model.specs.Map.{find, put}
use Rattle.model.specs.Room.{lacking}
use Rattle.model.specs.declared.room.Room.{Room}
use Rattle.acts.specs.Making.{made}
use Rattle.readings.specs.Ends.{ToTheEnd}
use Rattle.readings.specs.Reading.{largest, reading_of}
use Rattle.mmcif.specs.Acts.{line_act, heads_after, acts_from}
use Rattle.reader.specs.Reading.{read_of}
use Rattle.row_order.specs.Endings.{Ending, feed, return_and_feed, Ended, together}
use Rattle.row_order.specs.Loops.{is_row, stands_among_rows, awaits_rows}

-- ---- the texts
pub headers : List (List ℕ)
headers =
    bytes "loop_"
    ∷ bytes "_atom_site.group_PDB"
    ∷ bytes "_atom_site.type_symbol"
    ∷ bytes "_atom_site.auth_atom_id"
    ∷ bytes "_atom_site.auth_comp_id"
    ∷ bytes "_atom_site.auth_asym_id"
    ∷ bytes "_atom_site.auth_seq_id"
    ∷ bytes "_atom_site.Cartn_x"
    ∷ bytes "_atom_site.Cartn_y"
    ∷ bytes "_atom_site.Cartn_z"
    ∷ bytes "_atom_site.occupancy"
    ∷ []

pub carbon : List ℕ
carbon = bytes "ATOM C CA MSE A 7 1.5 -0.0004 2 0.6"

pub comment : List ℕ
comment = bytes "# the same atom again"

pub again : List ℕ
again = bytes "ATOM C CA MSE A 7 9 9 9 0.6"

pub cell : List ℕ
cell = bytes "_cell.length_a 10.0"

pub oxygen : List ℕ
oxygen = bytes "HETATM O \"O'\" QQQ A 9 0.25 0 -3 ?"

abbrev pub others : List (List ℕ)
others = carbon ∷ comment ∷ again ∷ cell ∷ []

-- lines with this ending behind each
abbrev ended : Ending → List (List ℕ) → List Ended
ended ending lines = map (λ line. record { line = line; ending = ending }) lines

pub one : List ℕ
one = together (ended feed (headers ++ others)) oxygen

pub other : List ℕ
other = together (ended return_and_feed (headers ++ (oxygen ∷ others))) []

-- ---- their sizes, and their lines
pub sizes : (length one ≤ largest) × (length other ≤ largest)
unfolding IsLe one other together headers carbon comment again cell oxygen
sizes = (le_by_compare (length one) largest tt, le_by_compare (length other) largest tt)

pub lines_are : lines_of one ≡ headers ++ ((others ++ (oxygen ∷ [])) ++ [])
unfolding one headers carbon comment again cell oxygen together lines_of
lines_are = refl

pub other_lines_are : lines_of other ≡ headers ++ ((oxygen ∷ others) ++ [])
unfolding other headers carbon comment again cell oxygen together lines_of
other_lines_are = refl

pub are_rows : (is_row carbon ≡ true) × (is_row comment ≡ false) × (is_row again ≡ true) × (is_row cell ≡ false) × (is_row oxygen ≡ true)
unfolding carbon comment again cell oxygen tokens_of scan trim_start trim_end starts_with same_bytes
are_rows = (refl, refl, refl, refl, refl)

pub all_among : every stands_among_rows (others ++ (oxygen ∷ [])) ≡ true
unfolding carbon comment again cell oxygen tokens_of scan trim_start trim_end starts_with same_bytes
all_among = refl

-- ---- the headers
pub opened : awaits_rows (heads_after start_heads headers) ≡ true
unfolding headers heads_after moved_by moved_by_token tokens_of scan trim_start trim_end starts_with same_bytes
opened = refl

unfoldable pub columns : Columns
columns = (heads_after start_heads headers).columns

abbrev pub chain_and_sequence : Row → List ℕ
chain_and_sequence (Err why) = []
chain_and_sequence (Ok None) = []
chain_and_sequence (Ok (Some s)) = s.chain ∷ s.sequence ∷ []

-- group, then atom, residue, chain and sequence by their auth columns, no insertion code, x, y, z, occupancy and symbol
abbrev pub found : Columns
found = record { places = 0 ∷ 2 ∷ 64 ∷ 3 ∷ 64 ∷ 4 ∷ 64 ∷ 5 ∷ 64 ∷ 64 ∷ 6 ∷ 7 ∷ 8 ∷ 9 ∷ 1 ∷ [] }

pub columns_are : columns ≡ found
unfolding columns headers heads_after moved_by moved_by_token tokens_of scan trim_start trim_end starts_with same_bytes item_names place_in
columns_are = refl

-- ---- the rows
pub told : (chain_and_sequence (row_of assuming (fields_of found carbon)) ≡ packed (bytes "A") ∷ (2 ^ 31 + 7) ∷ [])
    × (chain_and_sequence (row_of assuming (fields_of found again)) ≡ packed (bytes "A") ∷ (2 ^ 31 + 7) ∷ [])
    × (chain_and_sequence (row_of assuming (fields_of found oxygen)) ≡ packed (bytes "A") ∷ (2 ^ 31 + 9) ∷ [])
unfolding carbon again oxygen tokens_of token_at scan trim_start trim_end starts_with same_bytes fields_of hetatm_at insertion_code_at occupancy_at element_at first_absent missing_column misses reach_of named occupied located reached row_of eq_ignore_case sequence_of packed_in symbols element_from element_of digit_run all_digits number_from capped is_sign after_sign is_exponent_letter is_word is_exponent parts after_whole unsigned spelling_of all_together within_reach read_as number_of
told = (refl, refl, refl)

-- ---- the one is read to its end
abbrev pub room : Room
room = record { chains = 64; residues = 512; atoms = 1024 }

pub is_read : ToTheEnd (read_of assuming room one)
unfolding one together headers carbon comment again cell oxygen outside_from lines_of reading_of made acts_from line_act moved_by moved_by_token tokens_of token_at scan trim_start trim_end starts_with same_bytes item_names place_in fields_of hetatm_at insertion_code_at occupancy_at element_at first_absent missing_column misses reach_of named occupied located reached row_of eq_ignore_case sequence_of packed_in symbols element_from element_of digit_run all_digits number_from capped is_sign after_sign is_exponent_letter is_word is_exponent parts after_whole unsigned spelling_of all_together within_reach read_as number_of lacking step with_chain chain_place residue_at atom_at find put finished_of unknown_in is_unknown resolve_of resolve_in canonical aliases
is_read = tt
