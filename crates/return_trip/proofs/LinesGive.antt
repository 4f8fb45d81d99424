-- What each kind of line in a written text gives: the opening lines and `#` change nothing, the rows of the polymer list are those of another loop, the headers of the
-- atom loop give its columns, and each of its rows is kept.
use Prim.{tt}
use mathlib.Core.Path.{◌≡◌, refl, sym, ap, ◌∙◌, subst}
use mathlib.Core.List.{List, [], ◌∷◌, ◌++◌, map}
use mathlib.Core.Bool.{Bool, true, false}
use Prim.Native.Nat.{ℕ, suc, ◌+◌, ◌≤◌}
use native.Mathlib.Omega.{arith}
use lib.ListN.{length, drop}
use Rattle.std.specs.Prelude.{Some, Ok}
use Rattle.ascii.specs.Lists.{every}
use Rattle.ascii.specs.Words.{starts_with, same_bytes}
use Rattle.tokens.specs.Longest.{longest}
use Rattle.rows.specs.Fields.{fields_of}
use Rattle.rows.specs.Rules.{Row, row_of}
use Rattle.rows.specs.declared.rules.Site.{Site}
use Rattle.rows.specs.declared.settings.Settings.{Settings}
use Rattle.line_states.specs.Heads.{no_heads, start_heads, with_header}
use Rattle.line_states.specs.States.{moved, other_in, moved_by_token, moved_by}
use Rattle.line_states.specs.declared.heads.Heads.{Heads}
use Rattle.line_states.specs.declared.heads.State.TheVariants.{Header}
use Rattle.line_states.specs.declared.reading.Does.{Does}
use Rattle.line_states.specs.declared.reading.Does.TheVariants.{Nothing}
use Rattle.line_states.specs.declared.reading.Moved.{Moved}
use Rattle.model.specs.Lists.{All}
use Rattle.model.specs.Records.{ResidueRecord, AtomRecord, Model}
use Rattle.model.specs.Taken.{Taken, site}
use Rattle.model.proofs.ListLaws.{left_of, right_of, all_append}
use Rattle.acts.specs.Acts.{Asked, GoesOn, AllGoOn}
use Rattle.mmcif.specs.Acts.{row_act, moved_act, heads_after, acts_from}
use Rattle.mmcif.specs.Rows.{row_taken, taken_by, rows_from}
use Rattle.mmcif.proofs.ActsInParts.{heads_append, acts_append}
use Rattle.mmcif.proofs.LineActs.{short_act}
use Rattle.mmcif.proofs.RowsOfActs.{rows_append}
use Rattle.row_texts.specs.Fields.{group_text}
use Rattle.writer.specs.Text.{atom_row_of, polymer_row_of, opening, closing, polymer_headers, atom_headers}
use Rattle.return_trip.proofs.NamesAgain.{NameSo}
use Rattle.return_trip.proofs.FoldAgain.{site_in, taken_of}
use Rattle.return_trip.proofs.FixedLines.{title_moves, comment_moves, loop_moves, list_heads, list_rows, loop_heads, loop_rows, is_header, header_word, header_moves, with_headers, list_headers, loop_headers, list_heads_lem, loop_heads_lem}
use Rattle.return_trip.proofs.ListRowsAgain.{list_row_is_short, list_row_moves}
use Rattle.return_trip.proofs.RowsAgain.{RowSo, row_is_short, row_moves, row_again}
use Rattle.return_trip.proofs.TextLines.{polymer_line, polymer_part, atom_lines}

-- ---- lines that give these rows and leave this state, and none of which is refused
pub record Give (settings : Settings) (heads : Heads) (lines : List (List ℕ)) (to : Heads) (rows : List Taken) : Type 0 where
  pub after : heads_after heads lines ≡ to
  pub goes : (number : ℕ) → AllGoOn (acts_from settings number heads lines)
  pub taken : rows_from settings heads lines ≡ rows

module _ (settings : Settings) where
  none_given : (heads : Heads) → Give settings heads [] heads []
  unfolding heads_after acts_from rows_from
  none_given heads = record { after = refl; goes = λ n. tt; taken = refl }

  -- one after the other
  pub give_on : {heads mid to : Heads} {a b : List (List ℕ)} {r s : List Taken} → Give settings heads a mid r → Give settings mid b to s → Give settings heads (a ++ b) to (r ++ s)
  give_on {heads} {mid} {to} {a} {b} {r} {s} g h = record {
    after = heads_append heads a b ∙ ap (λ (x : Heads). heads_after x b) g.after ∙ h.after;
    goes = λ n.
        subst AllGoOn (sym (acts_append settings n heads a b))
        (all_append (λ (x : Asked). GoesOn x.act) (acts_from settings n heads a) (acts_from settings (n + length a) (heads_after heads a) b) (g.goes n)
        (subst (λ (x : Heads). AllGoOn (acts_from settings (n + length a) x b)) (sym g.after) (h.goes (n + length a))));
    taken = rows_append settings heads a b ∙ (λ i. g.taken i ++ rows_from settings (g.after i) b) ∙ ap (λ (l : List Taken). r ++ l) h.taken;
  }

  -- a line by what it does to the state
  line_gives : {heads to : Heads} {line : List ℕ} {lines : List (List ℕ)} {rows : List Taken} (m : Moved) → length line ≤ longest → moved_by heads line ≡ m → GoesOn (moved_act settings line m)
      → Give settings m.heads lines to rows → Give settings heads (line ∷ lines) to (taken_by m.does (row_of settings (fields_of m.heads.columns line)) ++ rows)
  unfolding heads_after acts_from rows_from
  line_gives {heads} {to} {line} {lines} {rows} m short e goes g =
      let next : (moved_by heads line).heads ≡ m.heads = ap (λ (x : Moved). x.heads) e in
      record {
        after = ap (λ (h : Heads). heads_after h lines) next ∙ g.after;
        goes = λ n. (
          subst GoesOn (sym (short_act settings heads line short ∙ ap (moved_act settings line) e)) goes,
          subst (λ (h : Heads). AllGoOn (acts_from settings (suc n) h lines)) (sym next) (g.goes (suc n)),
        );
        taken = (λ i. taken_by (e i).does (row_of settings (fields_of (e i).heads.columns line)) ++ rows_from settings (next i) lines)
            ∙ ap (λ (l : List Taken). taken_by m.does (row_of settings (fields_of m.heads.columns line)) ++ l) g.taken;
      }

  -- one that does nothing, and a row that is kept
  line_passed : {heads mid to : Heads} {line : List ℕ} {lines : List (List ℕ)} {rows : List Taken} → length line ≤ longest → moved_by heads line ≡ moved mid Nothing
      → Give settings mid lines to rows → Give settings heads (line ∷ lines) to rows
  line_passed {heads} {mid} short e g = line_gives (moved mid Nothing) short e tt g

  line_kept : {heads mid to : Heads} {line : List ℕ} {lines : List (List ℕ)} {rows : List Taken} (s : Site) → length line ≤ longest → moved_by heads line ≡ moved mid Does.Row
      → row_of settings (fields_of mid.columns line) ≡ Ok (Some s) → Give settings mid lines to rows → Give settings heads (line ∷ lines) to (site s ∷ rows)
  line_kept {heads} {mid} {to} {line} {lines} {rows} s short e k g =
      subst (λ (r : Row). Give settings heads (line ∷ lines) to (row_taken r ++ rows)) k
      (line_gives (moved mid Does.Row) short e (subst (λ (r : Row). GoesOn (row_act r)) (sym k) tt) g)

  -- ---- lines that are always the same
  pub closing_gives : (heads : Heads) → Give settings heads closing heads []
  closing_gives heads = line_passed (omega arith) (comment_moves heads) (none_given heads)

  pub opening_gives : Give settings start_heads opening start_heads []
  opening_gives = line_passed (omega arith) title_moves (closing_gives start_heads)

  -- ---- headers
  headers_give : (heads : Heads) (words : List (List ℕ)) → every is_header words ≡ true → heads.state ≡ Header → heads.headers + length words ≤ 64
      → Give settings heads words (with_headers heads words) []
  headers_give heads [] e h few = none_given heads
  headers_give heads (word ∷ words) e h few =
      let here = left_of (is_header word) (every is_header words) e in
      line_passed (omega (arith, (header_word word here).short)) (header_moves heads word here h (omega arith))
      (headers_give (with_header heads word) words (right_of (is_header word) (every is_header words) e) h (omega arith))

  list_headers_give : (heads : Heads) → Give settings heads polymer_headers list_heads []
  list_headers_give heads =
      line_passed (omega arith) (loop_moves heads)
      (subst (λ (h : Heads). Give settings (no_heads Header) (drop 1 polymer_headers) h []) list_heads_lem (headers_give (no_heads Header) (drop 1 polymer_headers) list_headers refl (omega arith)))

  pub loop_headers_give : (heads : Heads) → Give settings heads atom_headers loop_heads []
  loop_headers_give heads =
      line_passed (omega arith) (loop_moves heads)
      (subst (λ (h : Heads). Give settings (no_heads Header) (drop 1 atom_headers) h []) loop_heads_lem (headers_give (no_heads Header) (drop 1 atom_headers) loop_headers refl (omega arith)))

  -- ---- the polymer list
  module _ (m : Model) where
    row_gives : (heads : Heads) (r : ResidueRecord) (lines : List (List ℕ)) → NameSo r.name → other_in heads.state heads ≡ moved list_rows Nothing → Give settings list_rows lines list_rows []
        → Give settings heads (polymer_line m r ∷ lines) list_rows []
    row_gives heads r lines named e g = let row = polymer_row_of m r in line_passed (list_row_is_short row named) (list_row_moves row named heads ∙ e) g

    later_rows_give : (l : List ResidueRecord) → All (λ t. NameSo t.name) l → Give settings list_rows (map (polymer_line m) l) list_rows []
    later_rows_give [] a = none_given list_rows
    later_rows_give (r ∷ l) a = row_gives list_rows r (map (polymer_line m) l) a.0 refl (later_rows_give l a.1)

    list_rows_give : (r : ResidueRecord) (l : List ResidueRecord) → All (λ t. NameSo t.name) (r ∷ l) → Give settings list_heads (map (polymer_line m) (r ∷ l)) list_rows []
    list_rows_give r l a = row_gives list_heads r (map (polymer_line m) l) a.0 refl (later_rows_give l a.1)

    pub list_gives : (l : List ResidueRecord) → All (λ r. NameSo r.name) l → (heads : Heads) × Give settings start_heads (polymer_part (map (polymer_line m) l)) heads []
    list_gives [] a = (start_heads, none_given start_heads)
    list_gives (r ∷ l) a = (list_rows, give_on (list_headers_give start_heads) (give_on (list_rows_give r l a) (closing_gives list_rows)))

    -- ---- the atom loop
    group_moves : (heads : Heads) (polymer : Bool) → moved_by_token heads (group_text polymer) ≡ other_in heads.state heads
    unfolding moved_by_token group_text same_bytes starts_with
    group_moves heads true = refl
    group_moves heads false = refl

    pub atoms_give : (heads : Heads) (id : ℕ) (l : List AtomRecord) → ((id : ℕ) → All (λ a. RowSo (atom_row_of m id a)) l) → other_in heads.state heads ≡ moved loop_rows Does.Row
        → (h : Heads) × Give settings heads (atom_lines m id l) h (taken_of m l)
    atoms_give heads id [] so e = (heads, none_given heads)
    atoms_give heads id (a ∷ l) so e =
        let row = atom_row_of m id a in
        let rest = atoms_give loop_rows (suc id) l (λ i. (so i).1) refl in (
          rest.0,
          line_kept (site_in m a) (row_is_short row (so id).0) (row_moves row (so id).0 heads ∙ group_moves heads row.polymer ∙ e) (row_again row (so id).0 settings) rest.1,
        )
