-- Where the rows of an atom loop stand, what a line does hangs on the loop's columns alone, and not on the lines before it. So the order of the lines matters
-- neither for what each asks for nor for the state that they leave, and the rows come as the lines do.
use mathlib.Core.Path.{◌≡◌, refl, ap, ◌∙◌}
use mathlib.Core.Bool.{Bool, true, false, ◌||◌, cond}
use mathlib.Core.List.{List, [], ◌∷◌, ◌++◌, map}
use Prim.Native.Nat.{ℕ, suc, ◌≤◌}
use lib.Dec.{ltb}
use lib.ListN.{length}
use borrow.Author.Tests.{ltb-false, le-ltb}
use Rattle.std.specs.Prelude.{Some, None, Ok, Err}
use Rattle.ascii.specs.Lists.{every}
use Rattle.refusals.specs.declared.reasons.Reason.TheVariants.{LineTooLong}
use Rattle.tokens.specs.Longest.{longest}
use Rattle.rows.specs.Fields.{fields_of}
use Rattle.rows.specs.Rules.{Row, row_of}
use Rattle.rows.specs.declared.columns.Columns.{Columns}
use Rattle.rows.specs.declared.settings.Settings.{Settings}
use Rattle.line_states.specs.Heads.{in_state}
use Rattle.line_states.specs.States.{moved, moved_by}
use Rattle.line_states.specs.declared.heads.Heads.{Heads}
use Rattle.line_states.specs.declared.heads.State.TheVariants.{AtomLoop}
use Rattle.line_states.specs.declared.reading.Does.{Does}
use Rattle.line_states.specs.declared.reading.Does.TheVariants.{Nothing}
use Rattle.line_states.specs.declared.reading.Moved.{Moved}
use Rattle.model.specs.Lists.{any}
use Rattle.model.proofs.ListLaws.{left_of, right_of}
use Rattle.acts.specs.Acts.{row_in, GoesOn}
use Rattle.acts.specs.declared.act.Act.{Act}
use Rattle.acts.specs.declared.act.Act.TheVariants.{Pass, Refuse}
use Rattle.readings.specs.Order.{acts_in}
use Rattle.mmcif.specs.Acts.{row_act, moved_act, line_act, heads_after, acts_from}
use Rattle.mmcif.specs.Rows.{row_taken, taken_by, rows_from}
use Rattle.row_order.specs.Loops.{is_row, stands_among_rows, awaits_rows, given_by, given_in}
use Rattle.row_order.proofs.LoopLaws.{among_moves}

-- ---- the state after a line
abbrev pub opened_by : Bool → Heads → Heads
opened_by b heads = cond b (in_state AtomLoop heads) heads

module _ (heads : Heads) (awaits : awaits_rows heads ≡ true) (line : List ℕ) (among : stands_among_rows line ≡ true) where
  heads_on : (moved_by heads line).heads ≡ opened_by (is_row line) heads
  heads_on = ap (λ (m : Moved). m.heads) (among_moves heads awaits line among) ∙ go (is_row line)
    where
      go : (b : Bool) → (cond b (moved (in_state AtomLoop heads) Does.Row) (moved heads Nothing)).heads ≡ opened_by b heads
      go true = refl
      go false = refl

  columns_stay : (moved_by heads line).heads.columns ≡ heads.columns
  columns_stay = ap (λ (h : Heads). h.columns) heads_on ∙ go (is_row line)
    where
      go : (b : Bool) → (opened_by b heads).columns ≡ heads.columns
      go true = refl
      go false = refl

  awaits_still : awaits_rows (moved_by heads line).heads ≡ true
  awaits_still = ap awaits_rows heads_on ∙ go (is_row line)
    where
      go : (b : Bool) → awaits_rows (opened_by b heads) ≡ true
      go true = refl
      go false = awaits

opened_twice : (a b : Bool) (heads : Heads) → opened_by b (opened_by a heads) ≡ opened_by (a || b) heads
opened_twice true true heads = refl
opened_twice true false heads = refl
opened_twice false b heads = refl

pub loop_heads : (heads : Heads) → awaits_rows heads ≡ true → (lines : List (List ℕ)) → every stands_among_rows lines ≡ true → heads_after heads lines ≡ opened_by (any is_row lines) heads
unfolding heads_after
loop_heads heads a [] e = refl
loop_heads heads a (line ∷ lines) e =
    let here = left_of (stands_among_rows line) (every stands_among_rows lines) e in
    loop_heads (moved_by heads line).heads (awaits_still heads a line here) lines (right_of (stands_among_rows line) (every stands_among_rows lines) e)
    ∙ ap (opened_by (any is_row lines)) (heads_on heads a line here)
    ∙ opened_twice (is_row line) (any is_row lines) heads

module _ (settings : Settings) (columns : Columns) where
  -- ---- what a line asks for
  abbrev pub act_in : List ℕ → Act
  act_in line = cond (ltb longest (length line)) (Refuse LineTooLong) (cond (is_row line) (row_act (row_of settings (fields_of columns line))) Pass)

  -- ---- one line
  module _ (heads : Heads) (same : heads.columns ≡ columns) (awaits : awaits_rows heads ≡ true) (line : List ℕ) (among : stands_among_rows line ≡ true) where
    abbrev deed : Bool → Moved
    deed b = cond b (moved (in_state AtomLoop heads) Does.Row) (moved heads Nothing)

    act_is : line_act settings heads line ≡ act_in line
    unfolding line_act
    act_is = ap (cond (ltb longest (length line)) (Refuse LineTooLong)) (ap (moved_act settings line) (among_moves heads awaits line among) ∙ go (is_row line))
      where
        go : (b : Bool) → moved_act settings line (deed b) ≡ cond b (row_act (row_of settings (fields_of columns line))) Pass
        go true = ap (λ (c : Columns). row_act (row_of settings (fields_of c line))) same
        go false = refl

    row_is : taken_by (moved_by heads line).does (row_of settings (fields_of (moved_by heads line).heads.columns line)) ≡ given_by settings columns line
    row_is = ap (λ (m : Moved). taken_by m.does (row_of settings (fields_of m.heads.columns line))) (among_moves heads awaits line among) ∙ go (is_row line)
      where
        go : (b : Bool) → taken_by (deed b).does (row_of settings (fields_of (deed b).heads.columns line)) ≡ cond b (row_taken (row_of settings (fields_of columns line))) []
        go true = ap (λ (c : Columns). row_taken (row_of settings (fields_of c line))) same
        go false = refl

  -- ---- all lines
  pub loop_acts : (number : ℕ) (heads : Heads) → heads.columns ≡ columns → awaits_rows heads ≡ true → (lines : List (List ℕ)) → every stands_among_rows lines ≡ true
      → acts_in (acts_from settings number heads lines) ≡ map act_in lines
  unfolding acts_from
  loop_acts number heads c a [] e = refl
  loop_acts number heads c a (line ∷ lines) e =
      let here = left_of (stands_among_rows line) (every stands_among_rows lines) e in
      let rest =
      loop_acts (suc number) (moved_by heads line).heads (columns_stay heads a line here ∙ c) (awaits_still heads a line here) lines
      (right_of (stands_among_rows line) (every stands_among_rows lines) e)
      in
      λ i. act_is heads c a line here i ∷ rest i

  pub loop_rows_lem : (heads : Heads) → heads.columns ≡ columns → awaits_rows heads ≡ true → (lines : List (List ℕ)) → every stands_among_rows lines ≡ true
      → rows_from settings heads lines ≡ given_in settings columns lines
  unfolding rows_from
  loop_rows_lem heads c a [] e = refl
  loop_rows_lem heads c a (line ∷ lines) e =
      let here = left_of (stands_among_rows line) (every stands_among_rows lines) e in
      let rest =
      loop_rows_lem (moved_by heads line).heads (columns_stay heads a line here ∙ c) (awaits_still heads a line here) lines
      (right_of (stands_among_rows line) (every stands_among_rows lines) e)
      in
      λ i. row_is heads c a line here i ++ rest i

  -- ---- an act that does not refuse is that of a line short enough, and gives what the line gives
  pub in_short : (line : List ℕ) → GoesOn (act_in line) → length line ≤ longest
  in_short line g = go (ltb longest (length line)) (ltb-false longest (length line)) g
    where
      go : (b : Bool) → (b ≡ false → length line ≤ longest) → GoesOn (cond b (Refuse LineTooLong) (cond (is_row line) (row_act (row_of settings (fields_of columns line))) Pass)) → length line ≤ longest
      go true h g = absurd g
      go false h g = h refl

  pub in_given : (line : List ℕ) → length line ≤ longest → row_in (act_in line) ≡ given_by settings columns line
  in_given line h = ap (λ (b : Bool). row_in (cond b (Refuse LineTooLong) (cond (is_row line) (row_act (row_of settings (fields_of columns line))) Pass))) (le-ltb longest (length line) h) ∙ go (is_row line) (row_of settings (fields_of columns line))
    where
      go : (b : Bool) (r : Row) → row_in (cond b (row_act r) Pass) ≡ cond b (row_taken r) []
      go true (Err why) = refl
      go true (Ok None) = refl
      go true (Ok (Some s)) = refl
      go false r = refl
