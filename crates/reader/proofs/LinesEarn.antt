-- An act of a text is refused exactly where its line earns the refusal: what a line asks for is, case by case, what `Earns` says. So lines are refused exactly by the
-- first that earns one.
use Prim.{tt}
use mathlib.Core.Path.{◌≡◌, refl, sym, ap, ◌∙◌, subst}
use mathlib.Core.Logic.{◌↔◌}
use mathlib.Core.Bool.{Bool, true, false}
use mathlib.Core.List.{List, [], ◌∷◌, ◌++◌}
use Prim.Native.Nat.{ℕ, suc, ◌+◌, ◌≤◌, ◌<◌}
use native.Mathlib.Omega.{arith}
use lib.Dec.{ltb}
use lib.ListN.{length}
use Rattle.std.specs.Prelude.{Option, Some, None, Result, Ok, Err}
use borrow.Author.Tests.{ltb-true, ltb-false}
use Rattle.refusals.specs.Reasons.{at, number_of}
use Rattle.refusals.specs.declared.reasons.Reason.{Reason}
use Rattle.refusals.specs.declared.reasons.Reason.TheVariants as reason
use Rattle.refusals.specs.declared.reasons.Refusal.{Refusal}
use Rattle.tokens.specs.Longest.{longest}
use Rattle.rows.specs.Fields.{fields_of}
use Rattle.rows.specs.Rules.{row_of}
use Rattle.rows.specs.declared.rules.Site.{Site}
use Rattle.rows.specs.declared.settings.Settings.{Settings}
use Rattle.rows.proofs.RowsRefused.{rows_refused, row_numbers_lem}
use Rattle.line_states.specs.Heads.{start_heads}
use Rattle.line_states.specs.States.{moved_by}
use Rattle.line_states.specs.declared.heads.Heads.{Heads}
use Rattle.line_states.specs.declared.reading.Does.{Does}
use Rattle.line_states.specs.declared.reading.Does.TheVariants.{Nothing, TooManyHeaders}
use Rattle.model.specs.Fold.{State, start}
use Rattle.model.specs.Room.{lacking}
use Rattle.model.specs.Taken.{site}
use Rattle.model.specs.declared.room.Room.{Room}
use Rattle.acts.specs.Acts.{Asked}
use Rattle.acts.specs.Earning.{ActEarns, refuses, lacks_room, FirstActToEarn}
use Rattle.acts.specs.Making.{made}
use Rattle.acts.specs.declared.act.Act.{Act}
use Rattle.acts.specs.declared.act.Act.TheVariants.{Pass, Skip, Keep, Refuse}
use Rattle.readings.specs.Ends.{RefusesForItself, AllForThemselves}
use Rattle.mmcif.specs.Acts.{row_act, act_by, line_act, heads_after, acts_from}
use Rattle.mmcif.proofs.ActsInParts.{acts_append, line_of}
use Rattle.mmcif.proofs.LineActs.{long_act, short_act}
use Rattle.reader.specs.Exact.{IsRow, Earns, too_long, headers, row_refused, no_room, FirstToEarn}

-- ---- one line
module _ (settings : Settings) (heads : Heads) (line : List ℕ) where
  abbrev row : Result (Option Site) Reason
  row = row_of settings (fields_of (moved_by heads line).heads.columns line)

  row_line : IsRow heads line → line_act settings heads line ≡ row_act row
  row_line r = short_act settings heads line r.short ∙ ap (act_by settings line (moved_by heads line).heads.columns) r.row

  -- what makes a line ask for each act
  data Asks : Act → Type 0 where
    long : longest < length line → Asks (Refuse reason.LineTooLong)
    nothing : Asks Pass
    more : length line ≤ longest → (moved_by heads line).does ≡ TooManyHeaders → Asks (Refuse reason.TooManyHeaders)
    row_fails : (why : Reason) → IsRow heads line → row ≡ Err why → Asks (Refuse why)
    row_skipped : Asks Skip
    row_kept : (s : Site) → IsRow heads line → row ≡ Ok (Some s) → Asks (Keep s)

  asks : Asks (line_act settings heads line)
  asks = go (ltb longest (length line)) (ltb-true longest (length line)) (ltb-false longest (length line))
    where
      by_row : IsRow heads line → (x : Result (Option Site) Reason) → row ≡ x → Asks (row_act x)
      by_row r (Err why) k = row_fails why r k
      by_row r (Ok None) k = row_skipped
      by_row r (Ok (Some s)) k = row_kept s r k

      by_deed : length line ≤ longest → (d : Does) → (moved_by heads line).does ≡ d → Asks (act_by settings line (moved_by heads line).heads.columns d)
      by_deed h Nothing k = nothing
      by_deed h Does.Row k = by_row (record { short = h; row = k }) row refl
      by_deed h TooManyHeaders k = more h k

      go : (t : Bool) → (t ≡ true → longest < length line) → (t ≡ false → length line ≤ longest) → Asks (line_act settings heads line)
      go true h k = subst Asks (sym (long_act settings heads line (h refl))) (long (h refl))
      go false h k = subst Asks (sym (short_act settings heads line (k refl))) (by_deed (k refl) (moved_by heads line).does refl)

  module _ (room : Room) (number : ℕ) (st : State) where
    abbrev asked : Asked
    asked = record { line = number; act = line_act settings heads line }

    abbrev Earned : Refusal → Type 0
    Earned why = Earns settings room number heads st line why

    -- ---- what is earned is given
    earned : (why : Refusal) → Earned why → ActEarns room st asked why
    earned why (too_long h) = refuses reason.LineTooLong (long_act settings heads line h)
    earned why (headers h e) = refuses reason.TooManyHeaders (short_act settings heads line h ∙ ap (act_by settings line (moved_by heads line).heads.columns) e)
    earned why (row_refused y r e) = refuses y (row_line r ∙ ap row_act e)
    earned why (no_room s lack r e l) = lacks_room s lack (row_line r ∙ ap row_act e) l

    -- ---- what is given is earned
    given : (why : Refusal) → ActEarns room st asked why → Earned why
    given why (refuses y e) = go y (subst Asks e asks)
      where
        go : (y : Reason) → Asks (Refuse y) → Earned (at number y)
        go y (long h) = too_long h
        go y (more h k) = headers h k
        go y (row_fails why r k) = row_refused y r k
    given why (lacks_room s kind e l) = go s (subst Asks e asks) l
      where
        go : (s : Site) → Asks (Keep s) → lacking room st (site s) ≡ Some kind → Earned (at number (reason.NoRoom kind))
        go s (row_kept t r k) l = no_room s kind r k l

  -- no line refuses for what comes before or after all lines
  pub line_for_itself : RefusesForItself (line_act settings heads line)
  line_for_itself = go (line_act settings heads line) asks
    where
      go : (act : Act) → Asks act → RefusesForItself act
      go act (long h) = (omega arith, λ q. omega arith)
      go act nothing = tt
      go act (more h k) = (omega arith, λ q. omega arith)
      go act (row_fails why r k) = let n = row_numbers_lem settings _ ((rows_refused settings _ why).0 k) in (omega (arith, n.0), λ q. omega (arith, n.1))
      go act row_skipped = tt
      go act (row_kept s r k) = tt

-- ---- all lines
pub acts_for_themselves : (settings : Settings) (number : ℕ) (heads : Heads) (lines : List (List ℕ)) → AllForThemselves (acts_from settings number heads lines)
unfolding acts_from
acts_for_themselves settings number heads [] = tt
acts_for_themselves settings number heads (line ∷ lines) = (line_for_itself settings heads line, acts_for_themselves settings (suc number) (moved_by heads line).heads lines)

module _ (settings : Settings) (room : Room) (lines : List (List ℕ)) (why : Refusal) where
  pub first_to_earn : FirstActToEarn room (acts_from settings 1 start_heads lines) why ↔ FirstToEarn settings room lines why
  unfolding acts_from
  first_to_earn = (of_acts, of_lines)
    where
      of_acts : FirstActToEarn room (acts_from settings 1 start_heads lines) why → FirstToEarn settings room lines why
      of_acts f =
          let w = line_of settings 1 start_heads lines f.before f.act f.after f.among in
          let number : 1 + length w.before ≡ suc (length w.before) = omega arith in
          let own : f.act ≡ record { line = suc (length w.before); act = line_act settings (heads_after start_heads w.before) w.line }
          = w.own ∙ ap (λ (n : ℕ). record { line = n; act = line_act settings (heads_after start_heads w.before) w.line }) number in
          record {
            before = w.before;
            line = w.line;
            after = w.after;
            among = w.among;
            st = f.st;
            read = ap (made room start) (sym w.acts) ∙ f.done;
            earns = given settings (heads_after start_heads w.before) w.line room (suc (length w.before)) f.st why (subst (λ (a : Asked). ActEarns room f.st a why) own f.earns);
          }

      of_lines : FirstToEarn settings room lines why → FirstActToEarn room (acts_from settings 1 start_heads lines) why
      of_lines f =
          let heads = heads_after start_heads f.before in
          let number : 1 + length f.before ≡ suc (length f.before) = omega arith in
          record {
            before = acts_from settings 1 start_heads f.before;
            act = record { line = suc (length f.before); act = line_act settings heads f.line };
            after = acts_from settings (suc (suc (length f.before))) (moved_by heads f.line).heads f.after;
            among =
                ap (acts_from settings 1 start_heads) f.among
                ∙ acts_append settings 1 start_heads f.before (f.line ∷ f.after)
                ∙ ap (λ (n : ℕ). acts_from settings 1 start_heads f.before ++ acts_from settings n heads (f.line ∷ f.after)) number;
            st = f.st;
            done = f.read;
            earns = earned settings heads f.line room (suc (length f.before)) f.st why f.earns;
          }

  -- and the refusal says which line that is, from 1
  pub first_is_numbered : (f : FirstToEarn settings room lines why) → why.line ≡ suc (length f.before)
  first_is_numbered f = go f.earns
    where
      go : {why : Refusal} → Earns settings room (suc (length f.before)) (heads_after start_heads f.before) f.st f.line why → why.line ≡ suc (length f.before)
      go (too_long h) = refl
      go (headers h e) = refl
      go (row_refused y r e) = refl
      go (no_room s lack r e l) = refl

-- ---- a line earns 3 to 10
abbrev pub OfLine : ℕ → Type 0
OfLine number = (3 ≤ number) × (number ≤ 10)

pub of_line_lem : {settings : Settings} {room : Room} {number : ℕ} {heads : Heads} {st : State} {line : List ℕ} {why : Refusal} → Earns settings room number heads st line why → OfLine (number_of why.reason)
of_line_lem (too_long h) = (omega arith, omega arith)
of_line_lem (headers h e) = (omega arith, omega arith)
of_line_lem {settings} (row_refused y r e) = let n = row_numbers_lem settings _ ((rows_refused settings _ y).0 e) in (omega (arith, n.0), omega (arith, n.1))
of_line_lem (no_room s lack r e l) = (omega arith, omega arith)
