-- The rows of a text are the kept and the skipped of its acts, where none of them refuses.
use mathlib.Core.Path.{◌≡◌, refl, sym, ap, ◌∙◌}
use mathlib.Core.List.{List, [], ◌∷◌, ◌++◌, append_assoc}
use Prim.Native.Nat.{ℕ, suc}
use Rattle.std.specs.Prelude.{Option, Some, None, Result, Ok, Err}
use Rattle.refusals.specs.declared.reasons.Reason.{Reason}
use Rattle.rows.specs.Fields.{fields_of}
use Rattle.rows.specs.Rules.{row_of}
use Rattle.rows.specs.declared.columns.Columns.{Columns}
use Rattle.rows.specs.declared.rules.Site.{Site}
use Rattle.rows.specs.declared.settings.Settings.{Settings}
use Rattle.line_states.specs.States.{moved_by}
use Rattle.line_states.specs.declared.heads.Heads.{Heads}
use Rattle.line_states.specs.declared.reading.Does.{Does}
use Rattle.line_states.specs.declared.reading.Does.TheVariants.{Nothing, TooManyHeaders}
use Rattle.model.specs.Taken.{Taken}
use Rattle.acts.specs.Acts.{row_in, rows_in, GoesOn, AllGoOn}
use Rattle.mmcif.specs.Acts.{row_act, act_by, line_act, heads_after, acts_from}
use Rattle.mmcif.specs.Rows.{row_taken, taken_by, rows_from}
use Rattle.mmcif.proofs.LineActs.{short_act, short_enough}

-- ---- one line
row_taken_lem : (row : Result (Option Site) Reason) → row_in (row_act row) ≡ row_taken row
row_taken_lem (Err why) = refl
row_taken_lem (Ok None) = refl
row_taken_lem (Ok (Some s)) = refl

pub taken_by_lem : (settings : Settings) (line : List ℕ) (columns : Columns) (does : Does) → row_in (act_by settings line columns does) ≡ taken_by does (row_of settings (fields_of columns line))
taken_by_lem settings line columns Nothing = refl
taken_by_lem settings line columns Does.Row = row_taken_lem (row_of settings (fields_of columns line))
taken_by_lem settings line columns TooManyHeaders = refl

pub row_of_line : (settings : Settings) (heads : Heads) (line : List ℕ) → GoesOn (line_act settings heads line)
    → row_in (line_act settings heads line) ≡ taken_by (moved_by heads line).does (row_of settings (fields_of (moved_by heads line).heads.columns line))
row_of_line settings heads line g =
    let moved = moved_by heads line in
    ap row_in (short_act settings heads line (short_enough settings heads line g)) ∙ taken_by_lem settings line moved.heads.columns moved.does

-- ---- the theorem
pub rows_of_acts : (settings : Settings) (number : ℕ) (heads : Heads) (lines : List (List ℕ)) → AllGoOn (acts_from settings number heads lines)
    → rows_in (acts_from settings number heads lines) ≡ rows_from settings heads lines
unfolding acts_from rows_in rows_from
rows_of_acts settings number heads [] g = refl
rows_of_acts settings number heads (line ∷ lines) g = λ i. row_of_line settings heads line g.0 i ++ rows_of_acts settings (suc number) (moved_by heads line).heads lines g.1 i

-- ---- rows part by part
pub rows_append : (settings : Settings) (heads : Heads) (a b : List (List ℕ)) → rows_from settings heads (a ++ b) ≡ rows_from settings heads a ++ rows_from settings (heads_after heads a) b
unfolding heads_after rows_from
rows_append settings heads [] b = refl
rows_append settings heads (line ∷ a) b =
    let moved = moved_by heads line in
    let here = taken_by moved.does (row_of settings (fields_of moved.heads.columns line)) in
    ap (λ (l : List Taken). here ++ l) (rows_append settings moved.heads a b)
    ∙ sym (append_assoc here (rows_from settings moved.heads a) (rows_from settings (heads_after moved.heads a) b))
