-- The rows of a text in the domain are sound: its lines have bytes 9 and 32 to 126 alone, and what such a line gives to the model is sound.
use Prim.{tt}
use mathlib.Core.Path.{◌≡◌, refl, sym, subst}
use mathlib.Core.Bool.{true}
use mathlib.Core.List.{List, [], ◌∷◌, ◌++◌}
use Prim.Native.Nat.{ℕ}
use Rattle.std.specs.Prelude.{Option, Some, None, Result, Ok, Err}
use Rattle.refusals.specs.declared.reasons.Reason.{Reason}
use Rattle.ascii.specs.Bytes.{is_text_byte}
use Rattle.ascii.specs.Lists.{every}
use Rattle.lines.specs.Domain.{outside_of}
use Rattle.lines.specs.Lines.{lines_of}
use Rattle.lines.proofs.LinesAreText.{lines_are_text}
use Rattle.lines.proofs.NoneOutside.{in_domain_lem}
use Rattle.rows.specs.Fields.{fields_of}
use Rattle.rows.specs.Rules.{row_of}
use Rattle.rows.specs.declared.columns.Columns.{Columns}
use Rattle.rows.specs.declared.rules.Site.{Site}
use Rattle.rows.specs.declared.settings.Settings.{Settings}
use Rattle.line_states.specs.Heads.{start_heads}
use Rattle.line_states.specs.States.{moved_by}
use Rattle.line_states.specs.declared.heads.Heads.{Heads}
use Rattle.line_states.specs.declared.reading.Does.{Does}
use Rattle.line_states.specs.declared.reading.Does.TheVariants.{Nothing, TooManyHeaders}
use Rattle.model.specs.Lists.{All}
use Rattle.model.specs.Sound.{Sound}
use Rattle.model.specs.Taken.{Taken, sites}
use Rattle.model.proofs.ListLaws.{left_of, right_of}
use Rattle.model.proofs.SitesAreSound.{sites_are_sound}
use Rattle.acts.specs.Acts.{rows_in, AllGoOn}
use Rattle.readings.specs.Ends.{Admitted}
use Rattle.mmcif.specs.Acts.{acts_of}
use Rattle.mmcif.specs.Rows.{row_taken, taken_by, rows_from, rows_of}
use Rattle.mmcif.proofs.RowsOfActs.{rows_of_acts}

-- ---- one line
taken_sound : (settings : Settings) (columns : Columns) (line : List ℕ) → every is_text_byte line ≡ true → (does : Does) (l : List Taken)
    → All Sound (sites l) → All Sound (sites (taken_by does (row_of settings (fields_of columns line)) ++ l))
unfolding sites
taken_sound settings columns line text Nothing l a = a
taken_sound settings columns line text Does.Row l a = go (row_of settings (fields_of columns line)) refl
  where
    go : (r : Result (Option Site) Reason) → row_of settings (fields_of columns line) ≡ r → All Sound (sites (row_taken r ++ l))
    go (Err why) e = a
    go (Ok None) e = a
    go (Ok (Some s)) e = (sites_are_sound settings columns line s text e, a)
taken_sound settings columns line text TooManyHeaders l a = a

-- ---- all lines
rows_sound : (settings : Settings) (heads : Heads) (lines : List (List ℕ)) → every (every is_text_byte) lines ≡ true → All Sound (sites (rows_from settings heads lines))
unfolding rows_from sites
rows_sound settings heads [] e = tt
rows_sound settings heads (line ∷ lines) e =
    let moved = moved_by heads line in
    taken_sound settings moved.heads.columns line (left_of (every is_text_byte line) (every (every is_text_byte) lines) e) moved.does (rows_from settings moved.heads lines)
    (rows_sound settings moved.heads lines (right_of (every is_text_byte line) (every (every is_text_byte) lines) e))

-- ---- the theorems
pub rows_are_sound : (settings : Settings) (text : List ℕ) → outside_of text ≡ None → All Sound (sites (rows_of settings text))
rows_are_sound settings text e = rows_sound settings start_heads (lines_of text) (lines_are_text text (in_domain_lem text e))

pub acts_are_sound : (settings : Settings) (text : List ℕ) → Admitted text → AllGoOn (acts_of settings text) → All Sound (sites (rows_in (acts_of settings text)))
acts_are_sound settings text a g =
    subst (λ (l : List Taken). All Sound (sites l)) (sym (rows_of_acts settings 1 start_heads (lines_of text) g)) (rows_are_sound settings text a.inside)
