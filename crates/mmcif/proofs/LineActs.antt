-- What a line asks for: its length decides first; where it goes on it was short enough, and a row that is kept has a finite occupancy.
use Prim.{tt}
use mathlib.Core.Path.{◌≡◌, refl, subst}
use mathlib.Core.Bool.{Bool, true, false, cond}
use mathlib.Core.List.{List}
use Prim.Native.Nat.{ℕ, ◌≤◌, ◌<◌}
use Rattle.std.specs.Prelude.{Option, Some, None, Result, Ok, Err}
use Rattle.refusals.specs.declared.reasons.Reason.{Reason}
use lib.Dec.{ltb}
use lib.ListN.{length}
use borrow.Author.Tests.{ltb-true, ltb-false, lt-ltb, le-ltb}
use Rattle.refusals.specs.declared.reasons.Reason.TheVariants.{LineTooLong}
use Rattle.tokens.specs.Longest.{longest}
use Rattle.rows.specs.Fields.{fields_of}
use Rattle.rows.specs.Rules.{row_of}
use Rattle.rows.specs.declared.columns.Columns.{Columns}
use Rattle.rows.specs.declared.rules.Site.{Site}
use Rattle.rows.specs.declared.settings.Settings.{Settings}
use Rattle.line_states.specs.States.{moved_by}
use Rattle.line_states.specs.declared.heads.Heads.{Heads}
use Rattle.line_states.specs.declared.reading.Does.{Does}
use Rattle.line_states.specs.declared.reading.Does.TheVariants.{Nothing, TooManyHeaders}
use Rattle.model.specs.Proper.{Finite}
use Rattle.model.proofs.OccupancyIsFinite.{occupancy_is_finite}
use Rattle.acts.specs.Acts.{GoesOn}
use Rattle.acts.specs.Standing.{FiniteIn}
use Rattle.acts.specs.declared.act.Act.TheVariants.{Refuse}
use Rattle.mmcif.specs.Acts.{row_act, act_by, moved_act, line_act}

module _ (settings : Settings) (heads : Heads) (line : List ℕ) where
  -- ---- by the length
  pub long_act : longest < length line → line_act settings heads line ≡ Refuse LineTooLong
  unfolding line_act
  long_act h = rw (lt-ltb _ _ h)

  pub short_act : length line ≤ longest → line_act settings heads line ≡ moved_act settings line (moved_by heads line)
  unfolding line_act
  short_act h = rw (le-ltb _ _ h)

  pub short_enough : GoesOn (line_act settings heads line) → length line ≤ longest
  short_enough g = go (ltb longest (length line)) (ltb-true longest (length line)) (ltb-false longest (length line))
    where
      go : (b : Bool) → (b ≡ true → longest < length line) → (b ≡ false → length line ≤ longest) → length line ≤ longest
      go true h k = absurd (subst GoesOn (long_act (h refl)) g)
      go false h k = k refl

-- ---- what is kept
row_finite : (row : Result (Option Site) Reason) → ((s : Site) → row ≡ Ok (Some s) → Finite s.occupancy) → FiniteIn (row_act row)
row_finite (Err why) h = tt
row_finite (Ok None) h = tt
row_finite (Ok (Some s)) h = h s refl

does_finite : (settings : Settings) (line : List ℕ) (columns : Columns) (does : Does) → FiniteIn (act_by settings line columns does)
does_finite settings line columns Nothing = tt
does_finite settings line columns Does.Row = row_finite (row_of settings (fields_of columns line)) (occupancy_is_finite settings columns line)
does_finite settings line columns TooManyHeaders = tt

pub act_finite : (settings : Settings) (heads : Heads) (line : List ℕ) → FiniteIn (line_act settings heads line)
unfolding line_act
act_finite settings heads line = go (ltb longest (length line))
  where
    go : (t : Bool) → FiniteIn (cond t (Refuse LineTooLong) (moved_act settings line (moved_by heads line)))
    go true = tt
    go false = let moved = moved_by heads line in does_finite settings line moved.heads.columns moved.does
