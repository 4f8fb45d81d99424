-- A text has no more rows than lines, and no more lines than bytes; and no count counts a row twice.
use mathlib.Core.Path.{◌≡◌, ap}
use mathlib.Core.Bool.{Bool, true, false, cond}
use mathlib.Core.List.{List, [], ◌∷◌}
use Prim.Native.Nat.{ℕ, suc, ◌^◌, ◌≤◌, ◌<◌}
use native.Mathlib.Omega.{arith}
use lib.ListN.{length, length-append}
use Rattle.std.specs.Prelude.{Option, Some, None, Result, Ok, Err}
use Rattle.refusals.specs.declared.reasons.Reason.{Reason}
use Rattle.lines.specs.Lines.{lines_of}
use Rattle.lines.proofs.LinesFitTheText.{lines_fit}
use Rattle.rows.specs.Fields.{fields_of}
use Rattle.rows.specs.Rules.{row_of}
use Rattle.rows.specs.declared.rules.Site.{Site}
use Rattle.rows.specs.declared.settings.Settings.{Settings}
use Rattle.line_states.specs.Heads.{start_heads}
use Rattle.line_states.specs.States.{moved_by}
use Rattle.line_states.specs.declared.heads.Heads.{Heads}
use Rattle.line_states.specs.declared.reading.Does.{Does}
use Rattle.line_states.specs.declared.reading.Does.TheVariants.{Nothing, TooManyHeaders}
use Rattle.building.specs.declared.sites.Counts.{Counts}
use Rattle.model.specs.Lists.{filter}
use Rattle.model.specs.Records.{Model}
use Rattle.model.specs.Taken.{Taken, skipped, site, sites}
use Rattle.model.specs.declared.room.Room.{Room}
use Rattle.readings.specs.Reading.{read}
use Rattle.mmcif.specs.Rows.{taken_by, rows_from, rows_of}
use Rattle.reader.specs.Reading.{read_of}
use Rattle.reader.proofs.ReadByTheRows.{read_exactly, read_by_the_rows}

one_row : (does : Does) (row : Result (Option Site) Reason) → length (taken_by does row) ≤ 1
one_row Nothing row = omega arith
one_row Does.Row (Err why) = omega arith
one_row Does.Row (Ok None) = omega arith
one_row Does.Row (Ok (Some s)) = omega arith
one_row TooManyHeaders row = omega arith

rows_fit : (settings : Settings) (heads : Heads) (lines : List (List ℕ)) → length (rows_from settings heads lines) ≤ length lines
unfolding rows_from
rows_fit settings heads [] = omega arith
rows_fit settings heads (line ∷ lines) =
    let moved = moved_by heads line in
    let row = row_of settings (fields_of moved.heads.columns line) in
    omega (arith, length-append (taken_by moved.does row) (rows_from settings moved.heads lines), one_row moved.does row, rows_fit settings moved.heads lines)

sites_fit : (l : List Taken) → length (sites l) ≤ length l
unfolding sites
sites_fit [] = omega arith
sites_fit (skipped ∷ l) = omega (arith, sites_fit l)
sites_fit (site s ∷ l) = omega (arith, sites_fit l)

filter_fits : (p : Site → Bool) (l : List Site) → length (filter p l) ≤ length l
filter_fits p [] = omega arith
filter_fits p (s ∷ l) = go (p s) (filter_fits p l)
  where
    go : (t : Bool) → length (filter p l) ≤ length l → length (cond t (s ∷ filter p l) (filter p l)) ≤ suc (length l)
    go true h = omega arith
    go false h = omega arith

-- ---- the theorem
pub counts_are_small : (settings : Settings) (room : Room) (text : List ℕ) (m : Model) (counts : Counts) → read_of settings room text ≡ read m counts
    → (counts.rows < 2 ^ 32) × (counts.skipped < 2 ^ 32) × (counts.outdone < 2 ^ 32) × (counts.assumed < 2 ^ 32)
counts_are_small settings room text m counts e =
    let admitted = ((read_exactly settings room text m counts).0 e).0 in
    let (known, counts_are, ruled, fits) = read_by_the_rows settings room text m counts e in
    let few : length (rows_of settings text) < 2 ^ 32 = omega (arith, admitted.short, lines_fit text, rows_fit settings start_heads (lines_of text)) in
    let rows = ap (λ (c : Counts). c.rows) counts_are in
    let skipped = ap (λ (c : Counts). c.skipped) counts_are in
    let outdone = ap (λ (c : Counts). c.outdone) counts_are in
    let assumed = ap (λ (c : Counts). c.assumed) counts_are in (
      omega (arith, rows, ruled.rows),
      omega (arith, skipped, ruled.rows, ruled.sum),
      omega (arith, outdone, ruled.rows, ruled.sum),
      omega (arith, assumed, ruled.assumed, filter_fits (λ s. s.assumed) (sites (rows_of settings text)), sites_fit (rows_of settings text)),
    )
