-- The counts of what is read are counts over the rows among the text's acts, which are its rows; and each line that is a row gives one.
use mathlib.Core.Path.{◌≡◌, refl, ◌∙◌, subst}
use mathlib.Core.List.{List, [], ◌∷◌}
use Prim.Native.Nat.{ℕ, suc, ◌+◌}
use lib.ListN.{length, length-append}
use Rattle.std.specs.Prelude.{Some, None, Ok, Err}
use Rattle.lines.specs.Lines.{lines_of}
use Rattle.rows.specs.Fields.{fields_of}
use Rattle.rows.specs.Rules.{Row, row_of}
use Rattle.rows.specs.declared.columns.Columns.{Columns}
use Rattle.rows.specs.declared.settings.Settings.{Settings}
use Rattle.line_states.specs.Heads.{start_heads}
use Rattle.line_states.specs.States.{moved_by}
use Rattle.line_states.specs.declared.heads.Heads.{Heads}
use Rattle.line_states.specs.declared.reading.Does.{Does}
use Rattle.line_states.specs.declared.reading.Does.TheVariants.{Nothing, TooManyHeaders}
use Rattle.model.specs.Lists.{count}
use Rattle.model.specs.Records.{Model}
use Rattle.model.specs.Taken.{Taken}
use Rattle.model.specs.declared.room.Room.{Room}
use Rattle.building.specs.declared.sites.Counts.{Counts}
use Rattle.acts.specs.Acts.{GoesOn, AllGoOn}
use Rattle.readings.specs.Counts.{CountedOver}
use Rattle.readings.specs.Reading.{read}
use Rattle.readings.proofs.CountsOverActs.{counts_over_acts}
use Rattle.readings.proofs.ReadByTheRows.{model_of_rows}
use Rattle.mmcif.specs.Acts.{row_act, act_by, line_act, acts_from, acts_of}
use Rattle.mmcif.specs.Rows.{taken_by, rows_from}
use Rattle.mmcif.proofs.LineActs.{short_act, short_enough}
use Rattle.mmcif.proofs.RowsOfActs.{rows_of_acts}
use Rattle.reader.specs.Reading.{read_of}
use Rattle.reader.proofs.RefusalsAreExact.{otherwise_read}
use Rattle.reader.proofs.RowsAreSound.{acts_are_sound}
use Rattle.row_order.specs.Counts.{is_row_by, row_lines, Counted}

module _ (settings : Settings) where
  -- ---- one line
  row_counted : (line : List ℕ) (columns : Columns) (does : Does) → GoesOn (act_by settings line columns does) → length (taken_by does (row_of settings (fields_of columns line))) ≡ count (is_row_by does)
  row_counted line columns Nothing g = refl
  row_counted line columns Does.Row g = go (row_of settings (fields_of columns line)) g
    where
      go : (r : Row) → GoesOn (row_act r) → length (taken_by Does.Row r) ≡ 1
      go (Err why) g = absurd g
      go (Ok None) g = refl
      go (Ok (Some s)) g = refl
  row_counted line columns TooManyHeaders g = absurd g

  line_counted : (heads : Heads) (line : List ℕ) → GoesOn (line_act settings heads line)
      → length (taken_by (moved_by heads line).does (row_of settings (fields_of (moved_by heads line).heads.columns line))) ≡ count (is_row_by (moved_by heads line).does)
  line_counted heads line g =
      let moved = moved_by heads line in
      row_counted line moved.heads.columns moved.does (subst GoesOn (short_act settings heads line (short_enough settings heads line g)) g)

  -- ---- all lines
  lines_counted : (number : ℕ) (heads : Heads) (lines : List (List ℕ)) → AllGoOn (acts_from settings number heads lines) → length (rows_from settings heads lines) ≡ row_lines heads lines
  unfolding acts_from rows_from row_lines
  lines_counted number heads [] g = refl
  lines_counted number heads (line ∷ lines) g =
      let moved = moved_by heads line in
      length-append (taken_by moved.does (row_of settings (fields_of moved.heads.columns line))) (rows_from settings moved.heads lines)
      ∙ λ i. line_counted heads line g.0 i + lines_counted (suc number) moved.heads lines g.1 i

-- ---- the theorem
pub counts_over_rows : (settings : Settings) (room : Room) (text : List ℕ) (m : Model) (counts : Counts) → read_of settings room text ≡ read m counts → Counted settings text m counts
counts_over_rows settings room text m counts e =
    let acts = acts_of settings text in
    let into = (otherwise_read settings room text m counts).0 e in
    let goes = (model_of_rows room text acts into.0 into.1).goes in
    let over = counts_over_acts room text acts (acts_are_sound settings text into.1.admitted goes) m counts e in
    let c = subst (λ (rows : List Taken). CountedOver rows m counts) (rows_of_acts settings 1 start_heads (lines_of text) goes) over in
    record {
      lines = c.rows ∙ lines_counted settings 1 start_heads (lines_of text) goes;
      rows = c.rows;
      skipped = c.skipped;
      outdone = c.outdone;
      assumed = c.assumed;
      chains = c.chains;
      residues = c.residues;
      atoms = c.atoms;
      sum = c.sum;
    }
