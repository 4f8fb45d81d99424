-- Line and detail of a refusal of the reading are below 2 ^ 32: a text that is refused at a line has at most 16,777,216 bytes, and so no more lines; a row has
-- few columns, a byte is below 256, and there is room for at most 65,536 residues.
use mathlib.Core.Path.{◌≡◌, ap, ◌∙◌, subst}
use mathlib.Core.Bool.{Bool, true, false, cond}
use mathlib.Core.List.{List, [], ◌∷◌}
use mathlib.Core.Option as math
use Prim.Native.Nat.{ℕ, suc, ◌+◌, ◌^◌, ◌≤◌, ◌<◌}
use native.Mathlib.Omega.{arith}
use lib.Dec.{eqb}
use lib.ListN.{length, length-append}
use Rattle.std.specs.Prelude.{Option, None, Some}
use Rattle.refusals.specs.Details.{column_number, axis_number, quantity_number, label_number, kind_number}
use Rattle.refusals.specs.Reasons.{number_of, detail_of}
use Rattle.refusals.specs.declared.details.Axis.{Axis}
use Rattle.refusals.specs.declared.details.Axis.TheVariants as axis
use Rattle.refusals.specs.declared.details.Column.{Column}
use Rattle.refusals.specs.declared.details.Column.TheVariants as column
use Rattle.refusals.specs.declared.details.Label.{Label}
use Rattle.refusals.specs.declared.details.Label.TheVariants as label
use Rattle.refusals.specs.declared.details.Quantity.{Quantity}
use Rattle.refusals.specs.declared.details.Quantity.TheVariants.{Coordinate, Occupancy}
use Rattle.refusals.specs.declared.details.RecordKind.{RecordKind}
use Rattle.refusals.specs.declared.details.RecordKind.TheVariants as kind
use Rattle.refusals.specs.declared.reasons.Reason.{Reason}
use Rattle.refusals.specs.declared.reasons.Reason.TheVariants.{TextTooLong, OutsideDomain, LineTooLong, TooManyHeaders, ColumnMissing, RowShort, OutsideGrammar, BeyondReach, NameTooLong, NoRoom, UnknownResidue, NotWellFormed, CannotBeWritten, OutputTooShort}
use Rattle.refusals.specs.declared.reasons.Refusal.{Refusal}
use Rattle.ascii.specs.Bytes.{first}
use Rattle.rows.specs.declared.settings.Settings.{Settings}
use Rattle.lines.specs.declared.domain.Outside.{Outside}
use Rattle.lines.specs.Domain.{is_allowed, line_after, outside_from}
use Rattle.lines.specs.Lines.{lines_of}
use Rattle.lines.proofs.LinesFitTheText.{lines_fit}
use Rattle.model.specs.Finished.{unknown_in, model_from, unless, finished_of}
use Rattle.model.specs.Fold.{State}
use Rattle.model.specs.Lent.{Lent, room_of}
use Rattle.model.specs.Lists.{All}
use Rattle.model.specs.declared.room.Room.{Room}
use Rattle.model.proofs.UnknownIsFirst.{unknown_is_first}
use Rattle.reader.specs.Exact.{ReadInto}
use Rattle.readings.specs.Reading.{refused}
use Rattle.reader.specs.Reading.{read_of}
use Rattle.reader.proofs.RefusalsAreExact.{RefusedSo, long, outside, of_line, unknown, refused_so}
use Rattle.reader.proofs.ReadByTheRows.{model_of_rows}
use Rattle.reader.proofs.LinesEarn.{first_is_numbered, of_line_lem}
use Rattle.readings.proofs.SlicesOfOneSize.{room_within}

abbrev Small : Refusal → Type 0
Small why = (why.line < 2 ^ 32) × (detail_of why.reason < 2 ^ 32)

-- ---- 2: a byte of the text, at most one line further for each before it
abbrev line_in : Option Outside → ℕ
line_in None = 0
line_in (Some o) = o.line

abbrev byte_in : Option Outside → ℕ
byte_in None = 0
byte_in (Some o) = o.byte

outside_within : (from line byte : ℕ) (text : List ℕ) → outside_from from text ≡ Some (record { line = line; byte = byte }) → All (λ b. b < 256) text → (line ≤ from + length text) × (byte < 256)
unfolding outside_from
outside_within from line byte [] e h = let z : ◌≡◌ {A = ℕ} 0 1 = cc in absurd (omega arith)
outside_within from line byte (b ∷ bs) e h = go (is_allowed b (first bs)) e (outside_within (line_after from b) line byte bs)
  where
    after : (t : Bool) → cond t (from + 1) from ≤ from + 1
    after true = omega arith
    after false = omega arith

    go : (t : Bool) → cond t (outside_from (line_after from b) bs) (Some (record { line = from; byte = b })) ≡ Some (record { line = line; byte = byte })
        → (outside_from (line_after from b) bs ≡ Some (record { line = line; byte = byte }) → All (λ b. b < 256) bs → (line ≤ line_after from b + length bs) × (byte < 256))
        → (line ≤ from + suc (length bs)) × (byte < 256)
    go true e later = let r = later e h.1 in (omega (arith, after (eqb b 10)), r.1)
    go false e later =
        let line-is : from ≡ line = ap line_in e in
        let byte-is : b ≡ byte = ap byte_in e in
        (omega arith, subst (λ (n : ℕ). n < 256) byte-is h.0)

-- ---- 3 to 10: what is named is one of a few
column_small : (column : Column) → column_number column ≤ 8
column_small column.Atom = omega arith
column_small column.Residue = omega arith
column_small column.Chain = omega arith
column_small column.Sequence = omega arith
column_small column.X = omega arith
column_small column.Y = omega arith
column_small column.Z = omega arith

axis_small : (axis : Axis) → axis_number axis ≤ 8
axis_small axis.X = omega arith
axis_small axis.Y = omega arith
axis_small axis.Z = omega arith

quantity_small : (quantity : Quantity) → quantity_number quantity ≤ 8
quantity_small (Coordinate axis) = axis_small axis
quantity_small Occupancy = omega arith

label_small : (label : Label) → label_number label ≤ 8
label_small label.Atom = omega arith
label_small label.Residue = omega arith
label_small label.Chain = omega arith

kind_small : (kind : RecordKind) → kind_number kind ≤ 8
kind_small kind.Chain = omega arith
kind_small kind.Residue = omega arith
kind_small kind.Atom = omega arith

line_detail : (why : Reason) → 3 ≤ number_of why → number_of why ≤ 10 → detail_of why ≤ 8
line_detail TextTooLong low high = omega arith
line_detail (OutsideDomain byte) low high = absurd (omega arith)
line_detail LineTooLong low high = omega arith
line_detail TooManyHeaders low high = omega arith
line_detail (ColumnMissing column) low high = column_small column
line_detail RowShort low high = omega arith
line_detail (OutsideGrammar axis) low high = axis_small axis
line_detail (BeyondReach quantity) low high = quantity_small quantity
line_detail (NameTooLong label) low high = label_small label
line_detail (NoRoom kind) low high = kind_small kind
line_detail (UnknownResidue place) low high = absurd (omega arith)
line_detail NotWellFormed low high = omega arith
line_detail (CannotBeWritten atom) low high = absurd (omega arith)
line_detail (OutputTooShort needed) low high = absurd (omega arith)

module _ (settings : Settings) (l : Lent) (text : List ℕ) where
  abbrev room : Room
  room = room_of l

  -- ---- 11
  place_small : (st : State) (place : ℕ) → ReadInto settings room text st → unknown_in st.residues ≡ math.some place → place < 2 ^ 32
  unfolding finished_of
  place_small st place r u =
      let f = (unknown_is_first st place).0 (ap (λ o. unless o (model_from st)) u) in
      omega (
        arith,
        f.counted,
        ap length f.residues ∙ length-append f.before (f.first ∷ f.after),
        (model_of_rows settings room text st r).1.residues,
        (room_within l).sizes.1,
      )

  -- ---- the theorem
  pub refusals_are_small : All (λ b. b < 256) text → (why : Refusal) → read_of settings room text ≡ refused why → (why.line < 2 ^ 32) × (detail_of why.reason < 2 ^ 32)
  refusals_are_small h why e = go why (refused_so settings room text why e)
    where
      go : (why : Refusal) → RefusedSo settings room text why → Small why
      go why (long k) = (omega arith, omega arith)
      go why (outside {line} {byte} k o) = let (a, b) = outside_within 1 line byte text o h in (omega arith, omega arith)
      go why (of_line a f) =
          let (low, high) = of_line_lem f.earns in (
            omega (arith, a.short, first_is_numbered settings room (lines_of text) why f, ap length f.among ∙ length-append f.before (f.line ∷ f.after), lines_fit text),
            omega (arith, line_detail why.reason low high),
          )
      go why (unknown {st} {place} r u) = (omega arith, place_small st place r u)
