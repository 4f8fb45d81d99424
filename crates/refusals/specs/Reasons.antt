-- Document 01's table of refusals: the number and the detail of each reason.
use Rattle.std.specs.Prelude.{ℕ}
use Rattle.refusals.specs.declared.reasons.Reason.{Reason}
use Rattle.refusals.specs.declared.reasons.Reason.TheVariants.{TextTooLong, OutsideDomain, LineTooLong, TooManyHeaders, ColumnMissing, RowShort, OutsideGrammar, BeyondReach, NameTooLong, NoRoom, UnknownResidue, NotWellFormed, CannotBeWritten, OutputTooShort}
use Rattle.refusals.specs.declared.reasons.Refusal.{Refusal}
use Rattle.refusals.specs.Details.{column_number, axis_number, quantity_number, label_number, kind_number}

-- a reason at a line; the line is 0 where the reason is no line's
abbrev pub at : ℕ → Reason → Refusal
at line reason = record { line = line; reason = reason }

abbrev pub number_of : Reason → ℕ
number_of TextTooLong = 1
number_of (OutsideDomain byte) = 2
number_of LineTooLong = 3
number_of TooManyHeaders = 4
number_of (ColumnMissing column) = 5
number_of RowShort = 6
number_of (OutsideGrammar axis) = 7
number_of (BeyondReach quantity) = 8
number_of (NameTooLong label) = 9
number_of (NoRoom kind) = 10
number_of (UnknownResidue place) = 11
number_of NotWellFormed = 12
number_of (CannotBeWritten atom) = 13
number_of (OutputTooShort needed) = 14

abbrev pub detail_of : Reason → ℕ
detail_of TextTooLong = 0
detail_of (OutsideDomain byte) = byte
detail_of LineTooLong = 0
detail_of TooManyHeaders = 0
detail_of (ColumnMissing column) = column_number column
detail_of RowShort = 0
detail_of (OutsideGrammar axis) = axis_number axis
detail_of (BeyondReach quantity) = quantity_number quantity
detail_of (NameTooLong label) = label_number label
detail_of (NoRoom kind) = kind_number kind
detail_of (UnknownResidue place) = place
detail_of NotWellFormed = 0
detail_of (CannotBeWritten atom) = atom
detail_of (OutputTooShort needed) = needed
