-- What is read of a text that asks for these acts: the model in the lent slices, or a refusal. 1 and 2 precede all lines; then the first act that earns a refusal
-- gives it; then 11.
use Rattle.std.specs.Prelude.{cond, List, ℕ, ltb, length, Option, Some, None, Result, Ok, Err}
use Rattle.lines.specs.Domain.{outside_of}
use Rattle.lines.specs.declared.domain.Outside.{Outside}
use Rattle.refusals.specs.Reasons.{at}
use Rattle.refusals.specs.declared.reasons.Reason.TheVariants.{TextTooLong, OutsideDomain, UnknownResidue}
use Rattle.refusals.specs.declared.reasons.Refusal.{Refusal}
use Rattle.model.specs.Finished.{Finished, unknown, known, finished_of}
use Rattle.model.specs.Fold.{State, start}
use Rattle.model.specs.Lent.{Lent, holding, empty_model}
use Rattle.model.specs.Records.{Model}
use Rattle.model.specs.declared.room.Room.{Room}
use Rattle.building.specs.declared.sites.Counts.{Counts}
use Rattle.acts.specs.Acts.{Asked}
use Rattle.acts.specs.Making.{Making, going, halted, made}

-- "Text at most 16,777,216 bytes"
abbrev pub largest : ℕ
largest = 16777216

pub data Reading : Type 0 where
  read : Model → Counts → Reading
  refused : Refusal → Reading

abbrev pub counts_of : State → Counts
counts_of st = record {
  chains = length st.chains;
  residues = length st.residues;
  atoms = length st.atoms;
  rows = st.rows;
  skipped = st.skipped;
  outdone = st.outdone;
  assumed = st.assumed;
}

abbrev pub finished : Counts → Finished → Reading
finished counts (known m) = read m counts
finished counts (unknown place) = refused (at 0 (UnknownResidue place))

abbrev pub at_end : Making → Reading
at_end (going st) = finished (counts_of st) (finished_of st)
at_end (halted why) = refused why

abbrev pub after_domain : Room → List Asked → Option Outside → Reading
after_domain room acts None = at_end (made room start acts)
after_domain room acts (Some o) = refused (at o.line (OutsideDomain o.byte))

unfoldable pub reading_of : Room → List ℕ → List Asked → Reading
reading_of room text acts = cond (ltb largest (length text)) (refused (at 0 TextTooLong)) (after_domain room acts (outside_of text))

-- ---- what is answered, and what is left in the slices

abbrev pub answer_of : Reading → Result Counts Refusal
answer_of (read m counts) = Ok counts
answer_of (refused why) = Err why

abbrev pub left_by : Lent → Reading → Lent
left_by l (read m counts) = holding l m
left_by l (refused why) = holding l empty_model
