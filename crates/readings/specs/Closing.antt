-- How a reading begins and ends over the lent slices, and the promise of a reader: what is answered, and what every slice holds.
use Prim.{Unit, tt}
use Rattle.std.specs.Prelude.{◌≡◌, cond, List, ℕ, ltb, length, Option, Some, None, Result, Ok, Err}
use Rattle.lines.specs.Domain.{outside_of}
use Rattle.lines.specs.declared.domain.Outside.{Outside}
use Rattle.refusals.specs.Reasons.{at}
use Rattle.refusals.specs.declared.reasons.Reason.TheVariants.{TextTooLong, OutsideDomain, UnknownResidue}
use Rattle.refusals.specs.declared.reasons.Refusal.{Refusal}
use Rattle.model.specs.Finished.{Peopled}
use Rattle.model.specs.Lent.{Lent, room_of}
use Rattle.building.specs.Holds.{records_in}
use Rattle.building.specs.declared.sites.Counts.{Counts}
use Rattle.finishing.specs.declared.finished.Unknown.{Unknown}
use Rattle.acts.specs.Making.{Making, going, halted}
use Rattle.acts.specs.Standing.{Stands}
use Rattle.acts.specs.declared.doing.Standing.{Standing}
use Rattle.readings.specs.Reading.{Reading, largest, at_end, answer_of, left_by}

-- ---- before all lines

abbrev pub halted_by : Option Outside → Result (Unit {0}) Refusal
halted_by None = Ok tt
halted_by (Some o) = Err (at o.line (OutsideDomain o.byte))

unfoldable pub halted_early : List ℕ → Result (Unit {0}) Refusal
halted_early text = cond (ltb largest (length text)) (Err (at 0 TextTooLong)) (halted_by (outside_of text))

-- ---- after all lines

abbrev pub finished_by : Result (Unit {0}) Unknown → Counts → Result Counts Refusal
finished_by (Err unknown) counts = Err (at 0 (UnknownResidue unknown.place))
finished_by (Ok u) counts = Ok counts

-- how many chains stay
abbrev pub chains_left : Result Counts Refusal → ℕ
chains_left (Ok counts) = counts.chains
chains_left (Err why) = 0

-- each residue has an atom
abbrev pub PeopledIn : Making → Type 0
PeopledIn (going st) = Peopled st
PeopledIn (halted why) = Unit {0}

-- ---- the promise of a reader

abbrev pub Leaves : Lent → Reading → Result Counts Refusal → Lent → Type 0
Leaves l reading r after = (r ≡ answer_of reading) × (after ≡ left_by l reading)

-- of its end: what the slices and counts stand for is finished
abbrev pub Closes : Lent → Standing → Result Counts Refusal → Lent → Type 0
Closes l s r after = (making : Making) → Stands (room_of l) (records_in l) s making → PeopledIn making → Leaves l (at_end making) r after
