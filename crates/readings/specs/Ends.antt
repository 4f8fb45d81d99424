-- How a reading ends: what 1 and 2 let pass, what is done to its end, and which refusals come of acts.
use Prim.{Unit}
use Rattle.std.specs.Prelude.{◌≡◌, List, ℕ, ◌≤◌, length, None}
use Rattle.lines.specs.Domain.{outside_of}
use Rattle.refusals.specs.Reasons.{number_of}
use Rattle.refusals.specs.declared.reasons.Refusal.{Refusal}
use Rattle.model.specs.Fold.{State, start}
use Rattle.model.specs.Lists.{All}
use Rattle.model.specs.declared.room.Room.{Room}
use Rattle.acts.specs.Acts.{Asked}
use Rattle.acts.specs.Making.{going, made}
use Rattle.acts.specs.declared.act.Act.{Act}
use Rattle.acts.specs.declared.act.Act.TheVariants.{Pass, Skip, Keep, Refuse}
use Rattle.readings.specs.Reading.{Reading, read, refused, largest}

-- a text that 1 and 2 let pass
pub record Admitted (text : List ℕ) : Type 0 where
  pub short : length text ≤ largest
  pub inside : outside_of text ≡ None

-- and all its acts are done, and leave this state
pub record DoneInto (room : Room) (text : List ℕ) (acts : List Asked) (st : State) : Type 0 where
  pub admitted : Admitted text
  pub done : made room start acts ≡ going st

-- ---- no act refuses for what comes before or after all of them: 1, 2 and 11

abbrev pub OfAct : ℕ → Type 0
OfAct number = (3 ≤ number) × (number ≡ 11 → ⊥)

abbrev pub RefusesForItself : Act → Type 0
RefusesForItself Pass = Unit {0}
RefusesForItself Skip = Unit {0}
RefusesForItself (Keep s) = Unit {0}
RefusesForItself (Refuse why) = OfAct (number_of why)

abbrev pub AllForThemselves : List Asked → Type 0
AllForThemselves acts = All (λ a. RefusesForItself a.act) acts

-- ---- read to the end: into a model and counts, or up to the one refusal that comes after all lines

-- 11, an unknown residue
abbrev pub AfterAllLines : Refusal → Type 0
AfterAllLines why = number_of why.reason ≡ 11

abbrev pub ToTheEnd : Reading → Type 0
ToTheEnd (read m counts) = Unit {0}
ToTheEnd (refused why) = AfterAllLines why
