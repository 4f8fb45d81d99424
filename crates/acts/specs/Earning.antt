-- When acts are refused: the first of them that earns a refusal, for itself or for want of room.
use Rattle.std.specs.Prelude.{◌≡◌, List, ◌∷◌, ◌++◌, Some}
use Rattle.refusals.specs.Reasons.{at}
use Rattle.refusals.specs.declared.details.RecordKind.{RecordKind}
use Rattle.refusals.specs.declared.reasons.Reason.{Reason}
use Rattle.refusals.specs.declared.reasons.Reason.TheVariants.{NoRoom}
use Rattle.refusals.specs.declared.reasons.Refusal.{Refusal}
use Rattle.rows.specs.declared.rules.Site.{Site}
use Rattle.model.specs.Fold.{State, start}
use Rattle.model.specs.Room.{lacking}
use Rattle.model.specs.Taken.{site}
use Rattle.model.specs.declared.room.Room.{Room}
use Rattle.acts.specs.declared.act.Act.TheVariants.{Keep, Refuse}
use Rattle.acts.specs.Acts.{Asked}
use Rattle.acts.specs.Making.{going, made}

-- what an act earns, by the model before it
pub data ActEarns (room : Room) (st : State) (a : Asked) : Refusal → Type 0 where
  refuses : (why : Reason) → a.act ≡ Refuse why → ActEarns room st a (at a.line why)
  lacks_room : (s : Site) (kind : RecordKind) → a.act ≡ Keep s → lacking room st (site s) ≡ Some kind → ActEarns room st a (at a.line (NoRoom kind))

-- the first act that earns a refusal
pub record FirstActToEarn (room : Room) (acts : List Asked) (why : Refusal) : Type 0 where
  pub before : List Asked
  pub act : Asked
  pub after : List Asked
  pub among : acts ≡ before ++ act ∷ after
  pub st : State
  -- those before it are done
  pub done : made room start before ≡ going st
  pub earns : ActEarns room st act why

-- no act earns one
abbrev pub NoActEarns : Room → List Asked → Type 0
NoActEarns room acts = (why : Refusal) → FirstActToEarn room acts why → ⊥
