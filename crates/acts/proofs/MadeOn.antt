-- Acts one after the other: what the first of them leave, the others go on from; and going on is no refusal.
use mathlib.Core.Path.{◌≡◌, sym, ap}
use mathlib.Core.List.{List, [], ◌∷◌, ◌++◌}
use Prim.Native.Nat.{ℕ}
use native.Mathlib.Omega.{arith}
use Rattle.refusals.specs.declared.reasons.Refusal.{Refusal}
use Rattle.model.specs.Fold.{State}
use Rattle.model.specs.declared.room.Room.{Room}
use Rattle.acts.specs.Acts.{Asked}
use Rattle.acts.specs.Making.{Making, going, halted, done, and_then, made}

pub going_not : {st : State} {why : Refusal} {A : Type 0} → going st ≡ halted why → A
going_not e = let z : ◌≡◌ {A = ℕ} 0 1 = cc in absurd (omega arith)

module _ (room : Room) where
  abbrev pub onward : List Asked → Making → Making
  onward acts making = and_then making (λ s. made room s acts)

  pub made_on : (st : State) (before after : List Asked) (s : State) → made room st before ≡ going s → made room st (before ++ after) ≡ made room s after
  unfolding made
  made_on st [] after s e = let q : st ≡ s = cc in ap (λ (t : State). made room t after) q
  made_on st (a ∷ before) after s e = go (done room st a) e (λ t. made_on t before after s)
    where
      go : (m : Making) → onward before m ≡ going s → ((t : State) → made room t before ≡ going s → made room t (before ++ after) ≡ made room s after) → onward (before ++ after) m ≡ made room s after
      go (going t) e later = later t e
      go (halted why) e later = going_not (sym e)
