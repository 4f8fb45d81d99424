-- The first stage, where none waits, and on from there.
use Prim.{Unit}
use mathlib.Core.Path.{◌≡◌, refl, ap, ◌∙◌, subst}
use mathlib.Core.List.{[]}
use Prim.Native.Nat.{ℕ}
use lib.ListN.{length}
use Rattle.std.specs.Prelude.{Result, Ok, Err}
use Rattle.refusals.specs.declared.reasons.Refusal.{Refusal}
use Rattle.mmcif.specs.Stages.{onward_to, stage_at, GoesOnTo}
use Rattle.mmcif.proofs.stages.first_row.Goals as goal

-- a refusal ends the text, twice as once
onward_twice : (halt : Result (Unit {0}) Refusal) (n size : ℕ) → onward_to halt (onward_to halt n size) size ≡ onward_to halt n size
onward_twice (Ok u) n size = refl
onward_twice (Err why) n size = refl

pub returns : goal.returns
returns c =
    let a = c.args in
    let size = length a.text.now in
    let place = ap (λ (n : ℕ). onward_to a.halt n size) c.onward.ensures ∙ onward_twice a.halt 0 size in
    subst (λ s. GoesOnTo a.text.now a.settings s c.walk.result)
    (λ i. stage_at (place i) 1 (c.start_heads.ensures i) (record { held = c.none_held.ensures i; halt = a.halt })) ((c.walk.ensures.walks []).first refl)
