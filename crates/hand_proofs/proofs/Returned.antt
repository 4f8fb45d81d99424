-- What a caller has once a callee has returned: its tokens, the result and what says the last values of the parameters, with the fact that the callee's `ensures` states.
--     Returned y w     the callee's `post` (`Denote/Triple/Spec.antt`), at what its triple binds and at the machine value returned, as an item of the context: `id⊢` shows it
--     told             the item is taken apart
-- Assumes `Logic`.
use mathlib.Core.List.{List, [], ◌∷◌}
use seplogic.Ra.Ura.{Ura}
use mir.Val.{Val}
use types.Logic.{Logic}
use contract.Monad.{fact}
use types.Kit.{Item, ‵, raw, some, later, ◌⊛◌, Goal, Soaks, Seq, ◌$◌, move, split, pick, await}
use denote.Signature.{type_at}
use denote.Steps.{heard}
use denote.Triple.Entry.{Res, alive}
use denote.Triple.Spec.{triple_of}
use denote.Triple.Clauses.{Ended, Clauses, Lasts, lasts, at_exit, closing}

module _ {M : Type 1} {𝓤 : Ura M} (𝓛 : Logic 𝓤) (T : Ended) (c : Clauses 𝓤 T) where
  abbrev pub Returned : (triple_of 𝓛 T.signature (closing 𝓛 T c)).Ghost → Val → Item 𝓤
  Returned y w = later (some (λ (r : Res T.signature y.0.0). (raw (alive 𝓛 T.signature y.0.0 y.0.1) ⊛ ‵ ((type_at T.signature.result y.0.0).own_val r (w ∷ [])))
      ⊛ some (λ (ws : Lasts T y.0.0 y.0.3). ‵ (lasts T y.0.0 y.0.3 ws) ⊛ raw ((c y.0.0 y.0.3).ensures y.1 r (at_exit T y.0.0 y.0.3 ws)))))

module _ {M : Type 1} {𝓤 : Ura M} {𝓛 : Logic 𝓤} {K : Type 0} {Γ : List (Item 𝓤)} {G : Goal 𝓤 𝓛.H} where
  -- [.., the result r; the tokens; the last values ws; ..], and φ of r and ws is known
  pub told : K → Soaks G → {X : Type 0} {Y : Type 0} {I : Item 𝓤} {J : X → Item 𝓤} {L : Y → Item 𝓤} (φ : X → Y → Type 0)
      → ((x : X) (y : Y) → φ x y → Seq K 𝓛 (J x ∷ I ∷ L y ∷ Γ) G) → Seq K 𝓛 (later (some (λ x. (I ⊛ J x) ⊛ some (λ y. L y ⊛ raw (fact 𝓤 (φ x y))))) ∷ Γ) G
  told t z φ k = await t z $ pick t (λ x. split t $ move t (1 ∷ []) $ pick t (λ y. split t $ move t (1 ∷ []) $ heard t (φ x y) (λ e. move t (1 ∷ []) $ split t $ move t (1 ∷ []) $ k x y e)))
