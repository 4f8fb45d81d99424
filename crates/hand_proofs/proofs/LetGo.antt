-- A local goes when its function returns, whatever it holds.
--     lets_go n        at entry n of the context is the local's cell, and after it what frees it: `refl` at each
-- Assumes `Logic`.
use mathlib.Core.Path.{◌≡◌, subst}
use Prim.Native.Nat.{ℕ, zero}
use mathlib.Core.List.{List, ◌∷◌}
use seplogic.Ra.Ura.{Ura}
use base.Fraction.{full_share}
use mir.Syntax.{Ty}
use mir.Val.{Val}
use base.Logic.{ent, sep, via, assoc', mono∗, mono_r}
use base.Fml.{fat, fdies}
use prog.Wp.{Env}
use types.Logic.{Logic}
use types.Kit.{Item, ‵, mean, ⋆, nth, del, pull, Goal, frees, Step, step}

module _ {M : Type 1} {𝓤 : Ura M} {𝓛 : Logic 𝓤} {K : Type 0} {Γ : List (Item 𝓤)} where
  open 𝓛 use {H}

  pub lets_go : K → (n : ℕ) {τ : Ty} {b : ℕ} {v : Val} {E : Env 𝓤 H} {G : Goal 𝓤 H} → (nth 𝓛 n Γ ≡ ‵ (fat full_share τ b zero v)) × (nth 𝓛 n (del 𝓛 n Γ) ≡ ‵ (fdies τ b))
      → Step K 𝓛 (del 𝓛 n (del 𝓛 n Γ)) (frees E G) Γ (frees ((τ, b) ∷ E) G)
  lets_go t n {τ} {b} {v} {E} {G} at_n = step (λ s. record {
    prf = via 𝓤 (sep 𝓤 (H.at full_share τ b zero v) (⋆ 𝓛 (del 𝓛 n Γ)))
        (subst (λ (j : Item 𝓤). ent 𝓤 (⋆ 𝓛 Γ) (sep 𝓤 (mean 𝓛 j) (⋆ 𝓛 (del 𝓛 n Γ)))) at_n.0 (pull 𝓛 n Γ))
        (via 𝓤 (sep 𝓤 (H.room τ b zero) (sep 𝓤 (H.dies τ b) (⋆ 𝓛 (del 𝓛 n (del 𝓛 n Γ)))))
        (mono∗ 𝓤 (𝓛.laws.at_room τ b zero v)
        (subst (λ (j : Item 𝓤). ent 𝓤 (⋆ 𝓛 (del 𝓛 n Γ)) (sep 𝓤 (mean 𝓛 j) (⋆ 𝓛 (del 𝓛 n (del 𝓛 n Γ))))) at_n.1 (pull 𝓛 n (del 𝓛 n Γ))))
        (via 𝓤 (sep 𝓤 (sep 𝓤 (H.room τ b zero) (H.dies τ b)) (⋆ 𝓛 (del 𝓛 n (del 𝓛 n Γ)))) (assoc' 𝓤 (H.room τ b zero) (H.dies τ b) (⋆ 𝓛 (del 𝓛 n (del 𝓛 n Γ))))
        (mono_r 𝓤 (sep 𝓤 (H.room τ b zero) (H.dies τ b)) s.prf)));
  })
