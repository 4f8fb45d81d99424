-- A branch whose arms come to the same, as one step.
--     joins            each arm ends with the context Γ', and with it the rest runs
-- Assumes `Logic`.
use mathlib.Core.Bool.{Bool, not}
use mathlib.Core.List.{List}
use lib.Dec.{T as Holds}
use seplogic.Ra.Ura.{Ura}
use mir.Syntax.{Opd as Operand, Body, seq, cond}
use mir.Val.{vbool}
use prog.Wp.{Env, Calls, Loops, Wp, after_seq}
use types.Logic.{Logic}
use types.Kit.{Item, Post, Step, step, runs, prop, any_q, post, ◌$◌}
use types.Run.{Opd, first, branches}

module _ {M : Type 1} {𝓤 : Ura M} {𝓛 : Logic 𝓤} {K : Type 0} {Γ Γ' : List (Item 𝓤)} {E : Env 𝓤 𝓛.H} {C : Calls 𝓤 𝓛.H} {Λ : Loops 𝓤 𝓛.H} {q : Post 𝓤 𝓛.H} where
  open 𝓛 use {H}

  pub joins : K → {c : Operand} {a b rest : Body} {y : Bool} → Opd K 𝓛 Γ E c (vbool y)
      → (Holds y → Step K 𝓛 Γ' (prop (Wp 𝓤 H C Λ E rest (post 𝓤 H q))) Γ (runs C Λ E a (any_q (after_seq 𝓤 H (Wp 𝓤 H C Λ E rest (post 𝓤 H q)) (post 𝓤 H q)))))
      → (Holds (not y) → Step K 𝓛 Γ' (prop (Wp 𝓤 H C Λ E rest (post 𝓤 H q))) Γ (runs C Λ E b (any_q (after_seq 𝓤 H (Wp 𝓤 H C Λ E rest (post 𝓤 H q)) (post 𝓤 H q)))))
      → Step K 𝓛 Γ' (runs C Λ E rest q) Γ (runs C Λ E (seq (cond c a b) rest) q)
  joins t o held failed = step (λ s. first t $ branches t o (λ h. held h $ record { prf = s.prf }) (λ h. failed h $ record { prf = s.prf }))
