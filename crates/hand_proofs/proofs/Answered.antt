-- A callee that answers a value says which one: that value is stored.
--     answers              the answer r is n, so the machine value that lands is n's.        answers_test         the same of a truth value
-- Assumes `Logic`.
use mathlib.Core.Path.{◌≡◌, sym, ◌∙◌, ap, subst}
use mathlib.Core.Bool.{Bool}
use Prim.Native.Nat.{ℕ, ◌<◌, ◌^◌}
use mathlib.Core.List.{List, [], ◌∷◌}
use seplogic.Ra.Ura.{Ura}
use mir.Syntax.{Place, Body, w64}
use mir.Val.{Val, vbool, vint}
use prog.Wp.{Env, Calls, Loops}
use types.Logic.{Logic}
use types.Kit.{Item, Post, Seq, Step, step, lands, ‵}
use denote.Builtin.{bool, u64}
use denote.Laws.{Is, shows}
use denote.Steps.{only, facts}

module _ {M : Type 1} {𝓤 : Ura M} {𝓛 : Logic 𝓤} {K : Type 0} where
  open 𝓛 use {H}

  pub answers : K → {Γ : List (Item 𝓤)} {E : Env 𝓤 H} {C : Calls 𝓤 H} {Λ : Loops 𝓤 H} {q : Post 𝓤 H} {d : Place} {rest : Body} {r n : ℕ} {w : Val} → r ≡ n
      → (n < 2 ^ 64 → Seq K 𝓛 Γ (lands C Λ E d (vint w64 n) rest q)) → Seq K 𝓛 (‵ (u64.own_val r (w ∷ [])) ∷ Γ) (lands C Λ E d w rest q)
  answers t {Γ} {E} {C} {Λ} {q} {d} {rest} {r} {n} {w} e k = facts t u64 (Is u64) (shows 𝓛 u64) r (w ∷ []) (λ is.
      subst (λ (v : Val). Seq K 𝓛 Γ (lands C Λ E d v rest q)) (sym (ap only is.0 ∙ ap (vint w64) e)) (k (subst (λ (m : ℕ). m < 2 ^ 64) e is.1)))

  pub answers_test : K → {Γ : List (Item 𝓤)} {E : Env 𝓤 H} {C : Calls 𝓤 H} {Λ : Loops 𝓤 H} {q : Post 𝓤 H} {d : Place} {rest : Body} {r y : Bool} {w : Val} → r ≡ y
      → Step K 𝓛 Γ (lands C Λ E d (vbool y) rest q) (‵ (bool.own_val r (w ∷ [])) ∷ Γ) (lands C Λ E d w rest q)
  answers_test t {Γ} {E} {C} {Λ} {q} {d} {rest} {r} {y} {w} e = step (λ s. facts t bool (Is bool) (shows 𝓛 bool) r (w ∷ []) (λ is.
      subst (λ (v : Val). Seq K 𝓛 Γ (lands C Λ E d v rest q)) (sym (ap only is ∙ ap vbool e)) s))
