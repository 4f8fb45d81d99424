-- The locals of a function as a walk's context has them: with each, what frees it.
--     empty, holding   a local that is room, and one that holds a value.        locals       a list of them, the last local first
--     restates         the context is this one: what the steps before have made of it is not computed again
--     all_go           they all go when the function returns
-- The two steps assume `Logic`. The rest assumes nothing.
use mathlib.Core.List.{List, [], ◌∷◌, ◌++◌}
use Prim.Native.Nat.{ℕ, zero}
use seplogic.Ra.Ura.{Ura}
use base.Fraction.{full_share}
use mir.Syntax.{Ty}
use mir.Val.{Val}
use base.Logic.{ent, sep, emp, id⊢, via, comm∗, mono∗, snd∗}
use base.Fml.{Fml, ftrue, fsep, fat, froom, fdies}
use prog.Wp.{Heap, Env}
use types.Logic.{Logic, sem}
use types.Kit.{Item, ‵, raw, ⋆, ⊢++, Goal, aim, frees, Step, step, ◌$◌, ◌∵◌, !, qed, by, move, use1, fsplit, fjoin, frame}

pub data Local : Type 0 where
  empty : Ty → ℕ → Local
  holding : Ty → ℕ → Val → Local

abbrev pub locals : {M : Type 1} (𝓤 : Ura M) → List Local → List (Item 𝓤)
locals 𝓤 [] = []
locals 𝓤 (empty τ b ∷ ls) = ‵ (froom τ b 0) ∷ ‵ (fdies τ b) ∷ locals 𝓤 ls
locals 𝓤 (holding τ b v ∷ ls) = ‵ (fat full_share τ b 0 v) ∷ ‵ (fdies τ b) ∷ locals 𝓤 ls

abbrev of_local : Local → Ty × ℕ
of_local (empty τ b) = (τ, b)
of_local (holding τ b v) = (τ, b)

-- as a body's environment has them, before those in E
abbrev env : {M : Type 1} (𝓤 : Ura M) (H : Heap 𝓤) → List Local → Env 𝓤 H → Env 𝓤 H
env 𝓤 H [] E = E
env 𝓤 H (l ∷ ls) E = env 𝓤 H ls (of_local l ∷ E)

-- what they are freed with
abbrev spent : List Local → Fml
spent [] = ftrue
spent (l ∷ ls) = fsep (fsep (froom (of_local l).0 (of_local l).1 zero) (fdies (of_local l).0 (of_local l).1)) (spent ls)

module _ {M : Type 1} {𝓤 : Ura M} (𝓛 : Logic 𝓤) where
  open 𝓛 use {H}

  spends : (ls : List Local) → ent 𝓤 (⋆ 𝓛 (locals 𝓤 ls)) (sem 𝓛 (spent ls))
  spends [] = id⊢ 𝓤 (emp 𝓤)
  spends (empty τ b ∷ ls) = qed 𝓛 (locals 𝓤 (empty τ b ∷ ls)) ∵ fjoin ! $ frame ! $ by ! (spends ls)
  spends (holding τ b v ∷ ls) = qed 𝓛 (locals 𝓤 (holding τ b v ∷ ls)) ∵ use1 𝓛 (‵ (froom τ b 0)) (𝓛.laws.at_room τ b 0 v) $ fjoin ! $ frame ! $ by ! (spends ls)

  frees_all : (ls : List Local) (E : Env 𝓤 H) (G : Goal 𝓤 H) → ent 𝓤 (sep 𝓤 (sem 𝓛 (spent ls)) (aim 𝓤 H (frees E G))) (aim 𝓤 H (frees (env 𝓤 H ls E) G))
  frees_all [] E G = snd∗ 𝓤 (emp 𝓤) (aim 𝓤 H (frees E G))
  frees_all (l ∷ ls) E G = qed 𝓛 (‵ (spent (l ∷ ls)) ∷ raw (aim 𝓤 H (frees E G)) ∷ []) ∵ fsplit ! $ move ! (1 ∷ 0 ∷ []) $ by ! (frees_all ls (of_local l ∷ E) G)

module _ {M : Type 1} {𝓤 : Ura M} {𝓛 : Logic 𝓤} {K : Type 0} where
  open 𝓛 use {H}

  pub restates : K → (Γ : List (Item 𝓤)) {G : Goal 𝓤 H} → Step K 𝓛 Γ G Γ G
  restates t Γ = step (λ s. s)

  pub all_go : K → (Γ : List (Item 𝓤)) (ls : List Local) {G : Goal 𝓤 H} → Step K 𝓛 Γ G (Γ ++ locals 𝓤 ls) (frees (env 𝓤 H ls []) G)
  all_go t Γ ls {G} = step (λ s. by t (via 𝓤 (sep 𝓤 (⋆ 𝓛 Γ) (⋆ 𝓛 (locals 𝓤 ls))) (⊢++ 𝓛 Γ (locals 𝓤 ls))
      (via 𝓤 (sep 𝓤 (⋆ 𝓛 (locals 𝓤 ls)) (⋆ 𝓛 Γ)) (comm∗ 𝓤 (⋆ 𝓛 Γ) (⋆ 𝓛 (locals 𝓤 ls)))
      (via 𝓤 (sep 𝓤 (sem 𝓛 (spent ls)) (aim 𝓤 H G)) (mono∗ 𝓤 (spends 𝓛 ls) s.prf) (frees_all 𝓛 ls [] G)))))
