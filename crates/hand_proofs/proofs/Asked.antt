-- What a callee asks that has no `requires`: what its parameters' types own, beside the tokens, and `emp`.
--     asked            of any parameters.        asked_none       of none
--     asked_two        of two parameters, of which the first has the one lifetime
--     counted n        a count is owned for nothing, where its machine values are its own: the step puts it into the context
-- `asked_two` and `counted` take `Logic`. The rest assumes nothing.
use Prim.Native.Nat.{ℕ}
use mathlib.Core.List.{List, [], ◌∷◌}
use seplogic.Ra.Ura.{Ura}
use mir.Syntax.{w64}
use mir.Val.{Val}
use base.Logic.{SProp, ent, sep, emp, via, emp∗, comm∗}
use base.Fml.{Lft, Share, Fml, ftrue, fsep, flft}
use types.Logic.{Logic, sem}
use types.Kit.{Item, Goal, Step, ‵, ◌$◌, ◌∵◌, !, qed, move, join, fjoin, frame, done}
use denote.Laws.{Is}
use denote.Plain.{uint_Makes}
use denote.Builtin.{usize}
use denote.Steps.{nothing, owned}

pub asked : {M : Type 1} (𝓤 : Ura M) (P : SProp 𝓤) → ent 𝓤 P (sep 𝓤 P (emp 𝓤))
asked 𝓤 P = via 𝓤 (sep 𝓤 (emp 𝓤) P) (emp∗ 𝓤 P) (comm∗ 𝓤 (emp 𝓤) P)

pub asked_none : {M : Type 1} (𝓤 : Ura M) → ent 𝓤 (emp 𝓤) (sep 𝓤 (sep 𝓤 (emp 𝓤) (emp 𝓤)) (emp 𝓤))
asked_none 𝓤 = via 𝓤 (sep 𝓤 (emp 𝓤) (emp 𝓤)) (emp∗ 𝓤 (emp 𝓤)) (asked 𝓤 (sep 𝓤 (emp 𝓤) (emp 𝓤)))

pub asked_two : {M : Type 1} {𝓤 : Ura M} (𝓛 : Logic 𝓤) → (κ : Lft) (q : Share) (P Q : Fml)
    → ent 𝓤 (sep 𝓤 (𝓛.A.lft κ q) (sep 𝓤 (sem 𝓛 P) (sem 𝓛 Q))) (sep 𝓤 (sep 𝓤 (sep 𝓤 (𝓛.A.lft κ q) (emp 𝓤)) (sem 𝓛 (fsep P (fsep Q ftrue)))) (emp 𝓤))
asked_two 𝓛 κ q P Q =
    qed 𝓛 (‵ (flft κ q) ∷ ‵ P ∷ ‵ Q ∷ []) ∵ nothing ! $ move ! (3 ∷ 0 ∷ []) $ fjoin ! $ move ! (2 ∷ 0 ∷ []) $ fjoin ! $ nothing ! $ move ! (2 ∷ 0 ∷ []) $ join ! $ join ! $ frame ! $ done !

module _ {M : Type 1} {𝓤 : Ura M} {𝓛 : Logic 𝓤} {K : Type 0} {Γ : List (Item 𝓤)} {G : Goal 𝓤 𝓛.H} where
  pub counted : K → (n : ℕ) {vs : List Val} → Is usize n vs → Step K 𝓛 (‵ (usize.own_val n vs) ∷ Γ) G Γ G
  counted t n {vs} is = owned t usize (Is usize) (uint_Makes 𝓛 w64) n vs is

-- of parameters at one lifetime
pub asked_at : {M : Type 1} {𝓤 : Ura M} (𝓛 : Logic 𝓤) → (κ : Lft) (q : Share) (P : Fml) → ent 𝓤 (sep 𝓤 (𝓛.A.lft κ q) (sem 𝓛 P)) (sep 𝓤 (sep 𝓤 (sep 𝓤 (𝓛.A.lft κ q) (emp 𝓤)) (sem 𝓛 P)) (emp 𝓤))
asked_at 𝓛 κ q P = qed 𝓛 (‵ (flft κ q) ∷ ‵ P ∷ []) ∵ nothing ! $ nothing ! $ move ! (2 ∷ 0 ∷ []) $ join ! $ move ! (0 ∷ 2 ∷ []) $ join ! $ done !
