-- A call as one step: the callee's parameters are given, and once it has returned there are its result, its tokens and what says the last values of its parameters, with the fact that its `ensures` states.
--     gives_values, gives, gives_two     what a callee asks that has no `requires`: of parameters at no lifetime, at one, and of one parameter at a lifetime before parameters at another
--     Meant            the contract of a callee with the clauses c
--     calls_told           a call of a callee with the clauses c. φ is the fact, and `refl` shows that the `ensures` states it.        calls_told_last      of a call that ends a part
-- Assumes `Logic`.
use mathlib.Core.Path.{◌≡◌, subst}
use mathlib.Core.List.{List, [], ◌∷◌}
use seplogic.Ra.Ura.{Ura}
use mir.Syntax.{Callee, Place, Opd as Operand, Body, seq, call}
use mir.Val.{Val}
use base.Logic.{SProp, ent, sep, emp, id⊢}
use base.Fml.{Lft, Share, Fml, fsep, flft}
use prog.Wp.{Env, Calls, Loops}
use types.Logic.{Logic, sem}
use contract.Monad.{fact}
use sound.WpLaws.{FmC}
use types.Kit.{Item, ‵, raw, Goal, Soaks, Post, runs, lands, settles, Seq, Step, step, ◌$◌, move, use1, use2, split, join, fjoin, pick, await}
use types.Run.{Opds}
use denote.Signature.{type_at}
use denote.Steps.{nothing, heard}
use denote.Triple.Call.{calls_at, calls_at_last}
use denote.Triple.Clauses.{Ended, Clauses, Lasts, lasts, at_exit, closing}
use denote.Triple.Entry.{Res, alive}
use denote.Triple.Spec.{triple_of}
use denote.Triple.Statement.{Contract, Triple}
use Rattle.hand_proofs.proofs.Asked.{asked, asked_at}
use Rattle.hand_proofs.proofs.Returned.{Returned}

module _ {M : Type 1} {𝓤 : Ura M} {𝓛 : Logic 𝓤} {K : Type 0} {Γ : List (Item 𝓤)} {G : Goal 𝓤 𝓛.H} (t : K) where
  open 𝓛 use {A}

  pub gives_values : {P : Fml} → Step K 𝓛 (raw (sep 𝓤 (sep 𝓤 (emp 𝓤) (sem 𝓛 P)) (emp 𝓤)) ∷ Γ) G (‵ P ∷ Γ) G
  gives_values {P} = step (λ s. nothing t $ use2 𝓛 (raw (sep 𝓤 (sep 𝓤 (emp 𝓤) (sem 𝓛 P)) (emp 𝓤))) (asked 𝓤 _) $ s)

  pub gives : {κ : Lft} {q : Share} {P : Fml} → Step K 𝓛 (raw (sep 𝓤 (sep 𝓤 (sep 𝓤 (A.lft κ q) (emp 𝓤)) (sem 𝓛 P)) (emp 𝓤)) ∷ Γ) G (‵ (flft κ q) ∷ ‵ P ∷ Γ) G
  gives {κ} {q} {P} = use2 𝓛 (raw (sep 𝓤 (sep 𝓤 (sep 𝓤 (A.lft κ q) (emp 𝓤)) (sem 𝓛 P)) (emp 𝓤))) (asked_at 𝓛 κ q P)

  pub gives_two : {κ κ' : Lft} {q q' : Share} {P Q : Fml}
      → Step K 𝓛 (raw (sep 𝓤 (sep 𝓤 (sep 𝓤 (A.lft κ q) (sep 𝓤 (A.lft κ' q') (emp 𝓤))) (sem 𝓛 (fsep P Q))) (emp 𝓤)) ∷ Γ) G (‵ (flft κ q) ∷ ‵ P ∷ ‵ (flft κ' q') ∷ ‵ Q ∷ Γ) G
  gives_two {κ} {κ'} {q} {q'} {P} {Q} = step (λ s. nothing t $ move t (3 ∷ 0 ∷ []) $ join t $ move t (1 ∷ 0 ∷ []) $ join t $ move t (1 ∷ 2 ∷ []) $ fjoin t $ move t (1 ∷ 0 ∷ []) $
      use2 𝓛 (raw (sep 𝓤 (sep 𝓤 (sep 𝓤 (A.lft κ q) (sep 𝓤 (A.lft κ' q') (emp 𝓤))) (sem 𝓛 (fsep P Q))) (emp 𝓤))) (asked 𝓤 _) $ s)

module _ {M : Type 1} {𝓤 : Ura M} (𝓛 : Logic 𝓤) (T : Ended) (c : Clauses 𝓤 T) where
  abbrev pub Meant : Contract 𝓤
  Meant = triple_of 𝓛 T.signature (closing 𝓛 T c)

  module _ (y : Meant.Ghost) where
    abbrev Result : Type 0
    Result = Res T.signature y.0.0

    abbrev Ends : Type 0
    Ends = Lasts T y.0.0 y.0.3

    abbrev Said : Result → Ends → SProp 𝓤
    Said r ws = (c y.0.0 y.0.3).ensures y.1 r (at_exit T y.0.0 y.0.3 ws)

    -- that the `ensures` states φ
    abbrev States : (Result → Ends → Type 0) → Type 2
    States φ = (r : Result) (ws : Ends) → Said r ws ≡ fact 𝓤 (φ r ws)

    -- what there is once the callee has returned w
    abbrev back : List (Item 𝓤) → Val → Result → Ends → List (Item 𝓤)
    back Γ w r ws = ‵ ((type_at T.signature.result y.0.0).own_val r (w ∷ [])) ∷ raw (alive 𝓛 T.signature y.0.0 y.0.1) ∷ ‵ (lasts T y.0.0 y.0.3 ws) ∷ Γ

module _ {M : Type 1} {𝓤 : Ura M} {𝓛 : Logic 𝓤} {K : Type 0} (t : K) (T : Ended) (c : Clauses 𝓤 T) (y : (Meant 𝓛 T c).Ghost) (φ : Result 𝓛 T c y → Ends 𝓛 T c y → Type 0) where
  open 𝓛 use {H}

  hears : {Γ : List (Item 𝓤)} {G : Goal 𝓤 H} → Soaks G → States 𝓛 T c y φ → (w : Val) → ((r : Result 𝓛 T c y) (ws : Ends 𝓛 T c y) → φ r ws → Seq K 𝓛 (back 𝓛 T c y Γ w r ws) G) → Seq K 𝓛 (raw ((Meant 𝓛 T c).post y w) ∷ Γ) G
  hears z says w k =
      use1 𝓛 (Returned 𝓛 T c y w) (id⊢ 𝓤 _) $ await t z $ pick t (λ r. split t $ move t (1 ∷ []) $ pick t (λ ws. split t $ move t (1 ∷ []) $
      use1 𝓛 (raw (fact 𝓤 (φ r ws))) (subst (λ (P : SProp 𝓤). ent 𝓤 (Said 𝓛 T c y r ws) P) (says r ws) (id⊢ 𝓤 _)) $ heard t (φ r ws) (λ e. move t (1 ∷ []) $ split t $ move t (1 ∷ []) $ k r ws e)))

  module _ {Γ : List (Item 𝓤)} {E : Env 𝓤 H} {C : Calls 𝓤 H} {Λ : Loops 𝓤 H} {q : Post 𝓤 H} {f : Callee} {xs : List Operand} {d : Place} where
    pub calls_told : {rest : Body} → FmC 𝓤 H 𝓛.laws C → Triple 𝓤 (C f) (Meant 𝓛 T c) → Opds K 𝓛 (raw ((Meant 𝓛 T c).pre y) ∷ Γ) E xs ((Meant 𝓛 T c).args y) → States 𝓛 T c y φ
        → ((w : Val) (r : Result 𝓛 T c y) (ws : Ends 𝓛 T c y) → φ r ws → Seq K 𝓛 (back 𝓛 T c y Γ w r ws) (lands C Λ E d w rest q)) → Seq K 𝓛 (raw ((Meant 𝓛 T c).pre y) ∷ Γ) (runs C Λ E (seq (call f xs d) rest) q)
    calls_told fm known given says k = calls_at t fm (Meant 𝓛 T c) known y given (λ w. hears tt says w (k w))

    pub calls_told_last : FmC 𝓤 H 𝓛.laws C → Triple 𝓤 (C f) (Meant 𝓛 T c) → Opds K 𝓛 (raw ((Meant 𝓛 T c).pre y) ∷ Γ) E xs ((Meant 𝓛 T c).args y) → States 𝓛 T c y φ
        → ((w : Val) (r : Result 𝓛 T c y) (ws : Ends 𝓛 T c y) → φ r ws → Seq K 𝓛 (back 𝓛 T c y Γ w r ws) (settles E d w q)) → Seq K 𝓛 (raw ((Meant 𝓛 T c).pre y) ∷ Γ) (runs C Λ E (call f xs d) q)
    calls_told_last fm known given says k = calls_at_last t fm (Meant 𝓛 T c) known y given (λ w. hears tt says w (k w))
