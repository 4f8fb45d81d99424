-- A function passes its parameters on to a callee that takes one value more after them, as settings by value.
--     with-more, vals-more     the arguments passed on with the one value more after them, and their machine values
--     owns_more                what they own together is what the callee's parameters own
--     kept_but, lasts-but      of what the callee says of last values, what it says of those passed on.        says_but     and it says that
-- `owns_more` takes `Logic`. The rest assumes nothing.
use Prim.Native.Nat.{ℕ}
use mathlib.Core.List.{List, [], ◌∷◌, ◌++◌}
use seplogic.Ra.Ura.{Ura}
use mir.Val.{Val}
use base.Logic.{ent, sep, emp, id⊢, snd∗, mono_r}
use types.Logic.{Logic, sem}
use contract.Lifetimes.{Lfts}
use types.Kit.{‵, ◌$◌, ◌∵◌, !, qed, move, use2, fjoin, done}
use denote.Exit.{left}
use denote.RattleType.{Denots, Valss, owns}
use denote.Signature.{Slot, types_at}
use denote.Triple.End.{Kepts, Fins, lasts_of}

-- ss are the parameters that are passed on, and s is the one more
module _ {n : ℕ} (s : Slot n) (κs : Lfts n) where
  abbrev pub with-more : (ss : List (Slot n)) → Denots (types_at ss κs) → (s.row κs).Denot → Denots (types_at (ss ++ (s ∷ [])) κs)
  with-more [] a x = (x, tt)
  with-more (_ ∷ ss) a x = (a.0, with-more ss a.1 x)

  abbrev pub vals-more : (ss : List (Slot n)) → Valss (types_at ss κs) → List Val → Valss (types_at (ss ++ (s ∷ [])) κs)
  vals-more [] vss vs = (vs, tt)
  vals-more (_ ∷ ss) vss vs = (vss.0, vals-more ss vss.1 vs)

  abbrev pub kept_but : (ss : List (Slot n)) → Kepts (ss ++ (s ∷ [])) → Kepts ss
  kept_but [] ks = tt
  kept_but (_ ∷ ss) ks = (ks.0, kept_but ss ks.1)

  abbrev pub lasts-but : (ss : List (Slot n)) (ks : Kepts (ss ++ (s ∷ []))) (a : Denots (types_at ss κs)) (x : (s.row κs).Denot) → Fins κs (ss ++ (s ∷ [])) ks (with-more ss a x) → Fins κs ss (kept_but ss ks) a
  lasts-but [] ks a x ws = tt
  lasts-but (_ ∷ ss) ks a x ws = (ws.0, lasts-but ss ks.1 a.1 x ws.1)

  module _ {M : Type 1} {𝓤 : Ura M} (𝓛 : Logic 𝓤) where
    pub owns_more : (ss : List (Slot n)) (a : Denots (types_at ss κs)) (vss : Valss (types_at ss κs)) (x : (s.row κs).Denot) (vs : List Val)
        → ent 𝓤 (sep 𝓤 (sem 𝓛 ((s.row κs).own_val x vs)) (sem 𝓛 (owns (types_at ss κs) a vss))) (sem 𝓛 (owns (types_at (ss ++ (s ∷ [])) κs) (with-more ss a x) (vals-more ss vss vs)))
    owns_more [] a vss x vs = id⊢ 𝓤 _
    owns_more (t ∷ ss) a vss x vs =
        qed 𝓛 (‵ ((s.row κs).own_val x vs) ∷ ‵ ((t.row κs).own_val a.0 vss.0) ∷ ‵ (owns (types_at ss κs) a.1 vss.1) ∷ []) ∵ move ! (0 ∷ 2 ∷ []) $
        use2 𝓛 (‵ (owns (types_at (ss ++ (s ∷ [])) κs) (with-more ss a.1 x) (vals-more ss vss.1 vs))) (owns_more ss a.1 vss.1 x vs) $ move ! (1 ∷ 0 ∷ []) $ fjoin ! $ done !

    pub says_but : (ss : List (Slot n)) (ks : Kepts (ss ++ (s ∷ []))) (a : Denots (types_at ss κs)) (x : (s.row κs).Denot) (ws : Fins κs (ss ++ (s ∷ [])) ks (with-more ss a x))
        → ent 𝓤 (sem 𝓛 (lasts_of κs (ss ++ (s ∷ [])) ks (with-more ss a x) ws)) (sem 𝓛 (lasts_of κs ss (kept_but ss ks) a (lasts-but ss ks a x ws)))
    says_but [] ks a x ws = snd∗ 𝓤 (sem 𝓛 (left ((s.row κs).exit ks.0) x ws.0)) (emp 𝓤)
    says_but (t ∷ ss) ks a x ws = mono_r 𝓤 (sem 𝓛 (left ((t.row κs).exit ks.0) a.0 ws.0)) (says_but ss ks.1 a.1 x ws.1)
