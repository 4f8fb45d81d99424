-- A loop `while test`, as one step: by its turns and by how it is left. The test is any statement that leaves its result in a local of its own, as one that computes it or a call.
--     Tested           the invariant with the test's result, in the local at b
--     loops_while k    at entry k of the invariant is room for the test's result. That the places are those of the code and of the invariant is `refl` at each
--     turn_ends        a turn ends: at the invariant of a state that is below
-- Assumes `Logic`.
use mathlib.Core.Path.{◌≡◌, refl, subst}
use mathlib.Core.Bool.{Bool, true, false}
use mathlib.Core.WellFounded.{WellFounded}
use Prim.Native.Nat.{ℕ, zero}
use mathlib.Core.List.{List, []}
use seplogic.Ra.Ura.{Ura}
use base.Fraction.{full_share}
use mir.Syntax.{Body, place, copy, seq, cond, skip, exit, block, loop, ty_bool}
use mir.Val.{vbool}
use base.Logic.{SProp}
use base.Fml.{fat}
use prog.Wp.{Out, Env, Tables, Wp, spot_of, after_seq, after_block, after_turn, next}
use types.Logic.{Logic}
use types.Kit.{Item, Post, Seq, Step, runs, prop, any_q, post, ‵, nth, put, ◌$◌}
use types.Run.{Walks, Opd, look, stop, from, load, first, blocks, stays, leaves_loop, exec, Below, again, loops}

abbrev pub Tested : {M : Type 1} {𝓤 : Ura M} (𝓛 : Logic 𝓤) {X : Type 0} → (X → List (Item 𝓤)) → ℕ → ℕ → Bool → X → List (Item 𝓤)
Tested 𝓛 I k b h x = put 𝓛 k (‵ (fat full_share ty_bool b zero (vbool h))) (I x)

module _ {M : Type 1} {𝓤 : Ura M} {𝓛 : Logic 𝓤} {K : Type 0} {X : Type 0} where
  open 𝓛 use {H}

  pub turn_ends : K → (≺ : X → X → Type 0) (I : X → List (Item 𝓤)) (Q : Out → SProp 𝓤) (x x' : X) → ≺ x' x → Seq K 𝓛 (I x') (prop (after_turn 𝓤 H (Below 𝓛 ≺ I x) Q next))
  unfolding after_turn
  turn_ends t ≺ I Q x x' less = again t ≺ I x x' less

  pub loops_while : K → (𝓣 : Tables 𝓤 H) (≺ : X → X → Type 0) → WellFounded ≺ → (I : X → List (Item 𝓤)) (test : X → Bool) {E : Env 𝓤 H} {q : Post 𝓤 H} {tests rest after : Body} {z b : ℕ} (k : ℕ)
      → spot_of 𝓤 H E z ≡ (ty_bool, b, zero)
      → ((x : X) (h : Bool) → nth 𝓛 k (Tested 𝓛 I k b h x) ≡ ‵ (fat full_share ty_bool b zero (vbool h)))
      → ((x : X) (r : Body) (p : Post 𝓤 H) → Step K 𝓛 (Tested 𝓛 I k b (test x) x) (runs 𝓣.C 𝓣.Λ E r p) (I x) (runs 𝓣.C 𝓣.Λ E (seq tests r) p))
      → ((Q : Out → SProp 𝓤) (x : X) → test x ≡ true → Seq K 𝓛 (Tested 𝓛 I k b true x) (runs 𝓣.C 𝓣.Λ E rest (any_q (after_turn 𝓤 H (Below 𝓛 ≺ I x) Q))))
      → ((x : X) → test x ≡ false → Seq K 𝓛 (Tested 𝓛 I k b false x) (runs 𝓣.C 𝓣.Λ E after q))
      → (x : X) → Seq K 𝓛 (I x) (runs 𝓣.C 𝓣.Λ E (seq (block (loop (seq tests (seq (cond (copy (place z [])) skip (exit 1)) rest)))) after) q)
  unfolding after_turn
  loops_while t 𝓣 ≺ wf I test {E} {q} {tests} {rest} {after} {z} {b} k at cells asks goes leaves x₀ = first t $ blocks t $ loops t 𝓣 ≺ wf I (λ x. asks x _ _ $ turn x (test x) refl) x₀
    where
      -- where the loop is left, the rest of the body runs
      Q : Out → SProp 𝓤
      Q = after_block 𝓤 H (after_seq 𝓤 H (Wp 𝓤 H 𝓣.C 𝓣.Λ E after (post 𝓤 H q)) (post 𝓤 H q))

      result : (x : X) (h : Bool) → Opd K 𝓛 (Tested 𝓛 I k b h x) E (copy (place z [])) (vbool h)
      result x h = load t (from t (subst (Walks K 𝓛 (Tested 𝓛 I k b h x) E (spot_of 𝓤 H E z) []) at (stop t))) (look t k (cells x h))

      turn : (x : X) (h : Bool) → test x ≡ h → Seq K 𝓛 (Tested 𝓛 I k b h x) (runs 𝓣.C 𝓣.Λ E (seq (cond (copy (place z [])) skip (exit 1)) rest) (any_q (after_turn 𝓤 H (Below 𝓛 ≺ I x) Q)))
      turn x true e = stays t (result x true) $ goes Q x e
      turn x false e = leaves_loop t (result x false) $ exec t 𝓣.C 𝓣.Λ E after q $ leaves x e
