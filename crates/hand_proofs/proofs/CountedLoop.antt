-- A loop that counts up to a size, `while i < size`, as one step: fewer turns are left after each, and when it is left i is the size.
--     word                 the MIR type of a number
--     Upto, Nearer         how many turns are done, and that fewer are left
--     counts_up n m k      the loop, by its turns and by how it is left. A turn begins with the test: at entry n of the invariant is the cell of the turns done, at m that of the size, and at k room for the test's result. That the places are those of the code and of the invariant is `refl` at each
--     once_more            a turn ends: it is one more that is done
-- `counts_up` and `once_more` take `Logic`. The rest assumes nothing.
use mathlib.Core.Path.{◌≡◌, refl, sym, subst}
use mathlib.Core.Bool.{Bool, true, false, not}
use mathlib.Core.WellFounded.InvImage
use mathlib.Core.WellFounded.{WellFounded}
use Prim.Native.Nat.{ℕ, zero, ◌+◌, ◌-◌, ◌≤◌, ◌<◌, zero-le}
use native.Mathlib.Nat.{le_antisymm}
use native.Mathlib.Numerals.{add-one-le, add-one-dec}
use mathlib.Core.List.{List, []}
use lib.Dec.{T as Holds, ltb, ltb→lt, nltb→le}
use lib.WfN.{lt-wf_rel}
use seplogic.Ra.Ura.{Ura}
use base.Fraction.{full_share}
use mir.Syntax.{Ty, Body, place, copy, op2, lt, unsigned, seq, assign, cond, skip, exit, block, loop, w64, ty_int, ty_bool}
use mir.Val.{vbool, vint}
use base.Logic.{SProp}
use base.Fml.{fat, froom}
use prog.Wp.{Out, Env, Tables, Wp, spot_of, after_seq, after_block, after_turn, next}
use types.Logic.{Logic}
use types.Kit.{Item, Post, Seq, runs, prop, any_q, post, ‵, nth, put, ◌$◌}
use types.Run.{Walks, Opd, look, init, stop, from, load, bin, assigns, first, blocks, stays, leaves_loop, exec, Below, again, loops}

abbrev pub word : Ty
word = ty_int w64

abbrev pub Upto : ℕ → Type 0
Upto size = (i : ℕ) × (i ≤ size)

abbrev Nearer : (size : ℕ) → Upto size → Upto size → Type 0
Nearer size j i = size - j.0 < size - i.0

Nearer-wf : (size : ℕ) → WellFounded (Nearer size)
Nearer-wf size = InvImage.wf (λ (i : Upto size). size - i.0) lt-wf_rel.wf

module _ {M : Type 1} {𝓤 : Ura M} (𝓛 : Logic 𝓤) {size : ℕ} (I : Upto size → List (Item 𝓤)) where
  -- what a turn ends in, where Q is what the loop ends in
  open 𝓛 use {H}

  abbrev Turned : (Out → SProp 𝓤) → Upto size → Out → SProp 𝓤
  Turned Q i = after_turn 𝓤 H (Below 𝓛 (Nearer size) I i) Q

  -- the invariant with the test's result, in the local at b
  abbrev tested : (k b : ℕ) → Bool → Upto size → List (Item 𝓤)
  tested k b h i = put 𝓛 k (‵ (fat full_share ty_bool b zero (vbool h))) (I i)

module _ {M : Type 1} {𝓤 : Ura M} {𝓛 : Logic 𝓤} {K : Type 0} {size : ℕ} where
  open 𝓛 use {H}

  pub once_more : K → (I : Upto size → List (Item 𝓤)) (Q : Out → SProp 𝓤) (i : Upto size) (less : i.0 < size) → Seq K 𝓛 (I (i.0 + 1, add-one-le less)) (prop (Turned 𝓛 I Q i next))
  unfolding after_turn
  once_more t I Q i less = again t (Nearer size) I i (i.0 + 1, add-one-le less) (add-one-dec size i.0 less)

  pub counts_up : K → (𝓣 : Tables 𝓤 H) (I : Upto size → List (Item 𝓤)) {E : Env 𝓤 H} {q : Post 𝓤 H} {rest after : Body} {x y z b₀ b₁ b₂ : ℕ} (n m k : ℕ)
      → (spot_of 𝓤 H E x ≡ (word, b₀, zero)) × (spot_of 𝓤 H E y ≡ (word, b₁, zero)) × (spot_of 𝓤 H E z ≡ (ty_bool, b₂, zero))
      → ((i : Upto size) → (nth 𝓛 n (I i) ≡ ‵ (fat full_share word b₀ zero (vint w64 i.0))) × (nth 𝓛 m (I i) ≡ ‵ (fat full_share word b₁ zero (vint w64 size))) × (nth 𝓛 k (I i) ≡ ‵ (froom ty_bool b₂ zero))
      × ((h : Bool) → nth 𝓛 k (tested 𝓛 I k b₂ h i) ≡ ‵ (fat full_share ty_bool b₂ zero (vbool h))))
      → ((Q : Out → SProp 𝓤) (i : Upto size) → i.0 < size → Seq K 𝓛 (tested 𝓛 I k b₂ true i) (runs 𝓣.C 𝓣.Λ E rest (any_q (Turned 𝓛 I Q i))))
      → ((i : Upto size) → i.0 ≡ size → Seq K 𝓛 (tested 𝓛 I k b₂ false i) (runs 𝓣.C 𝓣.Λ E after q))
      → Seq K 𝓛 (I (0, zero-le)) (runs 𝓣.C 𝓣.Λ E (seq (block (loop (seq (assign (place z []) (op2 (lt unsigned) (copy (place x [])) (copy (place y [])))) (seq (cond (copy (place z [])) skip (exit 1)) rest)))) after) q)
  unfolding after_turn
  counts_up t 𝓣 I {E} {q} {rest} {after} {x} {y} {z} {b₀} {b₁} {b₂} n m k at cells goes leaves = first t $ blocks t $ loops t 𝓣 (Nearer size) (Nearer-wf size) I (λ i.
      assigns t (bin t (load t (from t (subst (Walks K 𝓛 (I i) E (spot_of 𝓤 H E x) []) at.0 (stop t))) (look t n (cells i).0)) (load t (from t (subst (Walks K 𝓛 (I i) E (spot_of 𝓤 H E y) []) at.1 (stop t))) (look t m (cells i).1)) tt)
      (from t (subst (Walks K 𝓛 (I i) E (spot_of 𝓤 H E z) []) at.2 (stop t))) (init t k (cells i).2 (tt, tt)) $ turn i (ltb i.0 size) refl) (0, zero-le)
    where
      -- where the loop is left, the rest of the body runs
      Q : Out → SProp 𝓤
      Q = after_block 𝓤 H (after_seq 𝓤 H (Wp 𝓤 H 𝓣.C 𝓣.Λ E after (post 𝓤 H q)) (post 𝓤 H q))

      test : (i : Upto size) (h : Bool) → Opd K 𝓛 (tested 𝓛 I k b₂ h i) E (copy (place z [])) (vbool h)
      test i h = load t (from t (subst (Walks K 𝓛 (tested 𝓛 I k b₂ h i) E (spot_of 𝓤 H E z) []) at.2 (stop t))) (look t k ((cells i).3 h))

      turn : (i : Upto size) (h : Bool) → ltb i.0 size ≡ h → Seq K 𝓛 (tested 𝓛 I k b₂ h i) (runs 𝓣.C 𝓣.Λ E (seq (cond (copy (place z [])) skip (exit 1)) rest) (any_q (Turned 𝓛 I Q i)))
      turn i true e = stays t (test i true) $ goes Q i (ltb→lt i.0 size (subst Holds (sym e) tt))
      turn i false e = leaves_loop t (test i false) $ exec t 𝓣.C 𝓣.Λ E after q $ leaves i (le_antisymm i.1 (nltb→le i.0 size (subst (λ (h : Bool). Holds (not h)) (sym e) tt)))
