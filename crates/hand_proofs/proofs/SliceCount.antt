-- The length of a slice in a local is read into another local.
--     takes_count n k      at entry n of the context is the slice's cell, and at k room for the length. That the places are those of the code and of the context is `refl` at each
-- Assumes `Logic`.
use mathlib.Core.Path.{◌≡◌, sym, subst, refl}
use Prim.Native.Nat.{ℕ, zero, ◌<◌, ◌^◌}
use mathlib.Core.List.{List, [], ◌∷◌}
use seplogic.Ra.Ura.{Ura}
use base.Fraction.{full_share}
use mir.Syntax.{Lifetime, Mutability, Ty, ty_int, ty_ref, place, field, copy, rv_opd, Body, seq, assign, w64}
use mir.Val.{vint}
use base.Fml.{fat, froom}
use prog.Wp.{Env, Spot, spot_of, Calls, Loops}
use types.Logic.{Logic}
use types.Kit.{Item, ‵, nth, put, Post, runs, Step, step, ◌$◌}
use types.Run.{Walks, init, stop, fld, from, load, of_opd, assigns}
use denote.Slice.{slice_ty, slice_val}
use Rattle.hand_proofs.proofs.LentOn.{count}
use Rattle.hand_proofs.proofs.Typed.{count_typed}

module _ {M : Type 1} {𝓤 : Ura M} {𝓛 : Logic 𝓤} {K : Type 0} {Γ : List (Item 𝓤)} {E : Env 𝓤 𝓛.H} {C : Calls 𝓤 𝓛.H} {Λ : Loops 𝓤 𝓛.H} {q : Post 𝓤 𝓛.H} where
  open 𝓛 use {H}

  pub takes_count : K → {i x : ℕ} {rest : Body} (n k : ℕ) {ℓ : Lifetime} {μ : Mutability} {τ : Ty} {b b₁ p o l : ℕ}
      → (spot_of 𝓤 H E i ≡ (slice_ty (ty_ref ℓ μ τ), b, zero)) × (spot_of 𝓤 H E x ≡ (ty_int w64, b₁, zero))
      → (nth 𝓛 n Γ ≡ ‵ (fat full_share (slice_ty (ty_ref ℓ μ τ)) b zero (slice_val (p, o) l))) × (nth 𝓛 k Γ ≡ ‵ (froom (ty_int w64) b₁ zero))
      → l < 2 ^ 64
      → Step K 𝓛 (put 𝓛 k (‵ (fat full_share (ty_int w64) b₁ zero (vint w64 l))) Γ) (runs C Λ E rest q) Γ (runs C Λ E (seq (assign (place x []) (rv_opd (copy (place i (field 1 ∷ []))))) rest) q)
  takes_count t {i} {x} {rest} n k {ℓ} {μ} {τ} {b} {b₁} {p} {o} {l} at cells fits = step (λ s.
      assigns t (of_opd t (load t (from t (subst (λ (sp : Spot 𝓤 H). Walks K 𝓛 Γ E sp (field 1 ∷ []) (ty_int w64, b, 8)) (sym at.0) (fld t refl (stop t)))) (count K 𝓛 Γ n ℓ μ τ b p o l t cells.0)))
      (from t (subst (Walks K 𝓛 Γ E (spot_of 𝓤 H E x) []) at.1 (stop t))) (init t k cells.1 (count_typed fits)) $ s)
