-- A `&mut` slice in a local is lent on: MIR takes the address of what it points to, and makes a slice of that and of its count. The two statements are one step, to the same pointer and count in another local.
--     lends_on n m k   at entry n of the context is the local's cell, at m room for the address, and at k room for the new slice. That the places are those of the code and of the context is `refl` at each
-- Assumes `Logic`.
use mathlib.Core.Path.{◌≡◌, sym, subst, refl}
use Prim.Native.Nat.{ℕ, zero, ◌<◌, ◌^◌}
use mathlib.Core.List.{List, [], ◌∷◌}
use seplogic.Ra.Ura.{Ura}
use base.Fraction.{full_share}
use mir.Syntax.{Lifetime, Mutability, Ty, ty_int, ty_ref, place, field, deref, copy, addr_of, aggregate, Body, seq, assign, w64}
use mir.Val.{Val, vptr, vint, vstruct, vcons, vnil}
use mir.Fields.{set_v}
use base.Fml.{fat, froom}
use prog.Wp.{Env, Spot, spot_of, Calls, Loops}
use types.Logic.{Logic}
use types.Kit.{Item, ‵, nth, put, Post, runs, Step, step, ◌$◌}
use types.Run.{Walks, Reads, look, init, stop, hop, fld, from, load, addr, and_then, no_more, assigns}
use types.Part.{Part, agg, whole, sub, look_in}
use denote.Slice.{slice_ty, slice_val}
use Rattle.hand_proofs.proofs.Typed.{typed}

module _ {M : Type 1} {𝓤 : Ura M} (K : Type 0) (𝓛 : Logic 𝓤) (Γ : List (Item 𝓤)) (n : ℕ) (ℓ : Lifetime) (μ : Mutability) (τ : Ty) (b p o l : ℕ) where
  abbrev Cell : Item 𝓤
  Cell = ‵ (fat full_share (slice_ty (ty_ref ℓ μ τ)) b zero (slice_val (p, o) l))

  -- the cell with another field k
  abbrev with-field : ℕ → Val → Item 𝓤
  with-field k u = ‵ (fat full_share (slice_ty (ty_ref ℓ μ τ)) b zero (vstruct (set_v (vcons (vptr p o) (vcons (vint w64 l) vnil)) k u)))

  pub pointer : K → nth 𝓛 n Γ ≡ Cell → Reads K 𝓛 Γ (ty_ref ℓ μ τ) b zero (vptr p o)
  pointer t e = look_in t n (subst (λ (j : Item 𝓤). Part K 𝓛 j full_share (ty_ref ℓ μ τ) b zero (vptr p o) (with-field 0)) (sym e) (sub t 0 refl (whole t)))

  pub count : K → nth 𝓛 n Γ ≡ Cell → Reads K 𝓛 Γ (ty_int w64) b 8 (vint w64 l)
  count t e = look_in t n (subst (λ (j : Item 𝓤). Part K 𝓛 j full_share (ty_int w64) b 8 (vint w64 l) (with-field 1)) (sym e) (sub t 1 refl (whole t)))

module _ {M : Type 1} {𝓤 : Ura M} {𝓛 : Logic 𝓤} {K : Type 0} {Γ : List (Item 𝓤)} {E : Env 𝓤 𝓛.H} {C : Calls 𝓤 𝓛.H} {Λ : Loops 𝓤 𝓛.H} {q : Post 𝓤 𝓛.H} where
  open 𝓛 use {H}

  pub lends_on : K → {i x y : ℕ} {τ' : Ty} {rest : Body} (n m k : ℕ) {ℓ ℓ₁ ℓ₂ : Lifetime} {μ μ₁ μ₂ : Mutability} {τ τ₁ τ₂ : Ty} {b b₁ b₂ p o l : ℕ}
      → (spot_of 𝓤 H E i ≡ (slice_ty (ty_ref ℓ μ τ), b, zero)) × (spot_of 𝓤 H E x ≡ (ty_ref ℓ₁ μ₁ τ₁, b₁, zero)) × (spot_of 𝓤 H E y ≡ (slice_ty (ty_ref ℓ₂ μ₂ τ₂), b₂, zero))
      → (nth 𝓛 n Γ ≡ ‵ (fat full_share (slice_ty (ty_ref ℓ μ τ)) b zero (slice_val (p, o) l))) × (nth 𝓛 m Γ ≡ ‵ (froom (ty_ref ℓ₁ μ₁ τ₁) b₁ zero))
      × (nth 𝓛 n (put 𝓛 m (‵ (fat full_share (ty_ref ℓ₁ μ₁ τ₁) b₁ zero (vptr p o))) Γ) ≡ ‵ (fat full_share (slice_ty (ty_ref ℓ μ τ)) b zero (slice_val (p, o) l)))
      × (nth 𝓛 m (put 𝓛 m (‵ (fat full_share (ty_ref ℓ₁ μ₁ τ₁) b₁ zero (vptr p o))) Γ) ≡ ‵ (fat full_share (ty_ref ℓ₁ μ₁ τ₁) b₁ zero (vptr p o)))
      × (nth 𝓛 k (put 𝓛 m (‵ (fat full_share (ty_ref ℓ₁ μ₁ τ₁) b₁ zero (vptr p o))) Γ) ≡ ‵ (froom (slice_ty (ty_ref ℓ₂ μ₂ τ₂)) b₂ zero))
      → l < 2 ^ 64
      → Step K 𝓛 (put 𝓛 k (‵ (fat full_share (slice_ty (ty_ref ℓ₂ μ₂ τ₂)) b₂ zero (slice_val (p, o) l))) (put 𝓛 m (‵ (fat full_share (ty_ref ℓ₁ μ₁ τ₁) b₁ zero (vptr p o))) Γ)) (runs C Λ E rest q)
      Γ (runs C Λ E (seq (assign (place x []) (addr_of (place i (field 0 ∷ deref τ' ∷ [])))) (seq (assign (place y []) (aggregate (copy (place x []) ∷ copy (place i (field 1 ∷ [])) ∷ []))) rest)) q)
  lends_on t {i} {x} {y} {τ'} {rest} n m k {ℓ} {ℓ₁} {ℓ₂} {μ} {μ₁} {μ₂} {τ} {τ₁} {τ₂} {b} {b₁} {b₂} {p} {o} {l} at cells fits = step (λ s.
      assigns t (addr t (from t (subst (λ (sp : Spot 𝓤 H). Walks K 𝓛 Γ E sp (field 0 ∷ deref τ' ∷ []) (τ', p, o)) (sym at.0) (fld t refl (hop t (pointer K 𝓛 Γ n ℓ μ τ b p o l t cells.0) (stop t))))))
      (from t (subst (Walks K 𝓛 Γ E (spot_of 𝓤 H E x) []) at.1 (stop t))) (init t m cells.1 (tt, tt)) $
      assigns t (agg t (and_then t (load t (from t (subst (Walks K 𝓛 Γ₁ E (spot_of 𝓤 H E x) []) at.1 (stop t))) (look t m cells.3))
      (and_then t (load t (from t (subst (λ (sp : Spot 𝓤 H). Walks K 𝓛 Γ₁ E sp (field 1 ∷ []) (ty_int w64, b, 8)) (sym at.0) (fld t refl (stop t)))) (count K 𝓛 Γ₁ n ℓ μ τ b p o l t cells.2)) (no_more t))))
      (from t (subst (Walks K 𝓛 Γ₁ E (spot_of 𝓤 H E y) []) at.2 (stop t))) (init t k cells.4 (typed fits)) $ s)
    where
      Γ₁ : List (Item 𝓤)
      Γ₁ = put 𝓛 m (‵ (fat full_share (ty_ref ℓ₁ μ₁ τ₁) b₁ zero (vptr p o))) Γ
