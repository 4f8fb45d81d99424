-- A local array that is lent to a call and comes back, as steps of a walk.
--     array_in     a cell with an array's machine value, and what the array owns, are the array in memory.        array_room   and that is room again
--     array_size   an array in memory has its length
--     lends_mut    what lies in memory is lent by `&mut` for a lifetime that is made for it.        mut_back     the lifetime is ended, and it is back at its last value
--     lends_imm, imm_back      the same by `&`, of a type that is lent so with no token
-- Assumes `Logic`.
use mathlib.Core.Path.{◌≡◌, refl}
use Prim.Native.Nat.{ℕ}
use mathlib.Core.List.{List, [], ◌∷◌}
use lib.ListN.{length}
use seplogic.Ra.Ura.{Ura}
use base.Fraction.{full_share}
use mir.Syntax.{named, ty_array}
use mir.Val.{Val, vptr}
use base.Logic.{via}
use base.Fml.{GName, Fml, fsep, fat, froom, flft, flent, fres}
use types.Logic.{Logic}
use types.Kit.{Goal, Soaks, Item, ‵, ◌⊛◌, some, later, ◌$◌, Seq, Step, step, move, use1, use3, split, pick, fsplit, fjoin, fpick, fpack, await, rewrite}
use types.Tokens.{lft_new, lft_end, lent_back}
use types.SemTy.{Body}
use denote.RattleType.{RattleType}
use denote.Laws.{Is, shows}
use denote.Memory.{lone, mem, part_at, part_of, cell_at, shared_of}
use denote.Ref.{MutRef, ShrRef}
use denote.Array.{Array, array_val}
use denote.Lend.{lends_ref, ref_back, lends_free}
use denote.Lends.{Lent}
use denote.Steps.{peeks, facts}

-- a cell, and what an array owns at the cell's machine values
abbrev cell_own : (R : RattleType) (n : ℕ) → List R.Denot → ℕ → ℕ → List Val → Fml
cell_own R n xs b o vs = fsep (cell_at full_share (Array R n).mir vs b o) ((Array R n).own_val xs vs)

module _ {M : Type 1} {𝓤 : Ura M} {𝓛 : Logic 𝓤} {K : Type 0} {Γ : List (Item 𝓤)} {G : Goal 𝓤 𝓛.H} where
  open 𝓛 use {H}

  module _ (t : K) (R : RattleType) (n : ℕ) where
    pub array_in : (xs : List R.Denot) (v : Val) (b o : ℕ) → Step K 𝓛 (‵ (part_at (Array R n) full_share xs b o) ∷ Γ) G (‵ (fat full_share (ty_array (lone R.mir) n) b o v) ∷ ‵ ((Array R n).own_val xs (v ∷ [])) ∷ Γ) G
    unfolding part_of
    array_in xs v b o = step (λ s. use1 𝓛 (‵ (cell_at full_share (Array R n).mir (v ∷ []) b o)) (𝓛.laws.at_raw full_share (ty_array (lone R.mir) n) b o v) $ fjoin t $ fpack t (List Val) (cell_own R n xs b o) (v ∷ []) $ s)

    pub array_size : (xs : List R.Denot) (b o : ℕ) → (length xs ≡ n → Seq K 𝓛 (‵ (part_at (Array R n) full_share xs b o) ∷ Γ) G) → Seq K 𝓛 (‵ (part_at (Array R n) full_share xs b o) ∷ Γ) G
    unfolding part_of
    array_size xs b o k = fpick t (λ vs. fsplit t $ move t (1 ∷ []) $ peeks t (Array R n) (Is (Array R n)) (shows 𝓛 (Array R n)) xs vs (λ is. move t (1 ∷ 0 ∷ []) $ fjoin t $ fpack t (List Val) (cell_own R n xs b o) vs $ k is.1.0.1))

    pub array_room : (xs : List R.Denot) (b o : ℕ) → Step K 𝓛 (‵ (froom (ty_array (lone R.mir) n) b o) ∷ Γ) G (‵ (part_at (Array R n) full_share xs b o) ∷ Γ) G
    unfolding part_of
    array_room xs b o = step (λ s. fpick t (λ vs. fsplit t $ move t (1 ∷ []) $ facts t (Array R n) (Is (Array R n)) (shows 𝓛 (Array R n)) xs vs (λ is. rewrite t 0 (λ (us : List Val). ‵ (cell_at full_share (Array R n).mir us b o)) is.1.0.0 refl $
        use1 𝓛 (‵ (froom (ty_array (lone R.mir) n) b o)) (via 𝓤 (H.at full_share (ty_array (lone R.mir) n) b o (array_val is.0)) (𝓛.laws.raw_at full_share (ty_array (lone R.mir) n) b o (array_val is.0)) (𝓛.laws.at_room (ty_array (lone R.mir) n) b o (array_val is.0))) $ s)))

  module _ (t : K) (z : Soaks G) (R : RattleType) (h : R.Denot) (b o : ℕ) where
    pub lends_mut : ((α : ℕ) (δ : GName) → Seq K 𝓛 (‵ (flft (α ∷ []) full_share) ∷ ‵ ((MutRef (named 0) (α ∷ []) R).own_val (record { ref_ptr = (b, o); ghost_name = δ; now = h }) (vptr b o ∷ [])) ∷ ‵ (flent (α ∷ []) (Body (mem R) b o δ)) ∷ Γ) G)
        → Seq K 𝓛 (‵ (part_at R full_share h b o) ∷ Γ) G
    lends_mut k = lft_new t z (λ α. move t (1 ∷ []) $
        use1 𝓛 (later (some (λ (δ : GName). ‵ ((MutRef (named 0) (α ∷ []) R).own_val (record { ref_ptr = (b, o); ghost_name = δ; now = h }) (vptr b o ∷ [])) ⊛ ‵ (flent (α ∷ []) (Body (mem R) b o δ))))) (lends_ref 𝓛 R (named 0) (α ∷ []) h b o) $
        await t z $ pick t (λ δ. split t $ move t (2 ∷ []) $ k α δ))

    pub mut_back : {α : ℕ} {δ : GName} → Step K 𝓛 (‵ (part_at R full_share h b o) ∷ Γ) G (‵ (flft (α ∷ []) full_share) ∷ ‵ (flent (α ∷ []) (Body (mem R) b o δ)) ∷ ‵ (fres δ (R.coded.code h)) ∷ Γ) G
    mut_back {α} {δ} = step (λ s. lft_end t z $ use3 𝓛 (later (‵ (part_at R full_share h b o))) (ref_back 𝓛 R (α ∷ []) δ h b o) $ await t z $ s)

    -- where R is lent as `&` with no token: not every type's `&` is made of the memory alone
    pub lends_imm : Lent 𝓛 (part_at R full_share h b o) (shared_of R h b o)
        → ((α : ℕ) → Seq K 𝓛 (‵ (flft (α ∷ []) full_share) ∷ ‵ ((ShrRef (named 0) (α ∷ []) R).own_val (record { ref_ptr = (b, o); now = h }) (vptr b o ∷ [])) ∷ ‵ (flent (α ∷ []) (part_at R full_share h b o)) ∷ Γ) G)
        → Seq K 𝓛 (‵ (part_at R full_share h b o) ∷ Γ) G
    lends_imm free k = lft_new t z (λ α. move t (1 ∷ []) $
        use1 𝓛 (later (‵ ((ShrRef (named 0) (α ∷ []) R).own_val (record { ref_ptr = (b, o); now = h }) (vptr b o ∷ [])) ⊛ ‵ (flent (α ∷ []) (part_at R full_share h b o)))) (lends_free 𝓛 R (named 0) (α ∷ []) full_share h b o free) $
        await t z $ split t $ move t (2 ∷ []) $ k α)

    pub imm_back : {α : ℕ} → Step K 𝓛 (‵ (part_at R full_share h b o) ∷ Γ) G (‵ (flft (α ∷ []) full_share) ∷ ‵ (flent (α ∷ []) (part_at R full_share h b o)) ∷ Γ) G
    imm_back = step (λ s. lft_end t z $ lent_back t z $ s)
