-- The token of one lifetime as those of many slices that have it: it is cut into halves, one after another, and joined again.
--     all_at, parts    the lifetime for each slice, and the share of each
--     parts_out        the token is cut.        parts_in         it is whole again
-- The two laws assume `Logic`. The rest assumes nothing.
use Prim.Native.Nat.{ℕ, zero, suc}
use mathlib.Core.List.{[], ◌∷◌}
use seplogic.Ra.Ura.{Ura}
use base.Share
use base.Logic.{ent, emp, fst∗}
use base.Fml.{Lft, Share, flft}
use types.Logic.{Logic}
use contract.Lifetimes.{Lfts, Shares, toks}
use types.Kit.{‵, raw, ◌⊛◌, ◌$◌, ◌∵◌, !, qed, move, use1, use2, split, done}
use Rattle.hand_proofs.proofs.Asked.{asked}

abbrev pub all_at : (n : ℕ) → Lft → Lfts n
all_at zero κ = tt
all_at (suc n) κ = (κ, all_at n κ)

abbrev pub parts : (n : ℕ) → Share → Shares (suc n)
parts zero q = (q, tt)
parts (suc n) q = (Share.left q, parts n (Share.right q))

module _ {M : Type 1} {𝓤 : Ura M} (𝓛 : Logic 𝓤) (κ : Lft) where
  open 𝓛 use {A}

  pub parts_out : (n : ℕ) (q : Share) → ent 𝓤 (A.lft κ q) (toks 𝓛 (suc n) (all_at (suc n) κ) (parts n q))
  parts_out zero q = asked 𝓤 (A.lft κ q)
  parts_out (suc n) q =
      qed 𝓛 (‵ (flft κ q) ∷ []) ∵ use1 𝓛 (‵ (flft κ (Share.left q)) ⊛ ‵ (flft κ (Share.right q))) (𝓛.lfts.lft_split κ q) $ split ! $ move ! (1 ∷ []) $
      use1 𝓛 (raw (toks 𝓛 (suc n) (all_at (suc n) κ) (parts n (Share.right q)))) (parts_out n (Share.right q)) $ move ! (1 ∷ 0 ∷ []) $ done !

  pub parts_in : (n : ℕ) (q : Share) → ent 𝓤 (toks 𝓛 (suc n) (all_at (suc n) κ) (parts n q)) (A.lft κ q)
  parts_in zero q = fst∗ 𝓤 (A.lft κ q) (emp 𝓤)
  parts_in (suc n) q =
      qed 𝓛 (‵ (flft κ (Share.left q)) ∷ raw (toks 𝓛 (suc n) (all_at (suc n) κ) (parts n (Share.right q))) ∷ []) ∵ move ! (1 ∷ []) $
      use1 𝓛 (‵ (flft κ (Share.right q))) (parts_in n (Share.right q)) $ move ! (1 ∷ 0 ∷ []) $ use2 𝓛 (‵ (flft κ q)) (𝓛.lfts.lft_join κ q) $ done !
