-- The `&mut` slices that a function has, as one entry of its context: they are lent to a call and come back (`LentAgain.antt`).
--     Slices           their element types, lifetimes, shares and references, and what the function has after them
--     held s ws        they are owned at the lists ws, with the tokens of their lifetimes
--     lent-refs, lent-vals     the references that a callee is lent, and their machine values
--     lends            they are lent for a lifetime ν, under names δs, with P after them.        comes_back   ν is ended, and they are back at their last lists
--     let_go           the function gives them up at exit, for what says their last lists
-- The steps assume `Logic`. The rest assumes nothing.
use mathlib.Core.Path.{◌≡◌, refl, ap}
use Prim.Native.Nat.{ℕ}
use mathlib.Core.List.{List, [], ◌∷◌}
use lib.ListN.{length}
use seplogic.Ra.Ura.{Ura}
use base.Fraction.{full_share}
use base.Logic.{ent}
use base.Fml.{Fml, flft}
use types.Logic.{Logic, sem}
use contract.Lifetimes.{Lfts, Shares, toks}
use types.Kit.{Goal, Soaks, Item, ‵, raw, ◌⊛◌, ◌$◌, Seq, Step, step, use1, split, join, rewrite}
use denote.RattleType.{RattleType}
use denote.Ref.{at_last}
use Rattle.hand_proofs.proofs.LentAgain.{Refs, Lists, Values, Names, named_as, lasting, own_each, own_at, last_each, kept_each, spelled, lends_each, back_each, last_all}

pub record Slices : Type 2 where
  pub types : List RattleType
  pub lfts : Lfts (length types)
  pub shares : Shares (length types)
  pub refs : Refs types
  pub after : Fml

lasting_twice : (Rs : List RattleType) (a : Refs Rs) (ws zs : Lists Rs) → lasting Rs (lasting Rs a ws) zs ≡ lasting Rs a zs
lasting_twice [] a ws zs = refl
lasting_twice (R ∷ Rs) a ws zs = ap (λ (r : Refs Rs). (at_last a.0 zs.0, r)) (lasting_twice Rs a.1 ws.1 zs.1)

module _ (s : Slices) where
  abbrev pub lent-refs : Lists s.types → Names s.types → Refs s.types
  lent-refs ws δs = named_as s.types (lasting s.types s.refs ws) δs

  abbrev pub lent-vals : Values s.types
  lent-vals = spelled s.types s.refs

  abbrev own : Lists s.types → Fml
  own ws = own_each s.types s.lfts (lasting s.types s.refs ws) lent-vals s.after

  abbrev pub kept : Lists s.types → ℕ → Names s.types → Fml
  kept ws ν δs = kept_each s.types s.lfts s.shares (ν ∷ []) (lasting s.types s.refs ws) δs lent-vals s.after

  module _ {M : Type 1} {𝓤 : Ura M} (𝓛 : Logic 𝓤) where
    abbrev tokens : Item 𝓤
    tokens = raw (toks 𝓛 (length s.types) s.lfts s.shares)

    abbrev pub held : Lists s.types → Item 𝓤
    held ws = ‵ (own ws) ⊛ tokens

module _ {M : Type 1} {𝓤 : Ura M} {𝓛 : Logic 𝓤} {K : Type 0} {Γ : List (Item 𝓤)} {G : Goal 𝓤 𝓛.H} (t : K) where
  pub lends : Soaks G → (s : Slices) (ws : Lists s.types) {P : Fml}
      → ((ν : ℕ) (δs : Names s.types) → Seq K 𝓛 (‵ (flft (ν ∷ []) full_share) ∷ ‵ (own_at s.types (ν ∷ []) (lent-refs s ws δs) (lent-vals s) P) ∷ ‵ (kept s ws ν δs) ∷ Γ) G) → Seq K 𝓛 (held s 𝓛 ws ∷ ‵ P ∷ Γ) G
  lends z s ws {P} k = split t $ lends_each t z s.types s.lfts s.shares (lasting s.types s.refs ws) (lent-vals s) P s.after k

  pub comes_back : Soaks G → (s : Slices) (ws : Lists s.types) (P : Fml) (δs : Names s.types) (zs : Lists s.types) {ν : ℕ}
      → Step K 𝓛 (held s 𝓛 zs ∷ Γ) G (‵ (flft (ν ∷ []) full_share) ∷ ‵ (kept s ws ν δs) ∷ ‵ (last_each s.types (lent-refs s ws δs) zs P) ∷ Γ) G
  comes_back z s ws P δs zs {ν} = step (λ r. back_each t z s.types s.lfts s.shares (lasting s.types s.refs ws) (lent-vals s) P s.after ν δs zs $
      rewrite t 0 (λ (a : Refs s.types). ‵ (own_each s.types s.lfts a (lent-vals s) s.after)) (lasting_twice s.types s.refs ws zs) refl $ join t $ r)

module _ {M : Type 1} {𝓤 : Ura M} {𝓛 : Logic 𝓤} {K : Type 0} {Γ : List (Item 𝓤)} {G : Goal 𝓤 𝓛.H} (t : K) where
  pub let_go : (s : Slices) (ws : Lists s.types) (P : Fml) → ent 𝓤 (sem 𝓛 s.after) (sem 𝓛 P) → Step K 𝓛 (‵ (last_each s.types s.refs ws P) ∷ tokens s 𝓛 ∷ Γ) G (held s 𝓛 ws ∷ Γ) G
  let_go s ws P h = step (λ r. split t $ use1 𝓛 (‵ (last_each s.types s.refs ws P)) (last_all 𝓛 s.types s.lfts s.refs ws P s.after h) $ r)
