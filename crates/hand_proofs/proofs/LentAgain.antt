-- `&mut` slices that a function owns are lent again to a call, all of them for one lifetime that is made for it, and come back: `Denote/Lend.antt`'s `lends_again` and `comes_back`, of a list of slices.
--     Refs, Lists, Values      of slices of these element types: the references, the lists in them, and the machine values; with what stands after them
--     lists_in         the lists in the references.        named_as         the references under other names.        lasting          at other lists
--     own_each         what they own, each at its own lifetime, with Q after them.        own_at       all at one lifetime
--     last_each        what says their last lists
--     kept_each        what the holder keeps while they are lent again
--     lends_each       they are lent again for a lifetime ν, under names δs.        back_each    ν is ended, and they are back at their last lists
--     last_all         the holder gives them up, for what says their last lists
-- The steps and their laws assume `Logic`. The rest assumes nothing.
use mathlib.Core.Path.{refl, sym, ◌∙◌, ap, subst}
use Prim.Native.Nat.{ℕ}
use mathlib.Core.List.{List, [], ◌∷◌}
use lib.ListN.{length}
use seplogic.Ra.Ura.{Ura}
use base.Fraction.{full_share}
use mir.Syntax.{named}
use mir.Val.{Val, Vals, vunit, vbool, vint, vfloat, vptr, vstruct, vcode, vnil, as_int}
use mir.Fields.{get_v}
use base.Logic.{ent, sep, ex, emp, via, emp∗, comm∗}
use base.Fml.{Lft, GName, Share, Fml, fsep, flft, fdead, fobs, fauth, fres, flent, fobor, feq}
use types.Logic.{Logic, sem}
use contract.Lifetimes.{Lfts, Shares, toks}
use types.Kit.{Goal, Soaks, Item, ‵, raw, ◌⊛◌, some, later, ◌$◌, ◌∵◌, !, qed, Seq, Step, step, by, move, keep, use1, use2, use3, drop, split, pick, rewrite, fsplit, fjoin, feq_l, feq_i, frame, await, updating, now as at_once, show, done}
use types.Tokens.{lft_new, lft_end}
use types.SemTy.{cells, Arr}
use denote.RattleType.{RattleType}
use denote.Shadow.{pure_l, pure_i}
use denote.Memory.{mem}
use denote.Ref.{MutBor, at_last}
use denote.Slice.{MutSlice, Room, heres, finally, mut_slice_vals, slice_val, mut_slice_at, coded_holeys, res-finally}
use denote.Lend.{Held, lends_slice, slice_back}
use denote.Index.{row, whole_out, whole_in, opens_slice, closes_slice}

-- F of each element type, with Z after them
abbrev Then : (Type 0 → Type 0) → List RattleType → Type 0 → Type 0
Then F [] Z = Z
Then F (R ∷ Rs) Z = F R.Denot × Then F Rs Z

abbrev Each : (Type 0 → Type 0) → List RattleType → Type 0
Each F Rs = Then F Rs (Unit {0})

abbrev pub Refs : List RattleType → Type 0
Refs Rs = Each (λ X. MutBor (List X)) Rs

abbrev pub Lists : List RattleType → Type 0
Lists Rs = Each List Rs

abbrev pub Values : List RattleType → Type 0
Values Rs = Each (λ _. List Val) Rs

abbrev pub Names : List RattleType → Type 0
Names Rs = Each (λ _. GName) Rs

-- with z after them, and without what stands after them
abbrev pub and_then : (F : Type 0 → Type 0) (Z : Type 0) (Rs : List RattleType) → Each F Rs → Z → Then F Rs Z
and_then F Z [] xs z = z
and_then F Z (R ∷ Rs) xs z = (xs.0, and_then F Z Rs xs.1 z)

abbrev pub front : (F : Type 0 → Type 0) (Z : Type 0) (Rs : List RattleType) → Then F Rs Z → Each F Rs
front F Z [] xs = tt
front F Z (R ∷ Rs) xs = (xs.0, front F Z Rs xs.1)

abbrev under : {X : Type 0} → MutBor X → GName → MutBor X
under x δ = record { ref_ptr = x.ref_ptr; ghost_name = δ; now = x.now }

abbrev pub named_as : (Rs : List RattleType) → Refs Rs → Names Rs → Refs Rs
named_as [] a δs = tt
named_as (R ∷ Rs) a δs = (under a.0 δs.0, named_as Rs a.1 δs.1)

abbrev pub lists_in : (Rs : List RattleType) → Refs Rs → Lists Rs
lists_in [] a = tt
lists_in (R ∷ Rs) a = (a.0.now, lists_in Rs a.1)

abbrev pub lasting : (Rs : List RattleType) → Refs Rs → Lists Rs → Refs Rs
lasting [] a ws = tt
lasting (R ∷ Rs) a ws = (at_last a.0 ws.0, lasting Rs a.1 ws.1)

abbrev pub own_each : (Rs : List RattleType) → Lfts (length Rs) → Refs Rs → Values Rs → Fml → Fml
own_each [] κs a vss Q = Q
own_each (R ∷ Rs) κs a vss Q = fsep ((MutSlice (named 0) κs.0 R).own_val a.0 vss.0) (own_each Rs κs.1 a.1 vss.1 Q)

abbrev pub own_at : (Rs : List RattleType) → Lft → Refs Rs → Values Rs → Fml → Fml
own_at [] κ a vss Q = Q
own_at (R ∷ Rs) κ a vss Q = fsep ((MutSlice (named 0) κ R).own_val a.0 vss.0) (own_at Rs κ a.1 vss.1 Q)

abbrev pub last_each : (Rs : List RattleType) → Refs Rs → Lists Rs → Fml → Fml
last_each [] a ws Q = Q
last_each (R ∷ Rs) a ws Q = fsep (fsep (finally R a.0.ghost_name ws.0) (feq ℕ (length ws.0) (length a.0.now))) (last_each Rs a.1 ws.1 Q)

-- what the holder of one keeps: the lender's part, and its own borrow, open, with both halves of its ghost variable
abbrev kept : (R : RattleType) → Lft → Share → Lft → MutBor (List R.Denot) → GName → List Val → Fml
kept R κ q κ' x δ vs = fsep (mut_slice_at R x vs) (fsep (flent κ' (Held R (length x.now) x.ref_ptr.0 x.ref_ptr.1 δ)) (fsep (fobor κ q (Held R (length x.now) x.ref_ptr.0 x.ref_ptr.1 x.ghost_name))
    (fsep (fobs x.ghost_name ((coded_holeys R).code (heres R x.now))) (fauth x.ghost_name ((coded_holeys R).code (heres R x.now))))))

abbrev pub kept_each : (Rs : List RattleType) → Lfts (length Rs) → Shares (length Rs) → Lft → Refs Rs → Names Rs → Values Rs → Fml → Fml
kept_each [] κs qs κ' a δs vss Q = Q
kept_each (R ∷ Rs) κs qs κ' a δs vss Q = fsep (kept R κs.0 qs.0 κ' a.0 δs.0 vss.0) (kept_each Rs κs.1 qs.1 κ' a.1 δs.1 vss.1 Q)

module _ {M : Type 1} {𝓤 : Ura M} (𝓛 : Logic 𝓤) where
  open 𝓛 use {H, A}

  module _ (R : RattleType) (κ κ' : Lft) (q : Share) (x : MutBor (List R.Denot)) (vs : List Val) where
    lends_one : ent 𝓤 (sep 𝓤 (sem 𝓛 ((MutSlice (named 0) κ R).own_val x vs)) (A.lft κ q))
        (H.⇛ (ex 𝓤 (λ (δ : GName). sep 𝓤 (sem 𝓛 ((MutSlice (named 0) κ' R).own_val (under x δ) vs)) (sem 𝓛 (kept R κ q κ' x δ vs)))))
    lends_one =
        qed 𝓛 (‵ ((MutSlice (named 0) κ R).own_val x vs) ∷ ‵ (flft κ q) ∷ []) ∵ updating ! $ fsplit ! $ pure_l ! (mut_slice_at R x vs) (λ p. fsplit ! $ opens_slice ! tt R x.now x.ref_ptr.0 x.ref_ptr.1 $
        use1 𝓛 (‵ (cells (mem R) x.now x.ref_ptr.0 x.ref_ptr.1)) (whole_in 𝓛 R x.now x.ref_ptr.0 x.ref_ptr.1) $
        use1 𝓛 (later (some (λ (δ : GName). ‵ ((MutSlice (named 0) κ' R).own_val (under x δ) (mut_slice_vals x)) ⊛ ‵ (flent κ' (Held R (length x.now) x.ref_ptr.0 x.ref_ptr.1 δ))))) (lends_slice 𝓛 R (named 0) κ' x.now x.ref_ptr.0 x.ref_ptr.1 p.1) $ await ! tt $ pick ! (λ δ. split ! $
        rewrite ! 0 (λ (us : List Val). ‵ ((MutSlice (named 0) κ' R).own_val (under x δ) us)) (sym p.0) refl $
        -- [the new slice; the lender's part; the open borrow; obs; auth]
        at_once ! $ show ! (λ (δ' : GName). sep 𝓤 (sem 𝓛 ((MutSlice (named 0) κ' R).own_val (under x δ') vs)) (sem 𝓛 (kept R κ q κ' x δ' vs))) δ $ frame ! $
        move ! (2 ∷ 3 ∷ []) $ fjoin ! $ move ! (2 ∷ 0 ∷ []) $ fjoin ! $ move ! (1 ∷ 0 ∷ []) $ fjoin ! $ pure_i ! (mut_slice_at R x vs) (tt, (tt, tt)) p $ fjoin ! $ done !))

    one_back : (δ : GName) (zs : List R.Denot) → ent 𝓤 (sep 𝓤 (A.dead κ') (sep 𝓤 (sem 𝓛 (kept R κ q κ' x δ vs)) (sem 𝓛 (fsep (finally R δ zs) (feq ℕ (length zs) (length x.now))))))
        (H.⇛ (sep 𝓤 (sem 𝓛 ((MutSlice (named 0) κ R).own_val (at_last x zs) vs)) (A.lft κ q)))
    one_back δ zs =
        qed 𝓛 (‵ (fdead κ') ∷ ‵ (kept R κ q κ' x δ vs) ∷ ‵ (fsep (finally R δ zs) (feq ℕ (length zs) (length x.now))) ∷ []) ∵ updating ! $ move ! (1 ∷ []) $ fsplit ! $ pure_l ! (mut_slice_at R x vs) (λ p. fsplit ! $
        -- [the lender's part; the open borrow with obs and auth; dead; what says the last list]
        move ! (3 ∷ []) $ fsplit ! $ move ! (1 ∷ []) $ feq_l ! (λ e. move ! (3 ∷ 1 ∷ 0 ∷ []) $
        use3 𝓛 (later (‵ ((Arr (mem R) (length x.now)).own_at zs x.ref_ptr.0 x.ref_ptr.1))) (slice_back 𝓛 R κ' δ zs (length x.now) x.ref_ptr.0 x.ref_ptr.1) $ await ! tt $ fsplit ! $ drop ! $ use1 𝓛 (‵ (row R full_share zs x.ref_ptr.0 x.ref_ptr.1)) (whole_out 𝓛 R zs x.ref_ptr.0 x.ref_ptr.1) $
        move ! (1 ∷ []) $ fsplit ! $ move ! (1 ∷ []) $ fsplit ! $ move ! (3 ∷ 2 ∷ 0 ∷ 1 ∷ []) $ closes_slice ! tt R x.now zs e x.ref_ptr.0 x.ref_ptr.1 $ at_once ! $
        fjoin ! $ pure_i ! (mut_slice_at R (at_last x zs) vs) (tt, (tt, tt)) (p.0 ∙ ap (λ (m : ℕ). slice_val x.ref_ptr m ∷ []) (sym e), subst (Room R) (sym e) p.1) $ fjoin ! $ done !))

  pub lends_all : (Rs : List RattleType) (κs : Lfts (length Rs)) (qs : Shares (length Rs)) (κ' : Lft) (a : Refs Rs) (vss : Values Rs) (P Q : Fml)
      → ent 𝓤 (sep 𝓤 (sem 𝓛 (own_each Rs κs a vss Q)) (sep 𝓤 (toks 𝓛 (length Rs) κs qs) (sem 𝓛 P)))
      (H.⇛ (ex 𝓤 (λ (δs : Names Rs). sep 𝓤 (sem 𝓛 (own_at Rs κ' (named_as Rs a δs) vss P)) (sem 𝓛 (kept_each Rs κs qs κ' a δs vss Q)))))
  lends_all [] κs qs κ' a vss P Q =
      qed 𝓛 (‵ Q ∷ raw (toks 𝓛 0 κs qs) ∷ ‵ P ∷ []) ∵ updating ! $ at_once ! $ show ! (λ (_ : Unit {0}). sep 𝓤 (sem 𝓛 P) (sem 𝓛 Q)) tt $ keep ! (2 ∷ 0 ∷ []) $ done !
  lends_all (R ∷ Rs) κs qs κ' a vss P Q =
      qed 𝓛 (‵ (own_each (R ∷ Rs) κs a vss Q) ∷ (‵ (flft κs.0 qs.0) ⊛ raw (toks 𝓛 (length Rs) κs.1 qs.1)) ∷ ‵ P ∷ []) ∵ updating ! $ fsplit ! $ move ! (2 ∷ []) $ split ! $
      -- [the first's token; the others'; the first; the others; P]
      move ! (2 ∷ 0 ∷ []) $ use2 𝓛 (later (some (λ (δ : GName). ‵ ((MutSlice (named 0) κ' R).own_val (under a.0 δ) vss.0) ⊛ ‵ (kept R κs.0 qs.0 κ' a.0 δ vss.0)))) (lends_one R κs.0 κ' qs.0 a.0 vss.0) $ await ! tt $ pick ! (λ δ. split ! $
      move ! (3 ∷ 2 ∷ 4 ∷ []) $ use3 𝓛 (later (some (λ (δs : Names Rs). ‵ (own_at Rs κ' (named_as Rs a.1 δs) vss.1 P) ⊛ ‵ (kept_each Rs κs.1 qs.1 κ' a.1 δs vss.1 Q)))) (lends_all Rs κs.1 qs.1 κ' a.1 vss.1 P Q) $ await ! tt $ pick ! (λ δs. split ! $
      -- [the others lent; what is kept of them; the first lent; what is kept of it]
      at_once ! $ show ! (λ (γs : Names (R ∷ Rs)). sep 𝓤 (sem 𝓛 (own_at (R ∷ Rs) κ' (named_as (R ∷ Rs) a γs) vss P)) (sem 𝓛 (kept_each (R ∷ Rs) κs qs κ' a γs vss Q))) (δ, δs) $
      move ! (2 ∷ 0 ∷ []) $ fjoin ! $ frame ! $ move ! (1 ∷ 0 ∷ []) $ fjoin ! $ done !))

  pub all_back : (Rs : List RattleType) (κs : Lfts (length Rs)) (qs : Shares (length Rs)) (κ' : Lft) (a : Refs Rs) (δs : Names Rs) (vss : Values Rs) (ws : Lists Rs) (P Q : Fml)
      → ent 𝓤 (sep 𝓤 (A.dead κ') (sep 𝓤 (sem 𝓛 (kept_each Rs κs qs κ' a δs vss Q)) (sem 𝓛 (last_each Rs (named_as Rs a δs) ws P))))
      (H.⇛ (sep 𝓤 (sem 𝓛 (own_each Rs κs (lasting Rs a ws) vss Q)) (toks 𝓛 (length Rs) κs qs)))
  all_back [] κs qs κ' a δs vss ws P Q =
      qed 𝓛 (‵ (fdead κ') ∷ ‵ Q ∷ ‵ P ∷ []) ∵ updating ! $ at_once ! $ keep ! (1 ∷ []) $ by ! (via 𝓤 (sep 𝓤 (emp 𝓤) (sem 𝓛 Q)) (emp∗ 𝓤 (sem 𝓛 Q)) (comm∗ 𝓤 (emp 𝓤) (sem 𝓛 Q)))
  all_back (R ∷ Rs) κs qs κ' a δs vss ws P Q =
      qed 𝓛 (‵ (fdead κ') ∷ ‵ (kept_each (R ∷ Rs) κs qs κ' a δs vss Q) ∷ ‵ (last_each (R ∷ Rs) (named_as (R ∷ Rs) a δs) ws P) ∷ []) ∵ updating ! $
      use1 𝓛 (‵ (fdead κ') ⊛ ‵ (fdead κ')) (𝓛.lfts.dead_dup κ') $ split ! $ move ! (2 ∷ []) $ fsplit ! $ move ! (4 ∷ []) $ fsplit ! $
      -- [what says the first's last list; the others'; what is kept of the first; of the others; dead; dead]
      move ! (4 ∷ 2 ∷ 0 ∷ []) $ use3 𝓛 (later (‵ ((MutSlice (named 0) κs.0 R).own_val (at_last a.0 ws.0) vss.0) ⊛ ‵ (flft κs.0 qs.0))) (one_back R κs.0 κ' qs.0 a.0 vss.0 δs.0 ws.0) $ await ! tt $ split ! $
      -- [the first; its token; what says the others' last lists; what is kept of them; dead]
      move ! (4 ∷ 3 ∷ 2 ∷ []) $ use3 𝓛 (later (‵ (own_each Rs κs.1 (lasting Rs a.1 ws.1) vss.1 Q) ⊛ raw (toks 𝓛 (length Rs) κs.1 qs.1))) (all_back Rs κs.1 qs.1 κ' a.1 δs.1 vss.1 ws.1 P Q) $ await ! tt $ split ! $
      -- [the others; their tokens; the first; its token]
      at_once ! $ move ! (2 ∷ 0 ∷ []) $ fjoin ! $ frame ! $ move ! (1 ∷ 0 ∷ []) $ done !

-- the count of a slice's machine values
abbrev fields : Val → Vals
fields vunit = vnil
fields (vbool t) = vnil
fields (vint w n) = vnil
fields (vfloat f x) = vnil
fields (vptr b o) = vnil
fields (vstruct vs) = vs
fields (vcode c) = vnil

abbrev count : List Val → ℕ
count [] = 0
count (v ∷ vs) = as_int 0 (get_v (fields v) 1) (λ _ n. n)

abbrev pub spelled : (Rs : List RattleType) → Refs Rs → Values Rs
spelled [] a = tt
spelled (R ∷ Rs) a = (mut_slice_vals a.0, spelled Rs a.1)

module _ {M : Type 1} {𝓤 : Ura M} (𝓛 : Logic 𝓤) where
  pub last_all : (Rs : List RattleType) (κs : Lfts (length Rs)) (a : Refs Rs) (ws : Lists Rs) (P Q : Fml) → ent 𝓤 (sem 𝓛 Q) (sem 𝓛 P)
      → ent 𝓤 (sem 𝓛 (own_each Rs κs (lasting Rs a ws) (spelled Rs a) Q)) (sem 𝓛 (last_each Rs a ws P))
  last_all [] κs a ws P Q h = h
  last_all (R ∷ Rs) κs a ws P Q h =
      qed 𝓛 (‵ (own_each (R ∷ Rs) κs (lasting (R ∷ Rs) a ws) (spelled (R ∷ Rs) a) Q) ∷ []) ∵ fsplit ! $ fsplit ! $ pure_l ! (mut_slice_at R (at_last a.0 ws.0) (mut_slice_vals a.0)) (λ p. fsplit ! $ move ! (2 ∷ 0 ∷ []) $
      use1 𝓛 (‵ (last_each Rs a.1 ws.1 P)) (last_all Rs κs.1 a.1 ws.1 P Q h) $ move ! (1 ∷ []) $
      use1 𝓛 (‵ (fres a.0.ghost_name ((coded_holeys R).code (heres R ws.0)))) (𝓛.names.obs-res a.0.ghost_name ((coded_holeys R).code (heres R ws.0))) $ use1 𝓛 (‵ (finally R a.0.ghost_name ws.0)) (res-finally 𝓛 (named 0) κs.0 R a.0.ghost_name ws.0) $
      feq_i ! ℕ (length ws.0) (length a.0.now) (sym (ap count p.0)) $ move ! (1 ∷ 0 ∷ []) $ fjoin ! $ move ! (0 ∷ 1 ∷ []) $ fjoin ! $ keep ! (0 ∷ []) $ done !)

module _ {M : Type 1} {𝓤 : Ura M} {𝓛 : Logic 𝓤} {K : Type 0} {Γ : List (Item 𝓤)} {G : Goal 𝓤 𝓛.H} where
  module _ (t : K) (z : Soaks G) (Rs : List RattleType) (κs : Lfts (length Rs)) (qs : Shares (length Rs)) (a : Refs Rs) (vss : Values Rs) (P Q : Fml) where
    pub lends_each : ((ν : ℕ) (δs : Names Rs) → Seq K 𝓛 (‵ (flft (ν ∷ []) full_share) ∷ ‵ (own_at Rs (ν ∷ []) (named_as Rs a δs) vss P) ∷ ‵ (kept_each Rs κs qs (ν ∷ []) a δs vss Q) ∷ Γ) G)
        → Seq K 𝓛 (‵ (own_each Rs κs a vss Q) ∷ raw (toks 𝓛 (length Rs) κs qs) ∷ ‵ P ∷ Γ) G
    lends_each k = lft_new t z (λ ν. move t (1 ∷ 2 ∷ 3 ∷ []) $
        use3 𝓛 (later (some (λ (δs : Names Rs). ‵ (own_at Rs (ν ∷ []) (named_as Rs a δs) vss P) ⊛ ‵ (kept_each Rs κs qs (ν ∷ []) a δs vss Q)))) (lends_all 𝓛 Rs κs qs (ν ∷ []) a vss P Q) $
        await t z $ pick t (λ δs. split t $ move t (2 ∷ []) $ k ν δs))

    pub back_each : (ν : ℕ) (δs : Names Rs) (ws : Lists Rs) → Step K 𝓛 (‵ (own_each Rs κs (lasting Rs a ws) vss Q) ∷ raw (toks 𝓛 (length Rs) κs qs) ∷ Γ) G
        (‵ (flft (ν ∷ []) full_share) ∷ ‵ (kept_each Rs κs qs (ν ∷ []) a δs vss Q) ∷ ‵ (last_each Rs (named_as Rs a δs) ws P) ∷ Γ) G
    back_each ν δs ws = step (λ s. lft_end t z $ use3 𝓛 (later (‵ (own_each Rs κs (lasting Rs a ws) vss Q) ⊛ raw (toks 𝓛 (length Rs) κs qs))) (all_back 𝓛 Rs κs qs (ν ∷ []) a δs vss ws P Q) $ await t z $ split t $ s)
