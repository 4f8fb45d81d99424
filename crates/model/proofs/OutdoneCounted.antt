-- As many rows are outdone as the rules count: of the rows of one atom all are outdone but the earliest of greatest occupancy, and whether a row is
-- outdone goes by the rows of its atom alone. So the rows that are not outdone are one for each atom, as the entries are.
use Prim.{tt}
use mathlib.Core.Path.{◌≡◌, refl, sym, ap, ◌∙◌, subst}
use mathlib.Core.Bool.{Bool, true, false, not, ◌&&◌, cond, and-false, or-true}
use mathlib.Core.List.Memᴰ
use mathlib.Core.List.{List, [], ◌∷◌, ◌++◌, map, append-nil, Memᴰ}
use mathlib.Core.Option.{Option, none, some}
use Prim.Native.Nat.{ℕ, suc, ◌+◌, ◌≤◌, compare, Ordering}
use native.Mathlib.Omega.{arith}
use lib.Dec.{eqb}
use lib.Ieee.{lt}
use lib.ListN.{length, length-map}
use lib.Seq.{append_snoc}
use borrow.Author.Tests.{eqb-true, eq-eqb, ne_eqb}
use Rattle.numbers.proofs.Comparing.{Compared, compared}
use Rattle.rows.specs.declared.rules.Site.{Site}
use Rattle.model.specs.Fold.{Atom, greater, start, model_of}
use Rattle.model.specs.Keys.{atom_at}
use Rattle.model.specs.Lists.{filter, any, All, count}
use Rattle.model.specs.Map.{Map, choose, find, AscendingFrom}
use Rattle.model.specs.Proper.{Proper}
use Rattle.model.specs.Rules.{same_atom, Earliest, is_outdone, outdone_after, outdone_in}
use Rattle.model.specs.Taken.{Taken, sites}
use Rattle.model.proofs.BuiltMaps.{left, build, build_ascends, find_built}
use Rattle.model.proofs.ChainsFirstMet.{met_after}
use Rattle.model.proofs.ClassLaws.{those, total_one, same_total}
use Rattle.model.proofs.EarliestIsKept.{Occupied, earliest_is_kept}
use Rattle.model.proofs.FoldParts.{atoms_after, rows_counted, skipped_counted, rows_split, rows_add_up}
use Rattle.model.proofs.KeysTellApart.{Placed, all_placed, place_tells}
use Rattle.model.proofs.ListLaws.{all_map, all_both, all_at, all_append, all_before, all_after, any_at, any_none, any_filter, filter_all, filter_append, mem_middle}
use Rattle.model.proofs.MapLaws.{find_low}

-- the rows of l that are not outdone, where those of p came before
unfoldable kept_after : List Site → List Site → List Site
kept_after p [] = []
kept_after p (s ∷ l) = cond (is_outdone p s l) (kept_after (p ++ (s ∷ [])) l) (s ∷ kept_after (p ++ (s ∷ [])) l)

outdone_or_kept : (p l : List Site) → outdone_after p l + length (kept_after p l) ≡ length l
unfolding outdone_after kept_after
outdone_or_kept p [] = refl
outdone_or_kept p (s ∷ l) = go (is_outdone p s l) (outdone_or_kept (p ++ (s ∷ [])) l)
  where
    go : (b : Bool) → outdone_after (p ++ (s ∷ [])) l + length (kept_after (p ++ (s ∷ [])) l) ≡ length l
        → count b + outdone_after (p ++ (s ∷ [])) l + length (cond b (kept_after (p ++ (s ∷ [])) l) (s ∷ kept_after (p ++ (s ∷ [])) l)) ≡ suc (length l)
    go true e = omega arith
    go false e = omega arith

-- ---- the rows of one atom
module _ (t : Site) where
  -- before the kept one
  passed : (p b a : List Site) → All (λ s. (same_atom s t ≡ true) × (lt s.occupancy t.occupancy ≡ true)) b → kept_after p (b ++ t ∷ a) ≡ kept_after (p ++ b) (t ∷ a)
  unfolding kept_after
  passed p [] a h = ap (λ (q : List Site). kept_after q (t ∷ a)) (sym (append-nil p))
  passed p (s ∷ b) a h =
      let beaten = any_at (λ r. same_atom s r && lt s.occupancy r.occupancy) (b ++ t ∷ a) t (mem_middle b t a) (rw (h.0.0, h.0.1)) in
      rw (beaten, or-true (any (λ r. same_atom s r && not (lt r.occupancy s.occupancy)) p))
      (passed (p ++ (s ∷ [])) b a h.1 ∙ ap (λ (q : List Site). kept_after q (t ∷ a)) (append_snoc p s b))

  -- after it
  beaten_after : (p l : List Site) → Memᴰ t p → All (λ s. (same_atom s t ≡ true) × (lt t.occupancy s.occupancy ≡ false)) l → kept_after p l ≡ []
  unfolding kept_after
  beaten_after p [] d h = refl
  beaten_after p (s ∷ l) d h =
      let beaten = any_at (λ r. same_atom s r && not (lt r.occupancy s.occupancy)) p t d (rw (h.0.0, h.0.1)) in
      rw beaten (beaten_after (p ++ (s ∷ [])) l (Memᴰ.append_left (s ∷ []) d) h.1)

  not_outdone : (b a : List Site) → All (λ s. lt s.occupancy t.occupancy ≡ true) b → All (λ s. lt t.occupancy s.occupancy ≡ false) a → is_outdone b t a ≡ false
  not_outdone b a f g =
      let before = any_none (λ r. same_atom t r && not (lt r.occupancy t.occupancy)) b
      (all_map _ _ (λ r e. ap (λ (x : Bool). same_atom t r && not x) e ∙ and-false (same_atom t r)) b f) in
      let after = any_none (λ r. same_atom t r && lt t.occupancy r.occupancy) a
      (all_map _ _ (λ r e. ap (λ (x : Bool). same_atom t r && x) e ∙ and-false (same_atom t r)) a g) in
      rw (before, after)

  one_kept : (l : List Site) → Earliest l t → All (λ s. same_atom s t ≡ true) l → kept_after [] l ≡ t ∷ []
  unfolding kept_after
  one_kept l k same =
      let b = k.before in
      let a = k.after in
      let Same : Site → Type 0 = λ s. same_atom s t ≡ true in
      let NotGreater : Site → Type 0 = λ s. lt t.occupancy s.occupancy ≡ false in
      let same' : All Same (b ++ t ∷ a) = subst (All Same) k.among same in
      let greatest : All NotGreater a = (all_after NotGreater b (t ∷ a) (subst (All NotGreater) k.among k.greatest)).1 in
      ap (kept_after []) k.among
      ∙ passed [] b a (all_both Same (λ s. lt s.occupancy t.occupancy ≡ true) b (all_before Same b (t ∷ a) same') k.first)
      ∙ ap (λ (o : Bool). cond o (kept_after (b ++ (t ∷ [])) a) (t ∷ kept_after (b ++ (t ∷ [])) a)) (not_outdone b a k.first greatest)
      ∙ ap (λ (r : List Site). t ∷ r) (beaten_after (b ++ (t ∷ [])) a (mem_middle b t []) (all_both Same NotGreater a (all_after Same b (t ∷ a) same').1 greatest))

-- ---- the rows of one place
module _ (c : List ℕ) (x : ℕ) where
  abbrev here : Site → Bool
  here s = eqb (atom_at c s) x

  same_here : (s t : Site) → Placed c s → Placed c t → here s ≡ true → same_atom s t ≡ here t
  same_here s t p q e = sym (place_tells c s t p q) ∙ ap (λ (y : ℕ). eqb (atom_at c t) y) (eqb-true _ _ e)

  outdone_here : (s : Site) (p l : List Site) → Placed c s → All (Placed c) p → All (Placed c) l → here s ≡ true → is_outdone (filter here p) s (filter here l) ≡ is_outdone p s l
  outdone_here s p l v a b e =
      rw (part p a (λ t. not (lt t.occupancy s.occupancy)), part l b (λ t. lt s.occupancy t.occupancy))
    where
      part : (m : List Site) → All (Placed c) m → (f : Site → Bool) → any (λ t. same_atom s t && f t) (filter here m) ≡ any (λ t. same_atom s t && f t) m
      part m a f = any_filter (λ t. same_atom s t && f t) here m
          (all_map (Placed c) (λ t. here t ≡ false → (same_atom s t && f t) ≡ false) (λ t w n. ap (λ (y : Bool). y && f t) (same_here s t v w e ∙ n)) m a)

  kept_here : (p l : List Site) → All (Placed c) p → All (Placed c) l → filter here (kept_after p l) ≡ kept_after (filter here p) (filter here l)
  unfolding kept_after
  kept_here p [] a b = refl
  kept_here p (s ∷ l) a b =
      go (is_outdone p s l) refl (here s) refl (kept_here (p ++ (s ∷ [])) l (all_append (Placed c) p (s ∷ []) a (b.0, tt)) b.1) (filter_append here p (s ∷ []))
    where
      go : (o : Bool) → is_outdone p s l ≡ o → (h : Bool) → here s ≡ h
          → filter here (kept_after (p ++ (s ∷ [])) l) ≡ kept_after (filter here (p ++ (s ∷ []))) (filter here l)
          → filter here (p ++ (s ∷ [])) ≡ filter here p ++ cond h (s ∷ []) []
          → filter here (cond o (kept_after (p ++ (s ∷ [])) l) (s ∷ kept_after (p ++ (s ∷ [])) l)) ≡ kept_after (filter here p) (cond h (s ∷ filter here l) (filter here l))
      go true e true h r q = rw (outdone_here s p l b.0 a b.1 h, e) (r ∙ ap (λ (n : List Site). kept_after n (filter here l)) q)
      go false e true h r q = rw (outdone_here s p l b.0 a b.1 h, e, h) (ap (λ (n : List Site). s ∷ n) (r ∙ ap (λ (n : List Site). kept_after n (filter here l)) q))
      go true e false h r q = r ∙ ap (λ (n : List Site). kept_after n (filter here l)) (q ∙ append-nil (filter here p))
      go false e false h r q = rw h (r ∙ ap (λ (n : List Site). kept_after n (filter here l)) (q ∙ append-nil (filter here p)))

-- ---- the keys of a map
those_map : (k : Site → ℕ) (x : ℕ) (l : List Site) → those (λ y. y) x (map k l) ≡ map k (those k x l)
those_map k x [] = refl
those_map k x (s ∷ l) = go (eqb (k s) x) (those_map k x l)
  where
    go : (b : Bool) → those (λ y. y) x (map k l) ≡ map k (those k x l) → cond b (k s ∷ those (λ y. y) x (map k l)) (those (λ y. y) x (map k l)) ≡ map k (cond b (s ∷ those k x l) (those k x l))
    go true e = ap (λ (r : List ℕ). k s ∷ r) e
    go false e = e

abbrev keys : Map Atom → List ℕ
keys m = map (λ e. e.key) m

-- x, if there is something
abbrev present : ℕ → Option Atom → List ℕ
present x none = []
present x (some a) = x ∷ []

key_present : (b x : ℕ) (m : Map Atom) → AscendingFrom b m → those (λ y. y) x (keys m) ≡ present x (find x m)
unfolding find
key_present b x [] a = refl
key_present b x (e ∷ m) a = go (compare x e.key) (compared x e.key) (key_present (suc e.key) x m a.1)
  where
    past : x ≤ e.key → find x m ≡ none
    past h = find_low (suc e.key) x m a.1 (omega arith)

    go : (o : Ordering) → Compared o x e.key → those (λ y. y) x (keys m) ≡ present x (find x m)
        → cond (eqb e.key x) (e.key ∷ those (λ y. y) x (keys m)) (those (λ y. y) x (keys m)) ≡ present x (choose o none (some e.value) (find x m))
    go Ordering.lt h r = rw (ne_eqb e.key x (λ q. omega arith)) (r ∙ ap (present x) (past (omega arith)))
    go Ordering.eq h r = rw (eq-eqb e.key x (sym h)) (λ i. sym h i ∷ (r ∙ ap (present x) (past (omega arith))) i)
    go Ordering.gt h r = rw (ne_eqb e.key x (λ q. omega arith)) r

-- ---- the theorem
module _ (l : List Taken) (proper : All Proper (sites l)) where
  abbrev c : List ℕ
  c = met_after [] (sites l)

  abbrev m : Map Atom
  m = build (atom_at c) greater [] (sites l)

  kept_present : (x : ℕ) → map (atom_at c) (kept_after [] (those (atom_at c) x (sites l))) ≡ present x (find x m)
  unfolding kept_after
  kept_present x = go (those (atom_at c) x (sites l)) (find_built (atom_at c) greater x (sites l)) (filter_all (Placed c) (here c x) (sites l) (all_placed (sites l) proper))
    where
      go : (q : List Site) → find x m ≡ left greater none q → All (λ s. Placed c s × (here c x s ≡ true)) q → map (atom_at c) (kept_after [] q) ≡ present x (find x m)
      go [] f a = rw f
      go (s ∷ q) f a =
          let k = earliest_is_kept s q (all_map (λ r. Placed c r × (here c x r ≡ true)) Occupied (λ r p. p.0.proper.occupancy) (s ∷ q) a) in
          let t = k.0 in
          let v = all_at (λ r. Placed c r × (here c x r ≡ true)) (s ∷ q) t a (subst (Memᴰ t) (sym k.1.among) (mem_middle k.1.before t k.1.after)) in
          ap (map (atom_at c)) (one_kept t (s ∷ q) k.1 (all_map (λ r. Placed c r × (here c x r ≡ true)) (λ r. same_atom r t ≡ true) (λ r p. same_here c x r t p.0 v.0 p.1 ∙ v.1) (s ∷ q) a))
          ∙ ap (λ (y : ℕ). y ∷ []) (eqb-true (atom_at c t) x v.1)
          ∙ ap (present x) (sym (f ∙ k.2))

  one_for_each : length (kept_after [] (sites l)) ≡ length m
  one_for_each =
      let q = kept_after [] (sites l) in
      sym (length-map q (atom_at c))
      ∙ sym (total_one (map (atom_at c) q))
      ∙ same_total (λ y. y) (λ y. 1) (map (atom_at c) q) (keys m)
      (λ x. those_map (atom_at c) x q ∙ ap (map (atom_at c)) (kept_here c x [] (sites l) tt (all_placed (sites l) proper)) ∙ kept_present x ∙ sym (key_present 0 x m (build_ascends (atom_at c) greater [] (sites l) tt)))
      ∙ total_one (keys m)
      ∙ length-map m (λ e. e.key)

  pub outdone_counted : (model_of l).outdone ≡ outdone_in (sites l)
  outdone_counted =
      omega (arith, rows_add_up l, rows_counted l, skipped_counted l, rows_split l, outdone_or_kept [] (sites l), one_for_each, ap length (atoms_after start l))
