-- A value that is put at a key is found there, and what stands at other keys stays. The search ends where the keys pass the one that is sought, so
-- that this needs no order; two maps that ascend, and in which the same is found at every key, are one.
use Prim.{tt}
use mathlib.Core.Path.{◌≡◌, refl, sym, ap, ◌∙◌, subst}
use mathlib.Core.Bool.{Bool, true, false, cond}
use mathlib.Core.Logic.{◌⊎◌, inl, inr}
use mathlib.Core.List.Memᴰ
use mathlib.Core.List.{[], ◌∷◌, Memᴰ}
use mathlib.Core.Option.{Option, none, some, none-ne-some, some-injective}
use Prim.Native.Nat.{ℕ, suc, ◌<◌, ◌≤◌, compare, Ordering}
use native.Mathlib.Omega.{arith}
use lib.ListN.{length}
use Rattle.numbers.proofs.Comparing.{Compared, compared}
use Rattle.model.specs.Map.{Entry, Map, choose, find, is_none, made, put, AscendingFrom}

-- ---- how two numbers compare
pub compares : (a b : ℕ) (o : Ordering) → Compared o a b → compare a b ≡ o
compares a b o h = go (compare a b) (compared a b) o h
  where
    go : (p : Ordering) → Compared p a b → (o : Ordering) → Compared o a b → p ≡ o
    go Ordering.lt g Ordering.lt h = refl
    go Ordering.lt g Ordering.eq h = absurd (omega arith)
    go Ordering.lt g Ordering.gt h = absurd (omega arith)
    go Ordering.eq g Ordering.lt h = absurd (omega arith)
    go Ordering.eq g Ordering.eq h = refl
    go Ordering.eq g Ordering.gt h = absurd (omega arith)
    go Ordering.gt g Ordering.lt h = absurd (omega arith)
    go Ordering.gt g Ordering.eq h = absurd (omega arith)
    go Ordering.gt g Ordering.gt h = refl

module _ {A : Type 0} (a b : ℕ) (x y z : A) where
  pub choose_less : a < b → choose (compare a b) x y z ≡ x
  choose_less h = ap (λ (o : Ordering). choose o x y z) (compares a b Ordering.lt h)

  pub choose_same : a ≡ b → choose (compare a b) x y z ≡ y
  choose_same h = ap (λ (o : Ordering). choose o x y z) (compares a b Ordering.eq h)

  pub choose_more : b < a → choose (compare a b) x y z ≡ z
  choose_more h = ap (λ (o : Ordering). choose o x y z) (compares a b Ordering.gt h)

module _ {W : Type 0} where
  -- ---- what is found after a put
  module _ (k : ℕ) (f : Option W → W) where
    -- a put, once it is known how k stands to the first key
    abbrev put_by : Ordering → Entry W → Map W → Map W
    put_by o e m = choose o (made k f none ∷ e ∷ m) (made k f (some e.value) ∷ m) (e ∷ put k f m)

    pub find_put : (m : Map W) → find k (put k f m) ≡ some (f (find k m))
    unfolding find put
    find_put [] = choose_same k k _ _ _ refl
    find_put (e ∷ m) = go (compare k e.key) (compared k e.key) (find_put m)
      where
        go : (o : Ordering) → Compared o k e.key → find k (put k f m) ≡ some (f (find k m)) → find k (put_by o e m) ≡ some (f (choose o none (some e.value) (find k m)))
        go Ordering.lt h r = choose_same k k _ _ _ refl
        go Ordering.eq h r = choose_same k k _ _ _ refl
        go Ordering.gt h r = choose_more k e.key _ _ _ h ∙ r

    pub find_put_other : (j : ℕ) (m : Map W) → (j ≡ k → ⊥) → find j (put k f m) ≡ find j m
    unfolding find put
    find_put_other j [] n = go (compare j k) (compared j k)
      where
        go : (o : Ordering) → Compared o j k → choose o none (some (f none)) none ≡ none
        go Ordering.lt h = refl
        go Ordering.eq h = absurd (n h)
        go Ordering.gt h = refl
    find_put_other j (e ∷ m) n = go (compare k e.key) (compared k e.key) (compare j k) (compared j k) (find_put_other j m n)
      where
        go : (o : Ordering) → Compared o k e.key → (p : Ordering) → Compared p j k → find j (put k f m) ≡ find j m
            → find j (put_by o e m) ≡ choose (compare j e.key) none (some e.value) (find j m)
        go o h Ordering.eq g r = absurd (n g)
        go Ordering.lt h Ordering.lt g r = choose_less j k _ _ _ g ∙ sym (choose_less j e.key _ _ _ (omega arith))
        go Ordering.lt h Ordering.gt g r = choose_more j k _ _ _ g
        go Ordering.eq h Ordering.lt g r = choose_less j k _ _ _ g ∙ sym (choose_less j e.key _ _ _ (omega arith))
        go Ordering.eq h Ordering.gt g r = choose_more j k _ _ _ g ∙ sym (choose_more j e.key _ _ _ (omega arith))
        go Ordering.gt h Ordering.lt g r = ap (λ (o : Option W). choose (compare j e.key) none (some e.value) o) r
        go Ordering.gt h Ordering.gt g r = ap (λ (o : Option W). choose (compare j e.key) none (some e.value) o) r

    pub length_put : (m : Map W) → length (put k f m) ≡ cond (is_none (find k m)) (suc (length m)) (length m)
    unfolding find put
    length_put [] = refl
    length_put (e ∷ m) = go (compare k e.key) (length_put m)
      where
        one_more : (b : Bool) (n : ℕ) → suc (cond b (suc n) n) ≡ cond b (suc (suc n)) (suc n)
        one_more true n = refl
        one_more false n = refl

        go : (o : Ordering) → length (put k f m) ≡ cond (is_none (find k m)) (suc (length m)) (length m)
            → length (put_by o e m) ≡ cond (is_none (choose o none (some e.value) (find k m))) (suc (suc (length m))) (suc (length m))
        go Ordering.lt r = refl
        go Ordering.eq r = refl
        go Ordering.gt r = ap suc r ∙ one_more (is_none (find k m)) (length m)

    -- ---- order
    pub ascending_put : (b : ℕ) (m : Map W) → b ≤ k → AscendingFrom b m → AscendingFrom b (put k f m)
    unfolding put
    ascending_put b [] h a = (h, tt)
    ascending_put b (e ∷ m) h a = go (compare k e.key) (compared k e.key) (λ w. ascending_put (suc e.key) m w a.1)
      where
        go : (o : Ordering) → Compared o k e.key → (suc e.key ≤ k → AscendingFrom (suc e.key) (put k f m)) → AscendingFrom b (put_by o e m)
        go Ordering.lt g r = (h, (g, a.1))
        go Ordering.eq g r = (h, subst (λ (x : ℕ). AscendingFrom (suc x) m) (sym g) a.1)
        go Ordering.gt g r = (a.0, r g)

  pub find_low : (b k : ℕ) (m : Map W) → AscendingFrom b m → k < b → find k m ≡ none
  unfolding find
  find_low b k [] a h = refl
  find_low b k (e ∷ m) a h = choose_less k e.key _ _ _ (omega (arith, a.0))

  find_head : (e : Entry W) (m : Map W) → find e.key (e ∷ m) ≡ some e.value
  unfolding find
  find_head e m = choose_same e.key e.key _ _ _ refl

  pub same_map : (b : ℕ) (m n : Map W) → AscendingFrom b m → AscendingFrom b n → ((k : ℕ) → find k m ≡ find k n) → m ≡ n
  unfolding find
  same_map b [] [] s t h = refl
  same_map b [] (e ∷ n) s t h = absurd (none-ne-some _ (h e.key ∙ find_head e n))
  same_map b (d ∷ m) [] s t h = absurd (none-ne-some _ (sym (h d.key) ∙ find_head d m))
  same_map b (d ∷ m) (e ∷ n) s t h = go (compare d.key e.key) (compared d.key e.key) (λ a w. same_map (suc d.key) m n s.1 a w)
    where
      go : (o : Ordering) → Compared o d.key e.key → (AscendingFrom (suc d.key) n → ((k : ℕ) → find k m ≡ find k n) → m ≡ n) → d ∷ m ≡ e ∷ n
      go Ordering.lt g r = absurd (none-ne-some _ (sym (choose_less d.key e.key _ _ _ g) ∙ sym (h d.key) ∙ find_head d m))
      go Ordering.gt g r = absurd (none-ne-some _ (sym (choose_less e.key d.key _ _ _ g) ∙ h e.key ∙ find_head e n))
      go Ordering.eq g r =
          let v : d.value ≡ e.value = some-injective _ _ (sym (find_head d m) ∙ h d.key ∙ choose_same d.key e.key _ _ _ g) in
          let a : AscendingFrom (suc d.key) n = subst (λ (x : ℕ). AscendingFrom (suc x) n) (sym g) t.1 in
          λ i. record { key = g i; value = v i } ∷ r a (λ k. rest a k (compare k d.key) (compared k d.key)) i
        where
          rest : AscendingFrom (suc d.key) n → (k : ℕ) (o : Ordering) → Compared o k d.key → find k m ≡ find k n
          rest a k Ordering.lt w = find_low (suc d.key) k m s.1 (omega arith) ∙ sym (find_low (suc d.key) k n a (omega arith))
          rest a k Ordering.eq w = find_low (suc d.key) k m s.1 (omega arith) ∙ sym (find_low (suc d.key) k n a (omega arith))
          rest a k Ordering.gt w = sym (choose_more k d.key _ _ _ w) ∙ h k ∙ choose_more k e.key _ _ _ (omega arith)

  -- ---- entries
  pub found_entry : (k : ℕ) (v : W) (m : Map W) → find k m ≡ some v → Memᴰ (record { key = k; value = v }) m
  unfolding find
  found_entry k v [] h = absurd (none-ne-some _ h)
  found_entry k v (e ∷ m) h = go (compare k e.key) (compared k e.key) h (found_entry k v m)
    where
      go : (o : Ordering) → Compared o k e.key → choose o none (some e.value) (find k m) ≡ some v
          → (find k m ≡ some v → Memᴰ (record { key = k; value = v }) m) → Memᴰ (record { key = k; value = v }) (e ∷ m)
      go Ordering.lt g q r = absurd (none-ne-some _ q)
      go Ordering.eq g q r = let w = some-injective e.value v q in Memᴰ.head (λ i. record { key = g i; value = sym w i })
      go Ordering.gt g q r = Memᴰ.tail (r q)

  entry_above : (b : ℕ) (m : Map W) (e : Entry W) → AscendingFrom b m → Memᴰ e m → b ≤ e.key
  entry_above b [] e a d = absurd (Memᴰ.not-nil d)
  entry_above b (x ∷ m) e a d = go (entry_above (suc x.key) m e a.1) (Memᴰ.cases_cons d)
    where
      go : (Memᴰ e m → suc x.key ≤ e.key) → (e ≡ x) ⊎ Memᴰ e m → b ≤ e.key
      go r (inl p) = omega (arith, a.0, ap (λ (y : Entry W). y.key) p)
      go r (inr q) = omega (arith, a.0, r q)

  pub entry_found : (b : ℕ) (m : Map W) (e : Entry W) → AscendingFrom b m → Memᴰ e m → find e.key m ≡ some e.value
  unfolding find
  entry_found b [] e a d = absurd (Memᴰ.not-nil d)
  entry_found b (x ∷ m) e a d = go (entry_found (suc x.key) m e a.1) (Memᴰ.cases_cons d)
    where
      go : (Memᴰ e m → find e.key m ≡ some e.value) → (e ≡ x) ⊎ Memᴰ e m
          → choose (compare e.key x.key) none (some x.value) (find e.key m) ≡ some e.value
      go r (inl p) = choose_same e.key x.key _ _ _ (ap (λ (y : Entry W). y.key) p) ∙ ap (λ (y : Entry W). some y.value) (sym p)
      go r (inr q) = choose_more e.key x.key _ _ _ (entry_above (suc x.key) m e a.1 q) ∙ r q
