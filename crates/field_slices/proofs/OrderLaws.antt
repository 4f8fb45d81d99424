-- Numbers, and pairs by the first and then by the second, are in an order: that is all that a search asks of them.
use mathlib.Core.Path.{◌≡◌, refl, sym, ◌∙◌}
use mathlib.Core.Logic.{◌⊎◌, inl, inr}
use mathlib.Core.Bool.{Bool, true, false, ◌&&◌, ◌||◌}
use Prim.Native.Nat.{ℕ, ◌≤◌, ◌<◌}
use native.Mathlib.Nat.{le_antisymm, le_refl}
use native.Mathlib.Omega.{arith}
use lib.Dec.{ltb, eqb}
use borrow.Author.Tests.{ltb-true, ltb-false, eqb-true, eqb-false, lt-ltb, le-ltb, eq-eqb, ne_eqb}
use Rattle.field_slices.specs.Places.{below}

pub record Order {A : Type 0} (less : A → A → Bool) : Type 0 where
  pub irreflexive : (x : A) → less x x ≡ false
  pub transitive : (x y z : A) → less x y ≡ true → less y z ≡ true → less x z ≡ true
  pub same : (x y : A) → less x y ≡ false → less y x ≡ false → x ≡ y

-- what comes before another does not come after it
pub asymmetric : {A : Type 0} {less : A → A → Bool} → Order less → (x y : A) → less x y ≡ true → less y x ≡ false
asymmetric {A} {less} o x y h = go (less y x) refl
  where
    go : (t : Bool) → less y x ≡ t → t ≡ false
    go true e = sym (o.transitive x y x h e) ∙ o.irreflexive x
    go false e = refl

pub numbers : Order ltb
numbers = record {
  irreflexive = λ x. le-ltb x x (le_refl x);
  transitive = λ x y z h k. lt-ltb x z (omega (arith, ltb-true x y h, ltb-true y z k));
  same = λ x y h k. le_antisymm (ltb-false y x k) (ltb-false x y h);
}

-- ---- pairs, by what the tests of their parts say
module _ (p q : ℕ × ℕ) where
  pub below_first : p.0 < q.0 → below p q ≡ true
  unfolding below
  below_first h = rw (lt-ltb p.0 q.0 h)

  pub below_not : q.0 < p.0 → below p q ≡ false
  unfolding below
  below_not h = rw (le-ltb p.0 q.0 (omega arith), ne_eqb p.0 q.0 (λ e. omega arith))

  pub below_second : p.0 ≡ q.0 → below p q ≡ ltb p.1 q.1
  unfolding below
  below_second e = rw (le-ltb p.0 q.0 (omega arith), eq-eqb p.0 q.0 e)

  pub below_true : below p q ≡ true → (p.0 < q.0) ⊎ ((p.0 ≡ q.0) × (p.1 < q.1))
  unfolding below
  below_true = go (ltb p.0 q.0) (eqb p.0 q.0) (ltb p.1 q.1) refl refl refl
    where
      go : (t u w : Bool) → ltb p.0 q.0 ≡ t → eqb p.0 q.0 ≡ u → ltb p.1 q.1 ≡ w → (t || (u && w)) ≡ true → (p.0 < q.0) ⊎ ((p.0 ≡ q.0) × (p.1 < q.1))
      go true u w e f g h = inl (ltb-true p.0 q.0 e)
      go false true true e f g h = inr (eqb-true p.0 q.0 f, ltb-true p.1 q.1 g)
      go false true false e f g h = absurd (let z : ◌≡◌ {A = ℕ} 0 1 = cc in omega arith)
      go false false w e f g h = absurd (let z : ◌≡◌ {A = ℕ} 0 1 = cc in omega arith)

  pub below_false : below p q ≡ false → (q.0 < p.0) ⊎ ((p.0 ≡ q.0) × (q.1 ≤ p.1))
  unfolding below
  below_false = go (ltb p.0 q.0) (eqb p.0 q.0) (ltb p.1 q.1) refl refl refl
    where
      go : (t u w : Bool) → ltb p.0 q.0 ≡ t → eqb p.0 q.0 ≡ u → ltb p.1 q.1 ≡ w → (t || (u && w)) ≡ false → (q.0 < p.0) ⊎ ((p.0 ≡ q.0) × (q.1 ≤ p.1))
      go true u w e f g h = absurd (let z : ◌≡◌ {A = ℕ} 0 1 = cc in omega arith)
      go false true true e f g h = absurd (let z : ◌≡◌ {A = ℕ} 0 1 = cc in omega arith)
      go false true false e f g h = inr (eqb-true p.0 q.0 f, ltb-false p.1 q.1 g)
      go false false w e f g h = inl (omega (arith, ltb-false p.0 q.0 e, eqb-false p.0 q.0 f))

  -- neither comes before the other
  both_same : (q.0 < p.0) ⊎ ((p.0 ≡ q.0) × (q.1 ≤ p.1)) → (p.0 < q.0) ⊎ ((q.0 ≡ p.0) × (p.1 ≤ q.1)) → p ≡ q
  both_same (inl h) (inl k) = absurd (omega arith)
  both_same (inl h) (inr k) = absurd (omega arith)
  both_same (inr h) (inl k) = absurd (omega arith)
  both_same (inr h) (inr k) = let e : p.1 ≡ q.1 = omega arith in λ i. (h.0 i, e i)

pub by_both : Order below
by_both = record {
  irreflexive = λ p. below_second p p refl ∙ le-ltb p.1 p.1 (le_refl p.1);
  transitive = λ p q r h k. go p q r (below_true p q h) (below_true q r k);
  same = λ p q h k. both_same p q (below_false p q h) (below_false q p k);
}
  where
    go : (p q r : ℕ × ℕ) → (p.0 < q.0) ⊎ ((p.0 ≡ q.0) × (p.1 < q.1)) → (q.0 < r.0) ⊎ ((q.0 ≡ r.0) × (q.1 < r.1)) → below p r ≡ true
    go p q r (inl h) (inl k) = below_first p r (omega arith)
    go p q r (inl h) (inr k) = below_first p r (omega arith)
    go p q r (inr h) (inl k) = below_first p r (omega arith)
    go p q r (inr h) (inr k) = below_second p r (h.0 ∙ k.0) ∙ lt-ltb p.1 r.1 (omega arith)
