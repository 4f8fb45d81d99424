-- Atoms stand in runs in the order of the residues; so an atom is of the residue of the one before it, or of the next.
use mathlib.Core.Path.{◌≡◌, refl, sym, ap, ◌∙◌}
use mathlib.Core.Bool.{Bool, true, cond, false≢true}
use mathlib.Core.List.{List, [], ◌∷◌}
use Prim.Native.Nat.{ℕ, zero, suc, ◌+◌, ◌≤◌, ◌<◌, compare, Ordering}
use native.Mathlib.Numerals.{add-one}
use native.Mathlib.Omega.{arith}
use lib.Dec.{eqb}
use borrow.Author.Tests.{eqb-true, eq-eqb, ne_eqb}
use Rattle.numbers.proofs.Comparing.{Compared, compared}
use Rattle.model.specs.WellFormed.{same_list, runs_after, runs_of}
use Rattle.model.proofs.ListLaws.{left_of, right_of}
use Rattle.wellformed.proofs.FromLaws.{rest, rest_turn, rest_end}

-- ---- lists
after_first : (l : List ℕ) (k : ℕ) (ks : List ℕ) → same_list (runs_of l) (k ∷ ks) ≡ true → same_list (runs_after k l) ks ≡ true
unfolding runs_after
after_first [] k ks e = absurd (false≢true e)
after_first (x ∷ l) k ks e =
    let same : x ≡ k = eqb-true x k (left_of (eqb x k) (same_list (runs_after x l) ks) e) in
    rw (eq-eqb k x (sym same)) (ap (λ (y : ℕ). same_list (runs_after y l) ks) (sym same) ∙ right_of (eqb x k) (same_list (runs_after x l) ks) e)

module _ (k y : ℕ) (l : List ℕ) where
  after_same : (ks : List ℕ) → k ≡ y → same_list (runs_after k (y ∷ l)) ks ≡ true → same_list (runs_after k l) ks ≡ true
  unfolding runs_after
  after_same ks e h = sym (ap (λ (t : Bool). same_list (cond t (runs_after k l) (y ∷ runs_after y l)) ks) (eq-eqb k y e)) ∙ h

  module _ (d : k ≡ y → ⊥) where
    other : (ks : List ℕ) → same_list (runs_after k (y ∷ l)) ks ≡ same_list (y ∷ runs_after y l) ks
    unfolding runs_after
    other ks = ap (λ (t : Bool). same_list (cond t (runs_after k l) (y ∷ runs_after y l)) ks) (ne_eqb k y d)

    none_left : same_list (runs_after k (y ∷ l)) [] ≡ true → ⊥
    none_left h = false≢true (sym (other []) ∙ h)

    next_is : (x : ℕ) (ks : List ℕ) → same_list (runs_after k (y ∷ l)) (x ∷ ks) ≡ true → (x ≡ y) × (same_list (runs_after x l) ks ≡ true)
    next_is x ks h =
        let both = sym (other (x ∷ ks)) ∙ h in
        let same : y ≡ x = eqb-true y x (left_of (eqb y x) (same_list (runs_after y l) ks) both) in
        (sym same, ap (λ (z : ℕ). same_list (runs_after z l) ks) (sym same) ∙ right_of (eqb y x) (same_list (runs_after y l) ks) both)

-- ---- by index: ks are the keys of m residues, at those of n atoms
module _ (ks at : ℕ → ℕ) (m n : ℕ) where
  -- the atoms from index i on are of the residue at index j, and then of those after it
  pub record StandsIn (i j : ℕ) : Type 0 where
    pub left : same_list (runs_after (ks j) (rest at n i)) (rest ks m (suc j)) ≡ true
    pub within : 0 < n → j < m

  pub stands_first : same_list (runs_of (rest at n 0)) (rest ks m 0) ≡ true → StandsIn 0 0
  unfolding runs_after
  stands_first h = go (compare 0 m) (compared 0 m)
    where
      empty : m ≤ 0 → (k : ℕ) → n ≡ k → n ≤ 0
      empty e zero f = omega arith
      empty e (suc k) f =
          absurd
          (false≢true
          (sym (ap (λ (l : List ℕ). same_list (runs_of l) []) (rest_turn at n 0 (omega arith)))
          ∙ sym (ap (same_list (runs_of (rest at n 0))) (rest_end ks m 0 e))
          ∙ h))

      go : (o : Ordering) → Compared o 0 m → StandsIn 0 0
      go Ordering.lt l = record {
        left = after_first (rest at n 0) (ks 0) (rest ks m 1) (sym (ap (same_list (runs_of (rest at n 0))) (rest_turn ks m 0 l)) ∙ h);
        within = λ z. l;
      }
      go Ordering.eq l =
          let none : n ≤ 0 = empty (omega arith) n refl in
          record { left = rw (rest_end at n 0 none, rest_end ks m 1 (omega arith)); within = λ z. absurd (omega arith) }
      go Ordering.gt l = absurd (omega arith)

  module _ (i j : ℕ) (h : i < n) (s : StandsIn i j) where
    turned : same_list (runs_after (ks j) (at i ∷ rest at n (i + 1))) (rest ks m (suc j)) ≡ true
    turned = sym (ap (λ (l : List ℕ). same_list (runs_after (ks j) l) (rest ks m (suc j))) (rest_turn at n i h)) ∙ s.left

    pub stands_still : ks j ≡ at i → StandsIn (i + 1) j
    stands_still e = record { left = after_same (ks j) (at i) (rest at n (i + 1)) (rest ks m (suc j)) e turned; within = s.within }

    pub stands_next : (ks j ≡ at i → ⊥) → (ks (suc j) ≡ at i) × StandsIn (i + 1) (suc j)
    stands_next d = go (compare (suc j) m) (compared (suc j) m)
      where
        ended : m ≤ suc j → ⊥
        ended e = none_left (ks j) (at i) (rest at n (i + 1)) d (sym (ap (same_list (runs_after (ks j) (at i ∷ rest at n (i + 1)))) (rest_end ks m (suc j) e)) ∙ turned)

        go : (o : Ordering) → Compared o (suc j) m → (ks (suc j) ≡ at i) × StandsIn (i + 1) (suc j)
        go Ordering.lt l =
            let p = next_is (ks j) (at i) (rest at n (i + 1)) d (ks (suc j)) (rest ks m (suc (suc j)))
            (sym (ap (same_list (runs_after (ks j) (at i ∷ rest at n (i + 1)))) (rest_turn ks m (suc j) l ∙ ap (λ (k : ℕ). ks (suc j) ∷ rest ks m k) (add-one (suc j)))) ∙ turned) in
            (p.0, record { left = p.1; within = λ z. l })
        go Ordering.eq l = absurd (ended (omega arith))
        go Ordering.gt l = absurd (ended (omega arith))
