-- Residues ascend strictly by their keys; so the residue of a key is the one that stands at its index, and its number counts it and those before it, which are
-- of its chain where the one before it is, and else of lesser chains.
use Prim.{tt}
use mathlib.Core.Path.{◌≡◌, refl, sym, ap, ◌∙◌}
use mathlib.Core.Bool.{Bool, true, false, ◌&&◌, cond, and-true, and-false}
use mathlib.Core.List.{List, [], ◌∷◌, ◌++◌, map, append_assoc}
use Prim.Native.Nat.{ℕ, zero, suc, ◌+◌, ◌-◌, ◌≤◌, ◌<◌, compare, Ordering}
use native.Mathlib.Nat.{zero-add}
use native.Mathlib.Omega.{arith}
use lib.Dec.{eqb, leb}
use lib.ListN.{length, length-append}
use borrow.Author.Tests.{eqb-true, eqb-false, eq-eqb, ne_eqb, le-leb, lt-leb}
use Rattle.numbers.proofs.Comparing.{Compared, compared}
use Rattle.names.specs.Places.{ascends}
use Rattle.model.specs.Keys.{chain_part}
use Rattle.model.specs.Lent.{list_from}
use Rattle.model.specs.Lists.{filter, All, count}
use Rattle.model.specs.Records.{ResidueRecord}
use Rattle.model.specs.Termini.{is_polymer}
use Rattle.model.proofs.AscendingLaws.{ascends_all, ascends_before, ascends_from}
use Rattle.model.proofs.ListLaws.{all_map, all_append, filter_append, filter_same}
use Rattle.writer.specs.Text.{number_in, residue_for}
use Rattle.writer.proofs.ListsByIndex.{from_split, from_all}

abbrev Keyed : List ResidueRecord → Type 0
Keyed l = ascends (map (λ r. r.key) l) ≡ true

-- ---- the residue of a key
module _ (at : ℕ → ResidueRecord) where
  for_from : (i k j : ℕ) → Keyed (list_from at i k) → i ≤ j → j < i + k → residue_for (list_from at i k) (at j).key ≡ at j
  unfolding list_from residue_for
  for_from i zero j a g h = absurd (omega arith)
  for_from i (suc k) j a g h = go (compare i j) (compared i j) (λ l. for_from (suc i) k j (ascends_all (λ r. r.key) (at i) (list_from at (suc i) k) a).1 l (omega arith))
    where
      go : (o : Ordering) → Compared o i j → (suc i ≤ j → residue_for (list_from at (suc i) k) (at j).key ≡ at j)
          → cond (eqb (at i).key (at j).key) (at i) (residue_for (list_from at (suc i) k) (at j).key) ≡ at j
      go Ordering.lt l f =
          let less = from_all at (λ t. (at i).key < t.key) (suc i) k j (ascends_all (λ r. r.key) (at i) (list_from at (suc i) k) a).0 (omega arith) (omega arith) in
          rw (ne_eqb (at i).key (at j).key (λ e. omega arith)) (f (omega arith))
      go Ordering.eq l f = rw (eq-eqb (at i).key (at j).key (ap (λ (n : ℕ). (at n).key) l)) (ap at l)
      go Ordering.gt l f = absurd (omega arith)

  pub residue_is : (m j : ℕ) → Keyed (list_from at 0 m) → j < m → residue_for (list_from at 0 m) (at j).key ≡ at j
  residue_is m j a h = for_from 0 m j a (omega arith) (omega arith)

-- ---- its number

-- a polymer residue of a chain
abbrev is_in : ℕ → ResidueRecord → Bool
is_in chain t = is_polymer t.code && eqb (chain_part t.key) chain

abbrev in_chain : ℕ → List ResidueRecord → ℕ
in_chain chain l = length (filter (is_in chain) l)

filter_none : (p : ResidueRecord → Bool) (l : List ResidueRecord) → All (λ t. p t ≡ false) l → filter p l ≡ []
filter_none p [] a = refl
filter_none p (t ∷ l) a = rw a.0 (filter_none p l a.1)

count_is : (b : Bool) (t : ResidueRecord) → length (cond b (t ∷ []) []) ≡ count b
count_is true t = refl
count_is false t = refl

module _ (before : List ResidueRecord) (r : ResidueRecord) (after : List ResidueRecord) (a : Keyed (before ++ r ∷ after)) where
  abbrev counted : ResidueRecord → Bool
  counted t = is_in (chain_part r.key) t && leb t.key r.key

  passed : filter counted before ≡ filter (is_in (chain_part r.key)) before
  passed =
      filter_same (λ t. t.key < r.key) counted (is_in (chain_part r.key))
      (λ t h. rw (le-leb t.key r.key (omega arith)) (and-true (is_in (chain_part r.key) t)))
      before
      (ascends_before (λ t. t.key) before r after a)

  itself : counted r ≡ is_polymer r.code
  itself =
      rw (le-leb r.key r.key (omega arith), eq-eqb (chain_part r.key) (chain_part r.key) refl)
      (and-true (is_polymer r.code && true) ∙ and-true (is_polymer r.code))

  behind : filter counted after ≡ []
  behind =
      filter_none counted after
      (all_map (λ t. r.key < t.key) (λ t. counted t ≡ false)
      (λ t h. rw (lt-leb t.key r.key h) (and-false (is_in (chain_part r.key) t)))
      after
      (ascends_all (λ t. t.key) r after (ascends_from (λ t. t.key) before (r ∷ after) a)).0)

  -- how many there are before it, and itself
  number_is : number_in (before ++ r ∷ after) r.key ≡ in_chain (chain_part r.key) before + count (is_polymer r.code)
  unfolding number_in
  number_is =
      ap length (filter_append counted before (r ∷ after))
      ∙ length-append (filter counted before) (filter counted (r ∷ after))
      ∙ ap (λ (l : List ResidueRecord). length l + length (filter counted (r ∷ after))) passed
      ∙ ap (λ (l : List ResidueRecord). in_chain (chain_part r.key) before + length (cond (counted r) (r ∷ l) l)) behind
      ∙ ap (λ (b : Bool). in_chain (chain_part r.key) before + length (cond b (r ∷ []) [])) itself
      ∙ ap (λ (n : ℕ). in_chain (chain_part r.key) before + n) (count_is (is_polymer r.code) r)

number_first : (r : ResidueRecord) (after : List ResidueRecord) → Keyed (r ∷ after) → number_in (r ∷ after) r.key ≡ count (is_polymer r.code)
number_first r after a = number_is [] r after a ∙ zero-add (count (is_polymer r.code))

module _ (before : List ResidueRecord) (r s : ResidueRecord) (after : List ResidueRecord) (a : Keyed (before ++ r ∷ s ∷ after)) where
  abbrev one : List ResidueRecord
  one = r ∷ []

  regroup : (before ++ one) ++ s ∷ after ≡ before ++ r ∷ s ∷ after
  regroup = append_assoc before one (s ∷ after)

  regrouped : Keyed ((before ++ one) ++ s ∷ after)
  regrouped = ap (λ (l : List ResidueRecord). ascends (map (λ t. t.key) l)) regroup ∙ a

  same_chain : chain_part s.key ≡ chain_part r.key → in_chain (chain_part s.key) (before ++ one) ≡ number_in (before ++ r ∷ s ∷ after) r.key
  same_chain e =
      ap length (filter_append (is_in (chain_part s.key)) before one)
      ∙ length-append (filter (is_in (chain_part s.key)) before) (filter (is_in (chain_part s.key)) one)
      ∙ ap (λ (c : ℕ). in_chain c before + length (filter (is_in c) one)) e
      ∙ ap (λ (t : Bool). in_chain (chain_part r.key) before + length (cond (is_polymer r.code && t) one [])) (eq-eqb (chain_part r.key) (chain_part r.key) refl)
      ∙ ap (λ (t : Bool). in_chain (chain_part r.key) before + length (cond t one [])) (and-true (is_polymer r.code))
      ∙ ap (λ (n : ℕ). in_chain (chain_part r.key) before + n) (count_is (is_polymer r.code) r)
      ∙ sym (number_is before r (s ∷ after) a)

  other_chain : (chain_part s.key ≡ chain_part r.key → ⊥) → in_chain (chain_part s.key) (before ++ one) ≡ 0
  other_chain d = ap length (filter_none (is_in (chain_part s.key)) (before ++ one) none)
    where
      below : r.key < s.key
      below = (ascends_all (λ t. t.key) r (s ∷ after) (ascends_from (λ t. t.key) before (r ∷ s ∷ after) a)).0.0

      lesser : (t : ResidueRecord) → t.key ≤ r.key → is_in (chain_part s.key) t ≡ false
      lesser t h =
          let c : chain_part t.key ≤ chain_part r.key = omega arith in
          let e : chain_part r.key ≤ chain_part s.key = omega (arith, below) in
          rw (ne_eqb (chain_part t.key) (chain_part s.key) (λ q. d (omega arith))) (and-false (is_polymer t.code))

      none : All (λ t. is_in (chain_part s.key) t ≡ false) (before ++ one)
      none =
          all_append (λ t. is_in (chain_part s.key) t ≡ false) before one
          (all_map (λ t. t.key < r.key) (λ t. is_in (chain_part s.key) t ≡ false) (λ t h. lesser t (omega arith)) before (ascends_before (λ t. t.key) before r (s ∷ after) a))
          (lesser r (omega arith), tt)

  number_next : number_in (before ++ r ∷ s ∷ after) s.key ≡ cond (eqb (chain_part s.key) (chain_part r.key)) (number_in (before ++ r ∷ s ∷ after) r.key) 0 + count (is_polymer s.code)
  number_next =
      ap (λ (l : List ResidueRecord). number_in l s.key) (sym regroup)
      ∙ number_is (before ++ one) s after regrouped
      ∙ ap (λ (n : ℕ). n + count (is_polymer s.code)) (go (eqb (chain_part s.key) (chain_part r.key)) refl)
    where
      go : (t : Bool) → eqb (chain_part s.key) (chain_part r.key) ≡ t → in_chain (chain_part s.key) (before ++ one) ≡ cond t (number_in (before ++ r ∷ s ∷ after) r.key) 0
      go true e = same_chain (eqb-true _ _ e)
      go false e = other_chain (eqb-false _ _ e)

-- ---- by index
module _ (at : ℕ → ResidueRecord) (m : ℕ) (a : Keyed (list_from at 0 m)) where
  abbrev all : List ResidueRecord
  all = list_from at 0 m

  pub number_at_first : 0 < m → number_in all (at 0).key ≡ count (is_polymer (at 0).code)
  unfolding list_from
  number_at_first h =
      let some : m ≡ suc (m - 1) = omega arith in
      let split = ap (list_from at 0) some in
      ap (λ (l : List ResidueRecord). number_in l (at 0).key) split
      ∙ number_first (at 0) (list_from at 1 (m - 1)) (ap (λ (l : List ResidueRecord). ascends (map (λ t. t.key) l)) (sym split) ∙ a)

  pub number_at_next : (j : ℕ) → suc j < m
      → number_in all (at (suc j)).key ≡ cond (eqb (chain_part (at (suc j)).key) (chain_part (at j).key)) (number_in all (at j).key) 0 + count (is_polymer (at (suc j)).code)
  unfolding list_from
  number_at_next j h =
      let e = m - suc (suc j) in
      let some : m ≡ j + suc (suc e) = omega arith in
      let split : all ≡ list_from at 0 j ++ at j ∷ at (suc j) ∷ list_from at (suc (suc j)) e =
      ap (list_from at 0) some ∙ from_split at 0 j (suc (suc e)) ∙ ap (λ (k : ℕ). list_from at 0 j ++ list_from at k (suc (suc e))) (zero-add j) in
      ap (λ (l : List ResidueRecord). number_in l (at (suc j)).key) split
      ∙ number_next (list_from at 0 j) (at j) (at (suc j)) (list_from at (suc (suc j)) e) (ap (λ (l : List ResidueRecord). ascends (map (λ t. t.key) l)) (sym split) ∙ a)
      ∙ ap (λ (l : List ResidueRecord). cond (eqb (chain_part (at (suc j)).key) (chain_part (at j).key)) (number_in l (at j).key) 0 + count (is_polymer (at (suc j)).code)) (sym split)
