-- The search for a name among the first so many records, which begins at `first` and goes round: each place is its k-th for some k.
use Prim.{Dec, yes, no}
use mathlib.Core.Path.{◌≡◌, refl, sym, ◌∙◌, ap}
use mathlib.Core.List.{List}
use Prim.Native.Nat.{ℕ, ◌+◌, ◌-◌, ◌≤◌, ◌<◌, min}
use native.Mathlib.Decide.{dec_lt}
use native.Mathlib.Omega.{arith}
use lib.ListN.{length, get_or, take, length-take, length-map, get_or-map}
use lib.Seq.{get_or-take}
use borrow.Author.Tests.{lt-ltb, le-ltb}
use Rattle.std.proofs.Common.{below_more}
use Rattle.building.specs.Slices.{ChainFound}
use Rattle.building.proofs.ChainLaws.{stands, stands_nowhere}
use Rattle.chains.specs.declared.chain.Chain.{Chain}
use Rattle.chains.specs.Names.{names_in, chain_of}
use Rattle.chains.specs.Places.{round_at}

-- ---- the k-th place: on from the first, then from the start, and past the last k itself
module _ (many first k : ℕ) where
  pub round_on : k < many → k < many - first → round_at many first k ≡ first + k
  unfolding round_at
  round_on h a = rw (lt-ltb k many h, lt-ltb k (many - first) a) refl

  pub round_again : k < many → many - first ≤ k → round_at many first k ≡ k - (many - first)
  unfolding round_at
  round_again h a = rw (lt-ltb k many h, le-ltb k (many - first) a) refl

  pub round_past : many ≤ k → round_at many first k ≡ k
  unfolding round_at
  round_past h = rw (le-ltb k many h) refl

  pub round_inside : k < many → round_at many first k < many
  round_inside h = go (dec_lt k (many - first))
    where
      go : Dec (k < many - first) → round_at many first k < many
      go (yes a) = omega (arith, h, a, round_on h a)
      go (no a) = omega (arith, h, round_again h (omega (arith, a)))

-- each place is the k-th for some k
round_meets : (many first i : ℕ) → i < many → (k : ℕ) × ((k < many) × (round_at many first k ≡ i))
round_meets many first i h = go (dec_lt first many) (dec_lt i first)
  where
    go : Dec (first < many) → Dec (i < first) → (k : ℕ) × ((k < many) × (round_at many first k ≡ i))
    go (no a) b = (i, (h, omega (arith, h, a, round_again many first i h (omega (arith, a)))))
    go (yes a) (yes b) = (i + (many - first), (omega (arith, a, b), omega (arith, a, b, round_again many first (i + (many - first)) (omega (arith, a, b)) (omega arith))))
    go (yes a) (no b) = (i - first, (omega (arith, h, b), omega (arith, a, b, h, round_on many first (i - first) (omega (arith, h, b)) (omega (arith, h, a, b)))))

-- ---- the search: none of the first k places has the name
abbrev pub Missed : List ℕ → ℕ → ℕ → ℕ → Type 0
Missed l name first k = (j : ℕ) → j < k → get_or l (round_at (length l) first j) 0 ≡ name → ⊥

pub none_found : (l : List ℕ) (name first : ℕ) → Missed l name first (length l) → ChainFound l name (length l)
none_found l name first none = stands_nowhere name l nowhere
  where
    nowhere : (i : ℕ) → i < length l → get_or l i 0 ≡ name → ⊥
    nowhere i h q =
        let m = round_meets (length l) first i h in
        none m.0 m.1.0 (ap (λ (p : ℕ). get_or l p 0) m.1.1 ∙ q)

-- ---- the names of the first so many records
pub length_first : (many : ℕ) (chains : List Chain) → length (take many (names_in chains)) ≡ min many (length chains)
length_first many chains = length-take many (names_in chains) ∙ ap (min many) (length-map chains (λ c. c.name))

pub name_first : (many : ℕ) (chains : List Chain) (i : ℕ) → i < many → get_or (take many (names_in chains)) i 0 ≡ (get_or chains i (chain_of 0)).name
name_first many chains i h = get_or-take many (names_in chains) i 0 h ∙ get_or-map (λ (c : Chain). c.name) chains i (chain_of 0)

-- ---- the k-th place of a search among them
module _ (chains : List Chain) (many last count k i : ℕ) (size : count ≡ min many (length chains)) (less : k < count) (at : i ≡ round_at count last k) where
  counted : count ≡ length (take many (names_in chains))
  counted = size ∙ sym (length_first many chains)

  turned : i ≡ round_at (length (take many (names_in chains))) last k
  turned = at ∙ ap (λ (n : ℕ). round_at n last k) counted

  among : i < length (take many (names_in chains))
  among = omega (arith, turned, round_inside (length (take many (names_in chains))) last k (omega (arith, counted)))

  pub inside : i < length chains
  inside = omega (arith, among, length_first many chains)

  name_there : get_or (take many (names_in chains)) i 0 ≡ (get_or chains i (chain_of 0)).name
  name_there = name_first many chains i (omega (arith, among, length_first many chains))

  pub found_there : (name : ℕ) → (get_or chains i (chain_of 0)).name ≡ name → ChainFound (take many (names_in chains)) name i
  found_there name e = stands name (take many (names_in chains)) i among (name_there ∙ e)

  pub missed_there : (name : ℕ) → Missed (take many (names_in chains)) name last k → ((get_or chains i (chain_of 0)).name ≡ name → ⊥) → Missed (take many (names_in chains)) name last (k + 1)
  missed_there name none e = below_more _ _ none (λ q. e (sym name_there ∙ ap (λ (n : ℕ). get_or (take many (names_in chains)) n 0) turned ∙ q))
