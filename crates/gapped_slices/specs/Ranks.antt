-- A search among so many entries that asks of each how it stands to the one that is looked for: less, the same, or greater.
use Rattle.std.specs.Prelude.{◌≡◌, ℕ, ◌<◌, ◌≤◌, Result, MatchResult}
use Rattle.std.specs.declared.cmp.Ordering.{Ordering}
use Rattle.std.specs.declared.cmp.Ordering.TheVariants.{Less, Equal, Greater}

-- each of n calls answers as `by` says
abbrev pub Ranks : (ℕ → Ordering → Type 0) → ℕ → (ℕ → Ordering) → Type 0
Ranks answers n by = (i : ℕ) (r : Ordering) → i < n → answers i r → r ≡ by i

-- P holds of what the calls answer
abbrev pub OfRanks : (ℕ → Ordering → Type 0) → ℕ → ((ℕ → Ordering) → Type 0) → Type 0
OfRanks answers n P = (by : ℕ → Ordering) → Ranks answers n by → P by

module _ (by : ℕ → Ordering) (n : ℕ) where
  -- all before one that is not greater are less
  abbrev pub Rises : Type 0
  Rises = (i j : ℕ) → i < j → j < n → (by j ≡ Greater → ⊥) → by i ≡ Less

  -- where they rise, all before the i-th are less
  abbrev pub FirstLess : ℕ → Type 0
  FirstLess i = Rises → (j : ℕ) → j < i → by j ≡ Less

  -- what is looked for belongs between lo and hi
  pub record Closes (lo hi : ℕ) : Type 0 where
    pub before : FirstLess lo
    pub behind : hi < n → by hi ≡ Greater

  -- it is found, or belongs where the search ends
  abbrev pub Sought : Result ℕ ℕ → Type 0
  Sought r = MatchResult r (λ i. (i < n) × (by i ≡ Equal)) (λ i. (i ≤ n) × Closes i i)
