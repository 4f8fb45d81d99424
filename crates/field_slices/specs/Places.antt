-- Where an entry stands in a list that ascends, or before which entry it goes, for any order.
use Prim.{Unit}
use Rattle.std.specs.Prelude.{◌≡◌, List, [], ◌∷◌, Bool, true, ◌&&◌, ◌||◌, cond, ℕ, suc, ◌≤◌, ◌<◌, ltb, eqb, length, get_or, Result, Ok, Err}

-- ---- the order by key and then by name

-- the entries of two slices side by side, as many as the shorter has
unfoldable pub pairs : List ℕ → List ℕ → List (ℕ × ℕ)
pairs [] names = []
pairs (k ∷ keys) [] = []
pairs (k ∷ keys) (m ∷ names) = (k, m) ∷ pairs keys names

-- p comes before q: by the keys, and where they are the same by the names
unfoldable pub below : ℕ × ℕ → ℕ × ℕ → Bool
below p q = ltb p.0 q.0 || (eqb p.0 q.0 && ltb p.1 q.1)

-- ---- places, in the order that `less` tests: Ok of the index of an entry that is there, and Err of the one before which it goes, as Rust's `binary_search`
-- answers

-- one entry further on
abbrev pub further : Result ℕ ℕ → Result ℕ ℕ
further (Ok i) = Ok (suc i)
further (Err i) = Err (suc i)

module _ {A : Type 0} (less : A → A → Bool) where
  -- x comes before the first entry
  abbrev pub Leads : A → List A → Type 0
  Leads x [] = Unit
  Leads x (y ∷ l) = less x y ≡ true

  -- each entry comes before the next one
  unfoldable pub Ascending : List A → Type 0
  Ascending [] = Unit
  Ascending (x ∷ l) = Leads x l × Ascending l

  -- the first entry that is not below c decides: c is there, or goes before it; where there is none, c goes behind all of them
  unfoldable pub place_in : A → List A → Result ℕ ℕ
  place_in c [] = Err 0
  place_in c (x ∷ l) = cond (less x c) (further (place_in c l)) (cond (less c x) (Err 0) (Ok 0))

-- an entry that is said to be at an index is there, and no place is past the end
abbrev pub Inside : {A : Type 0} → List A → A → Result ℕ ℕ → Type 0
Inside l c (Ok i) = (i < length l) × (get_or l i c ≡ c)
Inside l c (Err i) = i ≤ length l

-- What a search says of c in l. A search that halves the list looks at a few entries alone, so where l does not ascend its answer hangs on
-- which ones those are, and no equation with a plain walk over l can hold. There it is still inside; where l ascends, it is the walk's.
pub record Found {A : Type 0} (less : A → A → Bool) (l : List A) (c : A) (r : Result ℕ ℕ) : Type 0 where
  pub inside : Inside l c r
  pub place : Ascending less l → r ≡ place_in less c l

-- each of the first i entries is below c, with d for an entry that is not there
abbrev pub FirstBelow : {A : Type 0} → (A → A → Bool) → A → A → List A → ℕ → Type 0
FirstBelow less d c l i = (j : ℕ) → j < i → less (get_or l j d) c ≡ true
