-- The chain list, a list of chain records, and the names in it.
use Rattle.std.specs.Prelude.{ℕ, min, List, ◌++◌, map, length, take, drop, replicate}
use denote.Triple.Both.{Both}
use Rattle.field_slices.specs.Slice.{Slice}
use Rattle.chains.specs.declared.chain.Chain.{Chain}

abbrev pub names_in : List Chain → List ℕ
names_in chains = map (λ c. c.name) chains

-- those of a lent slice, and the first so many of a lent array, at a function's entry and at its exit
abbrev pub names_at : Slice Chain → Both (List ℕ) (List ℕ)
names_at chains = record { entry = names_in chains.entry.now; exit = names_in chains.exit.now }

abbrev pub first_at : ℕ → Slice ℕ → Both (List ℕ) (List ℕ)
first_at size names = record { entry = take size names.entry.now; exit = take size names.exit.now }

abbrev pub chain_of : ℕ → Chain
chain_of name = record { name = name }

-- the first n of a list, zeros where there are fewer
unfoldable pub first_of : ℕ → List ℕ → List ℕ
first_of n l = take n (l ++ replicate n 0)

-- the first 4,096 names, over those that stood there
unfoldable pub taken_over : List ℕ → List ℕ → List ℕ
taken_over l names = take 4096 l ++ drop (length l) names

-- the first so many records with these names
unfoldable pub named : List Chain → List ℕ → ℕ → List Chain
named chains names count = map chain_of (first_of (min count (length chains)) names) ++ drop count chains
