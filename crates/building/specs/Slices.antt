-- What a look for a chain says.
use Prim.{Unit}
use Rattle.std.specs.Prelude.{◌≡◌, false, List, [], ◌∷◌, ℕ, ◌≤◌, ◌<◌, eqb, length, get_or}
use Rattle.model.specs.Chains.{chain_place}
use Rattle.model.specs.Lists.{any}

-- no two are the same
abbrev pub Distinct : List ℕ → Type 0
Distinct [] = Unit {0}
Distinct (c ∷ l) = (any (eqb c) l ≡ false) × Distinct l

-- The search begins at the chain of the last run, so that where two are the same the answer need not be the first of them.
pub record ChainFound (l : List ℕ) (c r : ℕ) : Type 0 where
  pub inside : r ≤ length l
  pub there : r < length l → get_or l r 0 ≡ c
  pub place : Distinct l → r ≡ chain_place c l
