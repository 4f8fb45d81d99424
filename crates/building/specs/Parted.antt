-- A map in two parts that share no key: what is found at a key is what one of them has there.
use Rattle.std.specs.Prelude.{◌≡◌, ◌⊎◌, ℕ, ◌+◌, length}
use Rattle.std.proofs.Math.Option.{Option, none, some}
use Rattle.model.specs.Map.{Map, find}

module _ {W : Type 0} where
  -- the one's, and where it has none the other's
  abbrev pub either_of : Option W → Option W → Option W
  either_of none other = other
  either_of (some w) other = some w

  pub record Parted (p q m : Map W) : Type 0 where
    pub apart : (k : ℕ) → (find k p ≡ none) ⊎ (find k q ≡ none)
    pub both : (k : ℕ) → find k m ≡ either_of (find k p) (find k q)
    pub many : length m ≡ length p + length q
