-- A name of at most 8 bytes as one number: the first byte highest, zeros after the end. The order of the numbers is the order of the names.
use Rattle.std.specs.Prelude.{ℕ, zero, suc, ◌+◌, ◌*◌, ◌/◌, ◌%◌, ◌^◌, ◌≤◌, ◌<◌, ◌≡◌, ◌⊎◌, List, [], ◌∷◌, length, get_or}

-- a name: at most 8 bytes, each from 1 to 255
pub record IsName (s : List ℕ) : Type 0 where
  pub short : length s ≤ 8
  pub bytes : (i : ℕ) → i < length s → (1 ≤ get_or s i 0) × (get_or s i 0 ≤ 255)

-- the first k bytes of s as one number, zeros after the end
unfoldable pub packed_in : ℕ → List ℕ → ℕ
packed_in zero s = 0
packed_in (suc k) [] = 0
packed_in (suc k) (b ∷ s) = b * 256 ^ k + packed_in k s

abbrev pub packed : List ℕ → ℕ
packed s = packed_in 8 s

-- the k bytes of a number, the highest first, up to the last that is not 0
unfoldable pub unpacked_in : ℕ → ℕ → List ℕ
unpacked_in zero n = []
unpacked_in (suc k) zero = []
unpacked_in (suc k) (suc n) = suc n / 256 ^ k ∷ unpacked_in k (suc n % 256 ^ k)

abbrev pub unpacked : ℕ → List ℕ
unpacked n = unpacked_in 8 n

-- a cell of n bytes with s in it from the start: zeros after the end of s, and of a longer s the first n bytes
unfoldable pub cell_of : ℕ → List ℕ → List ℕ
cell_of zero s = []
cell_of (suc n) [] = 0 ∷ cell_of n []
cell_of (suc n) (b ∷ s) = b ∷ cell_of n s

-- s comes before t: it has the lesser byte where they first differ, or ends there
unfoldable pub Before : List ℕ → List ℕ → Type 0
Before [] [] = ⊥
Before [] (c ∷ t) = Unit {0}
Before (b ∷ s) [] = ⊥
Before (b ∷ s) (c ∷ t) = (b < c) ⊎ ((b ≡ c) × Before s t)
