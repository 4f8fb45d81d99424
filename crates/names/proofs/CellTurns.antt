-- A cell filled byte by byte: what is stored, and a cell of what is left of the text, are together the cell of the whole text. A cell that is long enough begins with the text.
use mathlib.Core.Path.{◌≡◌, refl, ap}
use mathlib.Core.List.{List, [], ◌∷◌, ◌++◌, append-nil}
use Prim.Native.Nat.{ℕ, zero, suc, ◌+◌, ◌-◌, ◌≤◌, ◌<◌}
use native.Mathlib.Nat.{sub-zero, le_of_suc-le-suc, not-suc-le-zero}
use native.Mathlib.Omega.{arith}
use lib.ListN.{length, take, drop, set}
use lib.Seq.{take-suc-set, take-length, append_snoc}
use Rattle.ascii.specs.Bytes.{first}
use Rattle.names.specs.Packing.{cell_of}

-- the cell of n bytes, where the bytes before index i are stored and s is left
unfoldable pub filling : ℕ → List ℕ → ℕ → List ℕ → List ℕ
filling n cell i s = take i cell ++ cell_of (n - i) s

pub filling_first : (n : ℕ) (cell s : List ℕ) → filling n cell 0 s ≡ cell_of n s
unfolding filling
filling_first n cell s = rw sub-zero

cell_next : (n : ℕ) (s : List ℕ) → cell_of (suc n) s ≡ first s ∷ cell_of n (drop 1 s)
unfolding cell_of
cell_next n [] = refl
cell_next n (b ∷ s) = refl

pub filling_turn : (n : ℕ) (cell : List ℕ) (i : ℕ) (s : List ℕ) → length cell ≡ n → i < n → filling n (set cell i (first s)) (i + 1) (drop 1 s) ≡ filling n cell i s
unfolding filling
filling_turn n cell i s e h = rw (next, rest, take-suc-set cell i (first s) within, cell_next (n - suc i) s) (append_snoc (take i cell) (first s) (cell_of (n - suc i) (drop 1 s)))
  where
    next : i + 1 ≡ suc i
    next = omega arith

    rest : n - i ≡ suc (n - suc i)
    rest = omega arith

    within : i < length cell
    within = omega arith

pub filling_last : (n : ℕ) (cell : List ℕ) (i : ℕ) (s : List ℕ) → length cell ≡ n → i ≡ n → filling n cell i s ≡ cell
unfolding filling cell_of
filling_last n cell i s e f = rw (f, none, ← e, append-nil) (take-length cell)
  where
    none : n - n ≡ 0
    none = omega arith

pub cell_holds : (n : ℕ) (s : List ℕ) → length s ≤ n → take (length s) (cell_of n s) ≡ s
unfolding cell_of
cell_holds n [] h = refl
cell_holds zero (b ∷ s) h = absurd (not-suc-le-zero h)
cell_holds (suc n) (b ∷ s) h = ap (λ (t : List ℕ). b ∷ t) (cell_holds n s (le_of_suc-le-suc h))

pub cell_length : (n : ℕ) (s : List ℕ) → length (cell_of n s) ≡ n
unfolding cell_of
cell_length zero s = refl
cell_length (suc n) [] = ap suc (cell_length n [])
cell_length (suc n) (b ∷ s) = ap suc (cell_length n s)
