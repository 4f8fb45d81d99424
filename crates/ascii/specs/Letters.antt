-- Letters in either case.
use Rattle.std.specs.Prelude.{ℕ, ◌+◌, List, [], ◌∷◌, Bool, true, false, ◌&&◌, cond, leb, eqb}
use Rattle.ascii.specs.Bytes.{byte}

-- a byte with 'A' to 'Z' made small
abbrev pub lowercase : ℕ → ℕ
lowercase b = cond (leb (byte "A") b && leb b (byte "Z")) (b + 32) b

-- s and t are the same but for the case of their letters
unfoldable pub eq_ignore_case : List ℕ → List ℕ → Bool
eq_ignore_case [] [] = true
eq_ignore_case [] (c ∷ t) = false
eq_ignore_case (b ∷ s) [] = false
eq_ignore_case (b ∷ s) (c ∷ t) = eqb (lowercase b) (lowercase c) && eq_ignore_case s t
