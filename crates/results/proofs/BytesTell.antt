-- Four bytes tell a number below 2 ^ 32 whole: each is a digit of it in base 256.
use mathlib.Core.Path.{◌≡◌, refl, subst}
use mathlib.Core.List.{List, [], ◌∷◌}
use Prim.Native.Nat.{ℕ, ◌+◌, ◌*◌, ◌/◌, ◌%◌, ◌^◌, ◌<◌}
use native.Mathlib.Nat.{div-div-eq-div-mul}
use native.Mathlib.Omega.{arith}
use Rattle.model.specs.Lists.{All}
use Rattle.results.specs.Results.{bytes_of}

-- the number of each four bytes, the lowest first
abbrev pub numbers_told : List ℕ → List ℕ
numbers_told [] = []
numbers_told (a ∷ []) = []
numbers_told (a ∷ b ∷ []) = []
numbers_told (a ∷ b ∷ c ∷ []) = []
numbers_told (a ∷ b ∷ c ∷ d ∷ s) = (a + 256 * b + 65536 * c + 16777216 * d) ∷ numbers_told s

lowest : (n : ℕ) → n % 256 + 256 * (n / 256) ≡ n
lowest n = omega arith

highest : (n : ℕ) → n < 256 → n % 256 ≡ n
highest n h = omega arith

joined : (n a p b q c r d : ℕ) → a + 256 * p ≡ n → b + 256 * q ≡ p → c + 256 * r ≡ q → d ≡ r → a + 256 * b + 65536 * c + 16777216 * d ≡ n
joined n a p b q c r d e f g h = omega arith

told : (n : ℕ) → n < 2 ^ 32 → n % 256 + 256 * (n / 2 ^ 8 % 256) + 65536 * (n / 2 ^ 16 % 256) + 16777216 * (n / 2 ^ 24 % 256) ≡ n
told n h =
    joined n (n % 256) (n / 256) (n / 256 % 256) (n / 65536) (n / 65536 % 256) (n / 16777216) (n / 16777216 % 256)
    (lowest n)
    (subst (λ (q : ℕ). n / 256 % 256 + 256 * q ≡ n / 256) (div-div-eq-div-mul n 256 256) (lowest (n / 256)))
    (subst (λ (q : ℕ). n / 65536 % 256 + 256 * q ≡ n / 65536) (div-div-eq-div-mul n 65536 256) (lowest (n / 65536)))
    (highest (n / 16777216) (omega arith))

-- ---- the theorem
pub bytes_tell : (numbers : List ℕ) → All (λ n. n < 2 ^ 32) numbers → numbers_told (bytes_of numbers) ≡ numbers
unfolding bytes_of
bytes_tell [] h = refl
bytes_tell (n ∷ numbers) h = λ i. told n h.0 i ∷ bytes_tell numbers h.1 i
