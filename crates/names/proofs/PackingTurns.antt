-- Packing and unpacking byte by byte: what one byte more makes of the number, and what a number is without its first byte.
use mathlib.Core.Path.{◌≡◌, refl, sym, ap, ◌∙◌}
use mathlib.Core.List.{List, [], ◌∷◌}
use Prim.Native.Nat.{ℕ, zero, suc, ◌+◌, ◌-◌, ◌*◌, ◌/◌, ◌%◌, ◌^◌, ◌≤◌, ◌<◌, suc-le-suc}
use native.Mathlib.Nat.{zero-mul, zero-add, add-zero, add_assoc, add-mul, mul_assoc, mul_comm, pow-suc, pow-le-pow_right, zero-div, zero-mod, mod-lt, mul-mod_left, mul-div_left, mul-div-mul_right, lt_of_lt_of_le, le_refl}
use native.Mathlib.Omega.{arith}
use lib.Arith.{lt-one, digits_lt, mod-mul}
use lib.Dec.{lit<}
use lib.ListN.{length, get_or, drop}
use Rattle.ascii.specs.Bytes.{first}
use Rattle.names.specs.Packing.{packed_in, packed, unpacked_in, unpacked}

pub some_room : (k : ℕ) → 0 < 256 ^ k
some_room k = pow-le-pow_right (lit< tt) {i = 0} {j = k} (omega arith)

-- ---- packing
packed_none : (k : ℕ) → packed_in k [] ≡ 0
unfolding packed_in
packed_none zero = refl
packed_none (suc k) = refl

packed_next : (k : ℕ) (s : List ℕ) (i : ℕ) → packed_in (suc k) (drop i s) ≡ get_or s i 0 * 256 ^ k + packed_in k (drop (suc i) s)
unfolding packed_in
packed_next k [] zero = sym (rw (zero-mul, zero-add) (packed_none k))
packed_next k [] (suc i) = sym (rw (zero-mul, zero-add) (packed_none k))
packed_next k (b ∷ s) zero = refl
packed_next k (b ∷ s) (suc i) = packed_next k s i

-- the whole number, where n is made of the bytes before index i
unfoldable pub onward : ℕ → List ℕ → ℕ → ℕ
onward n s i = n * 256 ^ (8 - i) + packed_in (8 - i) (drop i s)

pub onward_first : (s : List ℕ) → onward 0 s 0 ≡ packed s
unfolding onward
onward_first s = rw (zero-mul, zero-add)

pub onward_turn : (n : ℕ) (s : List ℕ) (i : ℕ) → i < 8 → onward (n * 256 + get_or s i 0) s (i + 1) ≡ onward n s i
unfolding onward
onward_turn n s i h = rw (next, rest) (go (8 - suc i))
  where
    next : i + 1 ≡ suc i
    next = omega arith

    rest : 8 - i ≡ suc (8 - suc i)
    rest = omega arith

    go : (k : ℕ) → (n * 256 + get_or s i 0) * 256 ^ k + packed_in k (drop (suc i) s) ≡ n * 256 ^ suc k + packed_in (suc k) (drop i s)
    go k = rw (pow-suc, packed_next k s i, add-mul, mul_assoc, mul_comm 256 (256 ^ k), add_assoc)

pub onward_last : (n : ℕ) (s : List ℕ) (i : ℕ) → i ≡ 8 → onward n s i ≡ n
unfolding onward packed_in
onward_last n s i e = rw e (omega arith)

pub one_more : (n i b : ℕ) → n < 256 ^ i → b < 256 → n * 256 + b < 256 ^ (i + 1)
one_more n i b h k = rw (next, pow-suc) (digits_lt h k)
  where
    next : i + 1 ≡ suc i
    next = omega arith

pub room : (n i b : ℕ) → n < 256 ^ i → i < 8 → b < 256 → n * 256 + b < 2 ^ 64
room n i b h k l = lt_of_lt_of_le (one_more n i b h l) (pow-le-pow_right {n = 256} (lit< tt) {i = i + 1} {j = 8} (omega arith))

-- ---- unpacking
pub unpacked_none : (k : ℕ) → unpacked_in k 0 ≡ []
unfolding unpacked_in
unpacked_none zero = refl
unpacked_none (suc k) = refl

pub unpacked_some : (k n : ℕ) → (n ≡ 0 → ⊥) → unpacked_in (suc k) n ≡ n / 256 ^ k ∷ unpacked_in k (n % 256 ^ k)
unfolding unpacked_in
unpacked_some k zero h = absurd (h refl)
unpacked_some k (suc n) h = refl

pub unpacked_first : (k n : ℕ) → first (unpacked_in (suc k) n) ≡ n / 256 ^ k
unfolding unpacked_in
unpacked_first k zero = sym (zero-div (256 ^ k))
unpacked_first k (suc n) = refl

unpacked_rest : (k n : ℕ) → drop 1 (unpacked_in (suc k) n) ≡ unpacked_in k (n % 256 ^ k)
unfolding unpacked_in
unpacked_rest k zero = sym (rw zero-mod (unpacked_none k))
unpacked_rest k (suc n) = refl

shifted_rest : (n : ℕ) {m : ℕ} → 0 < m → n * 256 % (m * 256) ≡ n % m * 256
shifted_rest n h = mod-mul (n * 256) h (lit< tt) ∙ rw (mul-div_left n {n = 256} (lit< tt), mul-mod_left, add-zero)

-- a zero at the end is no byte of the name
unpacked_shifted : (k n : ℕ) → n < 256 ^ k → unpacked_in (suc k) (n * 256) ≡ unpacked_in k n
unfolding unpacked_in
unpacked_shifted zero n h = rw (lt-one h)
unpacked_shifted (suc k) zero h = refl
unpacked_shifted (suc k) (suc n) h =
    unpacked_some (suc k) (suc n * 256) (some n)
    ∙ rw (pow-suc, mul-div-mul_right {m = 256} (suc n) (256 ^ k) (lit< tt), shifted_rest (suc n) (some_room k))
    (ap (λ (l : List ℕ). suc n / 256 ^ k ∷ l) (unpacked_shifted k (suc n % 256 ^ k) (mod-lt (suc n) (some_room k))))
  where
    some : (n : ℕ) → suc n * 256 ≡ 0 → ⊥
    some n e = omega arith

pub unpacked_after : (n : ℕ) → unpacked (n % 256 ^ 7 * 256) ≡ drop 1 (unpacked n)
unpacked_after n = unpacked_shifted 7 (n % 256 ^ 7) (mod-lt n (lit< tt)) ∙ sym (unpacked_rest 7 n)

pub unpacked_short : (k n : ℕ) → length (unpacked_in k n) ≤ k
unfolding unpacked_in
unpacked_short zero n = le_refl 0
unpacked_short (suc k) zero = omega arith
unpacked_short (suc k) (suc n) = suc-le-suc (unpacked_short k (suc n % 256 ^ k))

-- a name that has bytes has a first one in front of the others
pub first_in_front : (n : ℕ) → (n ≡ 0 → ⊥) → unpacked n ≡ first (unpacked n) ∷ drop 1 (unpacked n)
first_in_front n h = rw (unpacked_some 7 n h)

pub one_less : (n m : ℕ) → (n ≡ 0 → ⊥) → unpacked m ≡ drop 1 (unpacked n) → length (unpacked n) ≡ suc (length (unpacked m))
one_less n m h e = rw (e, unpacked_some 7 n h)
