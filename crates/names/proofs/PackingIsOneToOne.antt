-- Packing loses nothing: a packed name unpacks to itself, two names with one number are one name, and every number of 8 bytes is packed of its own bytes.
use mathlib.Core.Path.{◌≡◌, refl, sym, ap, ◌∙◌, subst}
use mathlib.Core.List.{List, [], ◌∷◌}
use Prim.Native.Nat.{ℕ, zero, suc, ◌+◌, ◌*◌, ◌/◌, ◌%◌, ◌^◌, ◌≤◌, ◌<◌, suc-le-suc}
use native.Mathlib.Nat.{pow-succ', mod-lt, div-add-mod', mul-pos, lt_of_lt_of_le, le-add_right, le_of_suc-le-suc, not-suc-le-zero, zero-lt-suc, suc-ne-zero}
use native.Mathlib.Decide.{ℕ_discrete}
use native.Mathlib.Omega.{arith}
use lib.Arith.{lt-one, digits_lt, digits_div, digits_mod}
use lib.Dec.{lit<}
use lib.ListN.{length, get_or}
use Rattle.names.specs.Packing.{IsName, packed_in, packed, unpacked_in, unpacked}
use Rattle.names.proofs.PackingTurns.{some_room, unpacked_some}

-- each byte of s is at most 255
abbrev pub Bytes : List ℕ → Type 0
Bytes s = (i : ℕ) → i < length s → get_or s i 0 ≤ 255

-- each byte of s is from 1 to 255
abbrev pub Letters : List ℕ → Type 0
Letters s = (i : ℕ) → i < length s → (1 ≤ get_or s i 0) × (get_or s i 0 ≤ 255)

pub below : (k : ℕ) (s : List ℕ) → Bytes s → packed_in k s < 256 ^ k
unfolding packed_in
below zero s h = lit< tt
below (suc k) [] h = some_room (suc k)
below (suc k) (b ∷ s) h = rw pow-succ' (digits_lt (suc-le-suc (h 0 (zero-lt-suc (length s)))) (below k s (λ i l. h (suc i) (suc-le-suc l))))

pub packed_fits : (s : List ℕ) → Bytes s → packed s < 2 ^ 64
packed_fits s h = below 8 s h

some_byte : (b p x : ℕ) → 1 ≤ b → 0 < p → b * p + x ≡ 0 → ⊥
some_byte b p x h k e = absurd (not-suc-le-zero (subst (λ (n : ℕ). 0 < n) e (lt_of_lt_of_le (mul-pos h k) (le-add_right (b * p) x))))

-- the bytes of a number that is made of a byte and the rest
some_unpacked : (k b : ℕ) (s : List ℕ) → Bytes s → (packed_in (suc k) (b ∷ s) ≡ 0 → ⊥) → unpacked_in (suc k) (packed_in (suc k) (b ∷ s)) ≡ b ∷ unpacked_in k (packed_in k s)
unfolding packed_in
some_unpacked k b s h some = unpacked_some k (b * 256 ^ k + packed_in k s) some ∙ rw (digits_div b {m = 256 ^ k} (below k s h), digits_mod b {m = 256 ^ k} (below k s h))

pub unpacked_packed_in : (k : ℕ) (s : List ℕ) → length s ≤ k → Letters s → unpacked_in k (packed_in k s) ≡ s
unfolding packed_in unpacked_in
unpacked_packed_in zero [] h l = refl
unpacked_packed_in zero (b ∷ s) h l = absurd (not-suc-le-zero h)
unpacked_packed_in (suc k) [] h l = refl
unpacked_packed_in (suc k) (b ∷ s) h l =
    some_unpacked k b s (λ i j. (l (suc i) (suc-le-suc j)).1) (some_byte b (256 ^ k) (packed_in k s) (l 0 (zero-lt-suc (length s))).0 (some_room k))
    ∙ ap (λ (t : List ℕ). b ∷ t) (unpacked_packed_in k s (le_of_suc-le-suc h) (λ i j. l (suc i) (suc-le-suc j)))

pub unpacked_packed : (s : List ℕ) → IsName s → unpacked (packed s) ≡ s
unpacked_packed s h = unpacked_packed_in 8 s h.short h.bytes

pub one_to_one : (s t : List ℕ) → IsName s → IsName t → packed s ≡ packed t → s ≡ t
one_to_one s t h k e = sym (unpacked_packed s h) ∙ ap unpacked e ∙ unpacked_packed t k

-- a text that has as many bytes as its number has lost none
whole_in : (k : ℕ) (s : List ℕ) → Bytes s → length (unpacked_in k (packed_in k s)) ≡ length s → unpacked_in k (packed_in k s) ≡ s
unfolding packed_in unpacked_in
whole_in zero [] h e = refl
whole_in zero (b ∷ s) h e = absurd (suc-ne-zero (length s) (sym e))
whole_in (suc k) [] h e = refl
whole_in (suc k) (b ∷ s) h e = go (ℕ_discrete (packed_in (suc k) (b ∷ s)) 0) (λ f. whole_in k s (λ i l. h (suc i) (suc-le-suc l)) f)
  where
    one_less : (m n : ℕ) → suc m ≡ suc n → m ≡ n
    one_less m n f = omega arith

    go : Dec (packed_in (suc k) (b ∷ s) ≡ 0) → (length (unpacked_in k (packed_in k s)) ≡ length s → unpacked_in k (packed_in k s) ≡ s) → unpacked_in (suc k) (packed_in (suc k) (b ∷ s)) ≡ b ∷ s
    go (yes none) rest = absurd (suc-ne-zero (length s) (sym e ∙ ap (λ (n : ℕ). length (unpacked_in (suc k) n)) none))
    go (no some) rest =
        let all = some_unpacked k b s (λ i l. h (suc i) (suc-le-suc l)) some in
        all ∙ ap (λ (t : List ℕ). b ∷ t) (rest (one_less (length (unpacked_in k (packed_in k s))) (length s) (sym (ap length all) ∙ e)))

pub whole : (s : List ℕ) → Bytes s → length (unpacked (packed s)) ≡ length s → unpacked (packed s) ≡ s
whole s h e = whole_in 8 s h e

pub packed_unpacked_in : (k n : ℕ) → n < 256 ^ k → packed_in k (unpacked_in k n) ≡ n
unfolding packed_in unpacked_in
packed_unpacked_in zero n h = sym (lt-one h)
packed_unpacked_in (suc k) zero h = refl
packed_unpacked_in (suc k) (suc n) h =
    ap (λ (x : ℕ). suc n / 256 ^ k * 256 ^ k + x) (packed_unpacked_in k (suc n % 256 ^ k) (mod-lt (suc n) (some_room k))) ∙ div-add-mod' (suc n) (256 ^ k)

pub packed_unpacked : (n : ℕ) → n < 2 ^ 64 → packed (unpacked n) ≡ n
packed_unpacked n h = packed_unpacked_in 8 n h
