-- A run of digits is the library's run of bytes that pass a test, and fits its text; capping as one goes is capping at the end.
use mathlib.Core.Path.{◌≡◌, refl, sym, ap, ◌∙◌, subst}
use mathlib.Core.List.{List, [], ◌∷◌}
use mathlib.Core.Bool.{Bool, true, false, not, ◌&&◌, cond}
use Prim.Native.Nat.{ℕ, suc, ◌+◌, ◌-◌, ◌*◌, ◌^◌, ◌≤◌, ◌<◌, min}
use native.Mathlib.Nat.{le_trans, pow-suc, add-zero, add-suc, suc-add, le_refl, le_of_lt, le_antisymm}
use native.Mathlib.Numerals.{add-one}
use native.Mathlib.Omega.{arith}
use lib.Dec.{T, eqb, leb, ltb, leb→le, ltb→lt, nltb→le, lit<, eqb-suc-suc, eqb-zero-suc}
use lib.ListN.{length, get_or, drop}
use lib.Seq.{drop-cons, drop-length}
use borrow.Author.Tests.{le-ltb}
use Rattle.std.specs.List.{list_all, prefix_len}
use Rattle.ascii.specs.Digits.{is_digit, digit_of, digit_run, number_from, capped}

-- ---- how many digits, from index i on
run_step : (s : List ℕ) (i : ℕ) → i < length s → digit_run (drop i s) ≡ cond (is_digit (get_or s i 0)) (suc (digit_run (drop (i + 1) s))) 0
unfolding digit_run
run_step s i h = rw (add-one, drop-cons s i 0)

pub run_end : (s : List ℕ) (i : ℕ) → i ≡ length s → digit_run (drop i s) ≡ 0
unfolding digit_run
run_end s i e = rw (e, drop-length)

pub run_stop : (s : List ℕ) (i : ℕ) → i < length s → is_digit (get_or s i 0) ≡ false → digit_run (drop i s) ≡ 0
run_stop s i h e = run_step s i h ∙ ap (λ (t : Bool). cond t (suc (digit_run (drop (i + 1) s))) 0) e

pub run_more : (s : List ℕ) (i : ℕ) → i < length s → is_digit (get_or s i 0) ≡ true → digit_run (drop i s) ≡ suc (digit_run (drop (i + 1) s))
run_more s i h e = run_step s i h ∙ ap (λ (t : Bool). cond t (suc (digit_run (drop (i + 1) s))) 0) e

-- all of it, in the library's words
pub run_passed : (s : List ℕ) → prefix_len is_digit s ≡ digit_run s
unfolding digit_run
run_passed [] = refl
run_passed (b ∷ s) = ap (λ (k : ℕ). cond (is_digit b) k 0) (one (prefix_len is_digit s) ∙ ap suc (run_passed s))
  where
    one : (k : ℕ) → 1 + k ≡ suc k
    one k = omega arith

-- every byte is a digit where the run is the whole text
pub all_passed : (s : List ℕ) → list_all is_digit s ≡ eqb (digit_run s) (length s)
unfolding digit_run
all_passed [] = refl
all_passed (b ∷ s) = go (is_digit b) (all_passed s)
  where
    go : (t : Bool) → list_all is_digit s ≡ eqb (digit_run s) (length s) → (t && list_all is_digit s) ≡ eqb (cond t (suc (digit_run s)) 0) (suc (length s))
    go true e = e ∙ sym (eqb-suc-suc (digit_run s) (length s))
    go false e = sym (eqb-zero-suc (length s))

pub run_fits : (s : List ℕ) → digit_run s ≤ length s
unfolding digit_run
run_fits [] = le_refl 0
run_fits (b ∷ s) = go (is_digit b) (run_fits s)
  where
    go : (t : Bool) → digit_run s ≤ length s → cond t (suc (digit_run s)) 0 ≤ suc (length s)
    go true h = omega arith
    go false h = omega arith

-- ---- the number that digits write
pub from_step : (n : ℕ) (s : List ℕ) (i : ℕ) → i < length s → number_from n (drop i s) ≡ number_from (n * 10 + digit_of (get_or s i 0)) (drop (i + 1) s)
unfolding number_from
from_step n s i h = rw (add-one, drop-cons s i 0)

pub from_end : (n : ℕ) (s : List ℕ) (i : ℕ) → i ≡ length s → number_from n (drop i s) ≡ n
unfolding number_from
from_end n s i e = rw (e, drop-length)

-- it is no less than the number before the digits
from_grows : (n : ℕ) (s : List ℕ) → n ≤ number_from n s
unfolding number_from
from_grows n [] = le_refl n
from_grows n (b ∷ s) = le_trans (more (digit_of b)) (from_grows (n * 10 + digit_of b) s)
  where
    more : (d : ℕ) → n ≤ n * 10 + d
    more d = omega arith

pub digit_below : (b : ℕ) → digit_of b < 10
digit_below b = go (leb 48 b) (leb b 57) (leb→le b 57)
  where
    go : (u v : Bool) → (T v → b ≤ 57) → cond (u && v) (b - 48) 0 < 10
    go false v h = lit< tt
    go true false h = lit< tt
    go true true h = less (h tt)
      where
        less : b ≤ 57 → b - 48 < 10
        less k = omega arith

-- so many digits more, so many powers of ten more
pub from_below : (n k : ℕ) (s : List ℕ) → n < 10 ^ k → number_from n s < 10 ^ (k + length s)
unfolding number_from
from_below n k [] h = rw add-zero h
from_below n k (b ∷ s) h =
    subst (λ (j : ℕ). number_from (n * 10 + digit_of b) s < 10 ^ j) (suc-add k (length s) ∙ sym (add-suc k (length s)))
    (from_below (n * 10 + digit_of b) (suc k) s (rw pow-suc (next (digit_of b) (10 ^ k) h (digit_below b))))
  where
    next : (d p : ℕ) → n < p → d < 10 → n * 10 + d < p * 10
    next d p h k = omega arith

-- ---- the cap
pub capped_large : (n : ℕ) → 10 ^ 18 ≤ n → capped n ≡ 10 ^ 18
unfolding capped
capped_large n h = simp (le-ltb n (10 ^ 18) h)

pub capped_small : (n : ℕ) → n ≤ 10 ^ 18 → capped n ≡ n
unfolding capped
capped_small n h = go (ltb n (10 ^ 18)) (nltb→le n (10 ^ 18))
  where
    go : (t : Bool) → (T (not t) → 10 ^ 18 ≤ n) → cond t n (10 ^ 18) ≡ n
    go true k = refl
    go false k = le_antisymm (k tt) h

-- the lesser of the two, as the library says it
pub capped_least : (n : ℕ) → min n (10 ^ 18) ≡ capped n
unfolding capped
capped_least n = go (ltb n (10 ^ 18)) (ltb→lt n (10 ^ 18)) (nltb→le n (10 ^ 18))
  where
    go : (t : Bool) → (T t → n < 10 ^ 18) → (T (not t) → 10 ^ 18 ≤ n) → min n (10 ^ 18) ≡ cond t n (10 ^ 18)
    go true h k = omega (arith, h tt)
    go false h k = omega (arith, k tt)

pub capped_fits : (n : ℕ) → capped n ≤ 10 ^ 18
unfolding capped
capped_fits n = go (ltb n (10 ^ 18)) (ltb→lt n (10 ^ 18))
  where
    go : (t : Bool) → (T t → n < 10 ^ 18) → cond t n (10 ^ 18) ≤ 10 ^ 18
    go true h = le_of_lt (h tt)
    go false h = le_refl (10 ^ 18)

-- capping before the digits changes nothing of what is capped after them
pub capped_from : (n : ℕ) (s : List ℕ) → capped (number_from (capped n) s) ≡ capped (number_from n s)
capped_from n s = go (ltb n (10 ^ 18)) (ltb→lt n (10 ^ 18)) (nltb→le n (10 ^ 18))
  where
    go : (t : Bool) → (T t → n < 10 ^ 18) → (T (not t) → 10 ^ 18 ≤ n) → capped (number_from (capped n) s) ≡ capped (number_from n s)
    go true h k = ap (λ (m : ℕ). capped (number_from m s)) (capped_small n (le_of_lt (h tt)))
    go false h k =
        ap (λ (m : ℕ). capped (number_from m s)) (capped_large n (k tt))
        ∙ capped_large (number_from (10 ^ 18) s) (from_grows (10 ^ 18) s)
        ∙ sym (capped_large (number_from n s) (le_trans (k tt) (from_grows n s)))
