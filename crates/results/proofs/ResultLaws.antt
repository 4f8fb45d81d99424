-- Four bytes are put behind those of the numbers before, so that in the end the result is the bytes of all seven.
use mathlib.Core.Path.{◌≡◌, refl, sym, ap, ◌∙◌}
use mathlib.Core.Bool.{Bool, true, false, cond}
use mathlib.Core.List.{List, [], ◌∷◌, ◌++◌}
use Prim.Native.Nat.{ℕ, suc, ◌+◌, ◌*◌, ◌≤◌, ◌<◌}
use native.Mathlib.Omega.{arith}
use lib.ListN.{length, get_or, take, drop, length-append}
use lib.Seq.{sets, sets-eq, length-sets, take-suc, take_at, take_all, length-take-le}
use borrow.Author.Tests.{eqb-true}
use Rattle.std.specs.Prelude.{Result, Ok, Err}
use Rattle.refusals.specs.declared.reasons.Refusal.{Refusal}
use Rattle.results.specs.Results.{numbers_in, little_endian, bytes_of, is_whole, told_in}
use Rattle.results.specs.declared.answers.Served.{Served}

seven : (answer : Result Served Refusal) → length (numbers_in answer) ≡ 7
seven (Ok served) = refl
seven (Err why) = refl

pub whole_size : (result : List ℕ) → is_whole result ≡ true → length result ≡ 28
whole_size result e = eqb-true (length result) 28 e

bytes_append : (l m : List ℕ) → bytes_of (l ++ m) ≡ bytes_of l ++ bytes_of m
unfolding bytes_of
bytes_append [] m = refl
bytes_append (n ∷ l) m = ap (λ (s : List ℕ). little_endian n ++ s) (bytes_append l m)

-- what is put at a place stands behind what stood before it
put_behind : (r : List ℕ) (at : ℕ) (s : List ℕ) → at + length s ≤ length r → take (at + length s) (sets r at s) ≡ take at r ++ s
put_behind r at s h =
    ap (take (at + length s)) (sets-eq s r at h)
    ∙ take_at (take at r ++ s) (drop (at + length s) r) (at + length s) (length-append (take at r) s ∙ ap (λ (n : ℕ). n + length s) (length-take-le at r (omega arith)))

-- ---- what is told, by the length of the result
pub told_whole : (result : List ℕ) (answer : Result Served Refusal) → is_whole result ≡ true → told_in result answer ≡ bytes_of (numbers_in answer)
unfolding told_in
told_whole result answer e = ap (λ (t : Bool). cond t (bytes_of (numbers_in answer)) result) e

pub told_other : (result : List ℕ) (answer : Result Served Refusal) → is_whole result ≡ false → told_in result answer ≡ result
unfolding told_in
told_other result answer e = ap (λ (t : Bool). cond t (bytes_of (numbers_in answer)) result) e

-- ---- the first k of them are put
pub record Putting (numbers result : List ℕ) (k : ℕ) : Type 0 where
  pub within : k ≤ 7
  pub many : length numbers ≡ 7
  pub size : length result ≡ 28
  pub front : take (4 * k) result ≡ bytes_of (take k numbers)

pub putting_starts : (answer : Result Served Refusal) (numbers result : List ℕ) → numbers ≡ numbers_in answer → is_whole result ≡ true → Putting numbers result 0
unfolding bytes_of
putting_starts answer numbers result e whole = record { within = omega arith; many = ap length e ∙ seven answer; size = whole_size result whole; front = refl }

pub putting_on : (numbers result after : List ℕ) (k : ℕ) → Putting numbers result k → k < 7
    → after ≡ sets result (4 * k) (little_endian (get_or numbers k 0)) → Putting numbers after (k + 1)
unfolding bytes_of
putting_on numbers result after k p h e = record {
  within = omega arith;
  many = p.many;
  size = ap length e ∙ length-sets result (4 * k) (little_endian n) ∙ p.size;
  front =
      ap (λ (l : List ℕ). take (4 * (k + 1)) l) e
      ∙ ap (λ (i : ℕ). take i (sets result (4 * k) (little_endian n))) more
      ∙ put_behind result (4 * k) (little_endian n) (omega arith)
      ∙ ap (λ (l : List ℕ). l ++ little_endian n) p.front
      ∙ sym (ap (λ (i : ℕ). bytes_of (take i numbers)) one ∙ ap bytes_of (take-suc numbers k 0 (omega arith)) ∙ bytes_append (take k numbers) (n ∷ []));
}
  where
    n : ℕ
    n = get_or numbers k 0

    more : 4 * (k + 1) ≡ 4 * k + 4
    more = omega arith

    one : k + 1 ≡ suc k
    one = omega arith

pub putting_ends : (answer : Result Served Refusal) (numbers result : List ℕ) (k : ℕ) → Putting numbers result k → 7 ≤ k → numbers ≡ numbers_in answer → result ≡ bytes_of (numbers_in answer)
putting_ends answer numbers result k p h e =
    let all : k ≡ 7 = omega arith in
    sym (take_all (4 * k) result (omega arith))
    ∙ p.front
    ∙ ap bytes_of (take_all k numbers (omega arith))
    ∙ ap bytes_of e
