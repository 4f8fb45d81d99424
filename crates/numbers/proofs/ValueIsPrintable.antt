-- A value that is read can be written: its decimal is at most a million, and a million is a double, so that a greater double is farther from the
-- decimal than a million is, and not the nearest.
use mathlib.Core.Path.{◌≡◌, sym, ap, ◌∙◌}
use mathlib.Core.List.{List, []}
use mathlib.Core.Bool.{Bool, true, false, cond}
use Prim.Native.Nat.{ℕ, ◌-◌, ◌*◌, ◌^◌, ◌≤◌, ◌<◌}
use native.Mathlib.Nat.{mul_comm, mul-sub, mul_right_comm, mul-le-mul_right, le_of_mul-le-mul_right}
use native.Mathlib.Omega.{arith}
use borrow.Author.Tests.{le-leb}
use lib.Dec.{T}
use lib.IntN.{pos}
use lib.ListN.{length}
use lib.Ieee.{Float, nan, inf, fin, binary64, round, fits, up, down}
use Rattle.std.specs.Prelude.{Ok, Err}
use Rattle.numbers.specs.declared.reading.NumberError.TheVariants.{BeyondReach}
use Rattle.numbers.specs.Grammar.{decimal}
use Rattle.numbers.specs.Nearest.{dist, NearestTo}
use Rattle.numbers.specs.Reading.{all_together, within_reach, read_as, number_of}
use Rattle.numbers.specs.Rounding.{printable}
use Rattle.numbers.proofs.PowerLaws.{ten_positive}
use Rattle.numbers.proofs.ValueIsNearest.{no_value, reachable, value_is_nearest}

-- ---- no farther from num / den than a million is, and that is on the far side
not_past : (a b q p : ℕ) → a ≤ q → p ≡ q - a → dist a b ≤ p → b ≤ q
not_past a b q p h e k = omega arith

within : (num den x de : ℕ) → 0 < den → num ≤ 1000000 * den → dist (num * de) (x * den) * 1 ≤ dist (num * 1) (1000000 * den) * de → x ≤ 1000000 * de
within num den x de some h k =
    le_of_mul-le-mul_right
    (not_past (num * de) (x * den) (1000000 * de * den) (dist (num * 1) (1000000 * den) * de) far away (omega arith)) some
  where
    swapped : 1000000 * den * de ≡ 1000000 * de * den
    swapped = mul_right_comm 1000000 den de

    far : num * de ≤ 1000000 * de * den
    far = rw (← swapped) (mul-le-mul_right de h)

    past : dist (num * 1) (1000000 * den) ≡ 1000000 * den - num
    past = omega arith

    away : dist (num * 1) (1000000 * den) * de ≡ 1000000 * de * den - num * de
    away =
        ap (λ (n : ℕ). n * de) past
        ∙ mul_comm (1000000 * den - num) de
        ∙ mul-sub de (1000000 * den) num
        ∙ rw (mul_comm de (1000000 * den), mul_comm de num, swapped)

a_million : (s : Bool) → T (fits binary64 (fin s 15625 (pos 6)))
unfolding fits
a_million s = tt

nearest_printable : (s : Bool) (num den : ℕ) (x : Float) → 0 < den → num ≤ 1000000 * den → NearestTo binary64 s num den x → printable x ≡ true
unfolding printable
nearest_printable s num den nan some h n = absurd n
nearest_printable s num den (inf t) some h n = absurd n
nearest_printable s num den (fin t m e) some h n = le-leb (m * up e) (1000000 * down e) (within num den (m * up e) (down e) some h (n.1.closest 15625 (pos 6) (a_million s)))

-- ---- only a decimal within reach has a value
in_reach : (negative : Bool) (whole places : List ℕ) (x : Float) → read_as (decimal negative whole places []) ≡ Ok x → all_together whole places ≤ 1000000 * 10 ^ length places
unfolding read_as
in_reach negative whole places x = go (within_reach whole places []) (λ t. (reachable negative whole places [] t).1)
  where
    go : (t : Bool) → (T t → all_together whole places ≤ 1000000 * 10 ^ length places) → cond t (Ok (round binary64 negative (all_together whole places) (10 ^ length places))) (Err BeyondReach) ≡ Ok x
        → all_together whole places ≤ 1000000 * 10 ^ length places
    go true h e = h tt
    go false h e = absurd (no_value BeyondReach x e)

-- ---- the theorem
pub value_is_printable : (s : List ℕ) (x : Float) → number_of s ≡ Ok x → printable x ≡ true
unfolding number_of
value_is_printable s x e =
    let w = value_is_nearest s x e in
    nearest_printable w.negative (all_together w.whole w.places) (10 ^ length w.places) x (ten_positive (length w.places))
    (in_reach w.negative w.whole w.places x (ap read_as (sym w.spelled) ∙ e)) w.nearest
