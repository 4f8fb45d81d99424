-- Each case of reach, by what the tests on the way to it said; the whole number that few digits write.
use mathlib.Core.Path.{◌≡◌, refl, ap, ◌∙◌}
use mathlib.Core.List.{List, [], ◌∷◌}
use mathlib.Core.Bool.{Bool}
use Prim.Native.Nat.{ℕ, suc, ◌+◌, ◌*◌, ◌^◌, ◌≤◌, ◌<◌}
use native.Mathlib.Nat.{zero-add, lt_of_lt_of_le}
use native.Mathlib.Omega.{arith}
use lib.Dec.{lit<}
use lib.ListN.{length}
use lib.Ieee.{binary64, round}
use borrow.Author.Tests.{le-leb, lt-leb, ne_eqb}
use Rattle.std.specs.Prelude.{Ok, Err}
use Rattle.numbers.specs.declared.reading.NumberError.TheVariants.{BeyondReach}
use Rattle.numbers.specs.Grammar.{decimal}
use Rattle.numbers.specs.Reading.{all_together, within_reach, value_of, read_as}
use Rattle.ascii.specs.Digits.{number_from, capped}
use Rattle.ascii.proofs.DigitLaws.{from_below, capped_small}
use Rattle.numbers.proofs.PowerLaws.{ten_fits}

module _ (negative : Bool) (whole places : List ℕ) where
  pub read_exponent : (exponent : List ℕ) → (length exponent ≡ 0 → ⊥) → read_as (decimal negative whole places exponent) ≡ Err BeyondReach
  unfolding read_as within_reach
  read_exponent exponent n = simp (ne_eqb (length exponent) 0 n)

  pub read_long : 15 < length whole + length places → read_as (decimal negative whole places []) ≡ Err BeyondReach
  unfolding read_as within_reach
  read_long h = simp (lt-leb (length whole + length places) 15 h)

  -- few enough digits are a value where they are near, and beyond reach where not
  pub read_few : length whole + length places ≤ 15
      → read_as (decimal negative whole places []) ≡ value_of negative (all_together whole places) (length places)
  unfolding read_as within_reach
  read_few h = simp (le-leb (length whole + length places) 15 h)

  pub read_near : length whole + length places ≤ 15 → all_together whole places ≤ 1000000 * 10 ^ length places
      → read_as (decimal negative whole places []) ≡ Ok (round binary64 negative (all_together whole places) (10 ^ length places))
  read_near h k = read_few h ∙ simp (le-leb (all_together whole places) (1000000 * 10 ^ length places) k)

-- ---- the whole number that few digits write
module _ (whole places : List ℕ) (h : length whole + length places ≤ 15) where
  whole_below : number_from 0 whole < 10 ^ length whole
  whole_below = rw zero-add at (from_below 0 0 whole (lit< tt))

  pub together_below : all_together whole places < 1000000000000000
  unfolding all_together
  together_below = lt_of_lt_of_le (from_below (number_from 0 whole) (length whole) places whole_below) (ten_fits (length whole + length places) h)

  -- it was not capped on the way
  pub together_uncapped : (m n : ℕ) → m ≡ capped (number_from 0 whole) → n ≡ capped (number_from m places) → n ≡ all_together whole places
  unfolding all_together
  together_uncapped m n M N =
      let m-is : m ≡ number_from 0 whole = M ∙ capped_small (number_from 0 whole) (omega (arith, whole_below, ten_fits (length whole) (omega arith))) in
      let n-is : n ≡ capped (all_together whole places) = N ∙ ap (λ (x : ℕ). capped (number_from x places)) m-is in
      n-is ∙ capped_small (all_together whole places) (omega (arith, together_below))

-- an empty exponent is no exponent
pub empty : (s : List ℕ) → length s ≡ 0 → s ≡ []
empty [] e = refl
empty (b ∷ s) e = absurd (never (length s) e)
  where
    never : (n : ℕ) → suc n ≡ 0 → ⊥
    never n e = omega arith
