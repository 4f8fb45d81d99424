-- The value read of a text is the double nearest its decimal, ties to even: only a decimal within reach has a value, and that is `round` of its two
-- whole numbers, which is the nearest.
use mathlib.Core.Path.{◌≡◌, refl, ap, ◌∙◌, subst}
use mathlib.Core.List.{List, []}
use mathlib.Core.Bool.{Bool, true, false, not, ◌&&◌, cond}
use Prim.Native.Nat.{ℕ, ◌+◌, ◌*◌, ◌^◌, ◌≤◌}
use native.Mathlib.Omega.{arith}
use lib.Dec.{T, leb, eqb, leb→le, eqb→eq}
use lib.ListN.{length}
use lib.Ieee.{Float, nan, inf, fin, is_nan, Format, binary64, round}
use lib.Ieee.Fits.{and_l, and_r}
use Rattle.std.specs.Prelude.{Result, Ok, Err}
use Rattle.numbers.specs.declared.reading.NumberError.{NumberError}
use Rattle.numbers.specs.declared.reading.NumberError.TheVariants.{OutsideGrammar, BeyondReach}
use Rattle.numbers.specs.Grammar.{Spelling, outside, word, decimal, spelling_of}
use Rattle.numbers.specs.Reading.{all_together, within_reach, read_as, number_of}
use Rattle.numbers.specs.Nearest.{NearestTo, NearestOfText}
use Rattle.numbers.proofs.NearestLaw.{round_is_nearest}
use Rattle.numbers.proofs.PowerLaws.{ten_positive}
use Rattle.numbers.proofs.ReadingLaws.{empty}

-- ---- which answer it is
pub no_value : (why : NumberError) (x : Float) → Err why ≡ Ok x → ⊥
no_value why x e = let z : ◌≡◌ {A = ℕ} 0 1 = cc in omega arith

same_value : (x y : Float) → ◌≡◌ {A = Result Float NumberError} (Ok x) (Ok y) → x ≡ y
same_value x y e = cc

-- ---- a decimal that has a value
module _ (negative : Bool) (whole places exponent : List ℕ) where
  pub reachable : T (within_reach whole places exponent) → (length exponent ≡ 0) × (all_together whole places ≤ 1000000 * 10 ^ length places)
  unfolding within_reach
  reachable t =
      let A = eqb (length exponent) 0 in
      let B = leb (length whole + length places) 15 in
      let C = leb (all_together whole places) (1000000 * 10 ^ length places) in
      (eqb→eq (length exponent) 0 (and_l A B (and_l (A && B) C t)), leb→le (all_together whole places) (1000000 * 10 ^ length places) (and_r (A && B) C t))

  near : all_together whole places ≤ 1000000 * 10 ^ length places
      → NearestTo binary64 negative (all_together whole places) (10 ^ length places) (round binary64 negative (all_together whole places) (10 ^ length places))
  near h = round_is_nearest binary64 negative (all_together whole places) (10 ^ length places) (ten_positive (length places)) (more (all_together whole places) (10 ^ length places) h)
    where
      more : (n p : ℕ) → n ≤ 1000000 * p → n ≤ 9007199254740992 * p
      more n p h = omega arith

  decimal_value : (x : Float) → read_as (decimal negative whole places exponent) ≡ Ok x → (exponent ≡ []) × NearestTo binary64 negative (all_together whole places) (10 ^ length places) x
  unfolding read_as
  decimal_value x = go (within_reach whole places exponent) reachable
    where
      go : (t : Bool) → (T t → (length exponent ≡ 0) × (all_together whole places ≤ 1000000 * 10 ^ length places))
          → cond t (Ok (round binary64 negative (all_together whole places) (10 ^ length places))) (Err BeyondReach) ≡ Ok x
          → (exponent ≡ []) × NearestTo binary64 negative (all_together whole places) (10 ^ length places) x
      go false h e = absurd (no_value BeyondReach x e)
      go true h e = (
        empty exponent (h tt).0,
        subst (λ (y : Float). NearestTo binary64 negative (all_together whole places) (10 ^ length places) y) (same_value _ x e) (near (h tt).1),
      )

-- ---- the theorem
pub value_is_nearest : (s : List ℕ) (x : Float) → number_of s ≡ Ok x → NearestOfText s x
unfolding number_of read_as
value_is_nearest s x e = spelling (spelling_of s) refl e
  where
    spelling : (p : Spelling) → spelling_of s ≡ p → read_as p ≡ Ok x → NearestOfText s x
    spelling outside q r = absurd (no_value OutsideGrammar x r)
    spelling word q r = absurd (no_value BeyondReach x r)
    spelling (decimal negative whole places exponent) q r =
        let w = decimal_value negative whole places exponent x r in
        record { negative = negative; whole = whole; places = places; spelled = q ∙ ap (λ (l : List ℕ). decimal negative whole places l) w.0; nearest = w.1 }

-- so it is a number
pub value_is_a_number : (s : List ℕ) (x : Float) → number_of s ≡ Ok x → T (not (is_nan x))
unfolding is_nan
value_is_a_number s x e = let w = value_is_nearest s x e in a_number binary64 w.negative (all_together w.whole w.places) (10 ^ length w.places) x w.nearest
  where
    a_number : (f : Format) (s : Bool) (num den : ℕ) (x : Float) → NearestTo f s num den x → T (not (is_nan x))
    a_number f s num den nan n = n
    a_number f s num den (inf t) n = tt
    a_number f s num den (fin t m e) n = tt
