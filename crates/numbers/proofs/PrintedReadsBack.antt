-- What is printed is read back as the double nearest the printed decimal: the text spells its sign, its whole digits and its places, which together
-- write the units, and it has few enough digits to be within reach.
use mathlib.Core.Path.{◌≡◌, refl, sym, ap, ◌∙◌, subst}
use mathlib.Core.List.{List, [], ◌∷◌, ◌++◌}
use mathlib.Core.Bool.{Bool, true, false}
use Prim.Native.Nat.{ℕ, ◌+◌, ◌*◌, ◌/◌, ◌%◌, ◌^◌, ◌≤◌, ◌<◌}
use native.Mathlib.Nat.{add-zero, mul-one, mod-eq_of_lt, le_trans, le_of_eq, div-lt_iff_lt-mul, mul_right_comm, mul-le-mul_right, div-add-mod'}
use native.Mathlib.Omega.{arith}
use lib.Dec.{T, eqb, leb→le, lit<, lit≤}
use lib.ListN.{length}
use lib.Ieee.{Float, nan, inf, fin, binary64, round, up, down}
use lib.Ieee.Fits.{down_pos}
use lib.Ieee.Nearest.{closest, closest_mono}
use borrow.Author.Tests.{ne_eqb}
use Rattle.ascii.specs.Bytes.{first}
use Rattle.ascii.specs.Digits.{digit_run, number_from}
use Rattle.std.specs.Prelude.{Ok}
use Rattle.numbers.specs.Grammar.{decimal, unsigned, spelling_of}
use Rattle.ascii.specs.Signs.{is_sign, after_sign}
use Rattle.numbers.specs.Reading.{all_together, read_as, number_of}
use Rattle.numbers.specs.Rounding.{printable, units_of, is_negative}
use Rattle.numbers.specs.Printing.{last_digits, count_up_to, digit_count, sign, fixed_text, text_of}
use Rattle.numbers.specs.Nearest.{NearestTo}
use Rattle.numbers.proofs.Comparing.{nearest_lt}
use Rattle.numbers.proofs.DigitLaws.{run_digits, digits_run, from_digits, digits_write, differs, no_sign}
use Rattle.ascii.proofs.SignLaws.{after_none}
use Rattle.numbers.proofs.DecimalLaws.{begins_fixed, unsigned_fixed}
use Rattle.numbers.proofs.NearestLaw.{round_is_nearest}
use Rattle.numbers.proofs.PowerLaws.{ten_positive}
use Rattle.numbers.proofs.PrintingLaws.{count_enough, count_few, count_some, digits_length}
use Rattle.numbers.proofs.ReadingLaws.{read_near}

-- ---- a point ends a run of digits
point_ends : (s : List ℕ) → digit_run (46 ∷ s) ≡ 0
unfolding digit_run
point_ends s = refl

-- ---- some digits, a point, some digits, and a sign or none before them
module _ (W F : List ℕ) (w : digit_run (W ++ (46 ∷ F)) ≡ length W) (f : digit_run F ≡ length F) (some : 0 < length W) where
  spelling_fixed : (negative : Bool) → spelling_of (sign negative ++ (W ++ (46 ∷ F))) ≡ decimal negative W F []
  unfolding spelling_of sign after_sign is_sign
  spelling_fixed true = unsigned_fixed W F w f some true
  spelling_fixed false =
      ap (λ (l : List ℕ). unsigned (eqb (first (W ++ (46 ∷ F))) 45) l) (after_none (W ++ (46 ∷ F)) (no_sign (W ++ (46 ∷ F)) (begins_fixed W F w f some)))
      ∙ ap (λ (t : Bool). unsigned t (W ++ (46 ∷ F))) (ne_eqb (first (W ++ (46 ∷ F))) 45 (differs (W ++ (46 ∷ F)) 45 (begins_fixed W F w f some) (lit< tt)))
      ∙ unsigned_fixed W F w f some false

-- ---- units up to a million with so many places
over_one : (n : ℕ) → closest n 1 ≡ n
over_one n = nearest_lt (n / 1) (n % 1 * 2) 1 (omega arith) ∙ omega arith

units_near : (places : ℕ) (x : Float) → T (printable x) → units_of places x ≤ 1000000 * 10 ^ places
unfolding printable units_of
units_near places nan h = absurd h
units_near places (inf s) h = absurd h
units_near places (fin s m e) h =
    let p = 10 ^ places in
    le_trans
    (closest_mono (m * up e * p) (down e) (1000000 * p) 1 (down_pos e) (lit< tt)
    (le_trans (le_of_eq (mul-one (m * up e * p))) (le_trans (mul-le-mul_right p (leb→le (m * up e) (1000000 * down e) h)) (le_of_eq (mul_right_comm 1000000 (down e) p)))))
    (le_of_eq (over_one (1000000 * p)))

module _ (places : ℕ) (negative : Bool) (n : ℕ) (few : places ≤ 8) (near : n ≤ 1000000 * 10 ^ places) where
  whole_short : n / 10 ^ places < 10 ^ 7
  whole_short = (div-lt_iff_lt-mul (ten_positive places)).1 (less (10 ^ places) (ten_positive places) near)
    where
      less : (p : ℕ) → 0 < p → n ≤ 1000000 * p → n < 10000000 * p
      less p h k = omega arith

  -- what the whole digits and the places write together
  units_are : (c : ℕ) → n / 10 ^ places < 10 ^ c → all_together (last_digits c (n / 10 ^ places)) (last_digits places n) ≡ n
  unfolding all_together
  units_are c h =
      let p = 10 ^ places in
      ap (λ (k : ℕ). number_from k (last_digits places n)) (digits_write c (n / p) ∙ mod-eq_of_lt h)
      ∙ from_digits (n / p) places n
      ∙ div-add-mod' n p

  read_fixed : number_of (fixed_text places negative n) ≡ Ok (round binary64 negative n (10 ^ places))
  unfolding number_of fixed_text digit_count
  read_fixed =
      let w = n / 10 ^ places in
      let c = count_up_to 19 w in
      let W = last_digits c w in
      let F = last_digits places n in
      let enough : w < 10 ^ c = count_enough 19 w (le_trans whole_short (lit≤ tt)) in
      let short : c ≤ 7 = count_few 19 6 w whole_short in
      let some : 0 < c = count_some 19 w in
      let W-long : length W ≡ c = digits_length c w in
      let F-long : length F ≡ places = digits_length places n in
      let all : all_together W F ≡ n = units_are c enough in
      ap read_as
      (spelling_fixed W F
      (run_digits c w (46 ∷ F) ∙ ap (λ (k : ℕ). c + k) (point_ends F) ∙ add-zero c ∙ sym W-long)
      (digits_run places n ∙ sym F-long)
      (subst (λ (k : ℕ). 0 < k) (sym W-long) some) negative)
      ∙ read_near negative W F (omega arith) (subst (λ (k : ℕ). all_together W F ≤ 1000000 * 10 ^ k) (sym F-long) (subst (λ (v : ℕ). v ≤ 1000000 * 10 ^ places) (sym all) near))
      ∙ ap (λ (v : ℕ). Ok (round binary64 negative v (10 ^ length F))) all
      ∙ ap (λ (k : ℕ). Ok (round binary64 negative n (10 ^ k))) F-long

-- ---- the theorem
pub printed_reads_back : (places : ℕ) (x : Float) → places ≤ 8 → T (printable x) → number_of (text_of places x) ≡ Ok (round binary64 (is_negative x) (units_of places x) (10 ^ places))
unfolding text_of
printed_reads_back places x few h = read_fixed places (is_negative x) (units_of places x) few (units_near places x h)

-- and that is the double nearest the printed decimal
pub read_back_is_nearest : (places : ℕ) (x : Float) → T (printable x) → NearestTo binary64 (is_negative x) (units_of places x) (10 ^ places) (round binary64 (is_negative x) (units_of places x) (10 ^ places))
read_back_is_nearest places x h = round_is_nearest binary64 (is_negative x) (units_of places x) (10 ^ places) (ten_positive places) (more (units_of places x) (10 ^ places) (units_near places x h))
  where
    more : (n p : ℕ) → n ≤ 1000000 * p → n ≤ 9007199254740992 * p
    more n p h = omega arith
