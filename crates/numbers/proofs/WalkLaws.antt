-- A walk over digits: what has been read so far, what a digit adds to it, and what is known where no digit follows.
use mathlib.Core.Path.{◌≡◌, refl, sym, ap, ◌∙◌}
use mathlib.Core.List.{List, ◌∷◌}
use mathlib.Core.Bool.{Bool, true, cond}
use Prim.Native.Nat.{ℕ, suc, ◌+◌, ◌-◌, ◌*◌, ◌^◌, ◌≤◌, ◌<◌}
use native.Mathlib.Numerals.{add-one}
use native.Mathlib.Omega.{arith}
use lib.ListN.{length, get_or, take, drop}
use lib.Seq.{drop-cons}
use Rattle.ascii.specs.Digits.{is_digit, digit_of, digit_run, number_from}
use Rattle.ascii.proofs.DigitLaws.{digit_below, run_more}
use Rattle.numbers.specs.Grammar.{digits}
use Rattle.numbers.proofs.PowerLaws.{ten_next}

-- of the digits from index from on, those before index i have been read after n, and the others are still to be read after number
pub record Walking (s : List ℕ) (from n number i : ℕ) : Type 0 where
  pub writes : number_from n (digits (drop from s)) ≡ number_from number (digits (drop i s))
  pub runs : from + digit_run (drop from s) ≡ i + digit_run (drop i s)
  pub small : number < 10 ^ i
  pub inside : i ≤ length s

digits_more : (s : List ℕ) (i : ℕ) → i < length s → is_digit (get_or s i 0) ≡ true → digits (drop i s) ≡ get_or s i 0 ∷ digits (drop (i + 1) s)
digits_more s i h e =
    ap (λ (k : ℕ). take k (drop i s)) (run_more s i h e)
    ∙ ap (λ (l : List ℕ). take (suc (digit_run (drop (i + 1) s))) l) (drop-cons s i 0 h ∙ ap (λ (k : ℕ). get_or s i 0 ∷ drop k s) (sym (add-one i)))

module _ (s : List ℕ) (from n : ℕ) where
  pub walk_begins : from ≤ length s → n < 10 ^ from → Walking s from n n from
  walk_begins h k = record { writes = refl; runs = refl; small = k; inside = h }

  pub walk_on : (number i : ℕ) → Walking s from n number i → i < length s → is_digit (get_or s i 0) ≡ true → Walking s from n (number * 10 + (get_or s i 0 - 48)) (i + 1)
  unfolding number_from
  walk_on number i w h digit =
      let b = get_or s i 0 in
      let counts : digit_of b ≡ b - 48 = ap (λ (t : Bool). cond t (b - 48) 0) digit in
      let more : digit_run (drop i s) ≡ suc (digit_run (drop (i + 1) s)) = run_more s i h digit in
      let next : 10 ^ (i + 1) ≡ 10 ^ i * 10 = ten_next i in
      record {
        writes = w.writes ∙ ap (λ (l : List ℕ). number_from number l) (digits_more s i h digit) ∙ ap (λ (d : ℕ). number_from (number * 10 + d) (digits (drop (i + 1) s))) counts;
        runs = w.runs ∙ omega arith;
        small = omega (arith, w.small, digit_below b, counts);
        inside = omega arith;
      }

  pub walk_ends : (number i : ℕ) → Walking s from n number i → digit_run (drop i s) ≡ 0
      → (number ≡ number_from n (digits (drop from s))) × ((i ≡ from + digit_run (drop from s)) × ((number < 10 ^ i) × (i ≤ length s)))
  unfolding number_from
  walk_ends number i w e = (
    sym (w.writes ∙ ap (λ (k : ℕ). number_from number (take k (drop i s))) e),
    (sym (w.runs ∙ omega arith), (w.small, w.inside)),
  )
