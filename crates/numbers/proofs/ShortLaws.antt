-- A short text as a walk over its digits reads it: the number that they write, the index k of what follows them, and the same again after a point.
use mathlib.Core.Path.{◌≡◌, sym, ap, ◌∙◌}
use mathlib.Core.List.{List, []}
use mathlib.Core.Bool.{Bool}
use Prim.Native.Nat.{ℕ, ◌+◌, ◌-◌, ◌≤◌, ◌<◌}
use native.Mathlib.Nat.{le_of_lt}
use native.Mathlib.Omega.{arith}
use lib.ListN.{length, get_or, take, drop, length-drop}
use lib.Seq.{length-take-le, take-length}
use Rattle.ascii.specs.Digits.{digit_run, number_from}
use Rattle.numbers.specs.Grammar.{digits, unsigned}
use Rattle.numbers.specs.Reading.{all_together, value_of, read_as}
use Rattle.numbers.proofs.DecimalLaws.{unsigned_whole, unsigned_pointed}
use Rattle.numbers.proofs.ReadingLaws.{read_few}

-- where all of a text is digits, its digits are all of it
all_digits : (m : ℕ) (s : List ℕ) → digit_run s ≡ length s → number_from m (digits s) ≡ number_from m s
all_digits m s e = ap (λ (l : List ℕ). number_from m l) (ap (λ (k : ℕ). take k s) e ∙ take-length s)

module _ (negative : Bool) (s : List ℕ) (few : length s ≤ 15) (m k : ℕ) (writes : m ≡ number_from 0 (digits s)) (ends : k ≡ 0 + digit_run s) (some : k ≡ 0 → ⊥) where
  pub short_whole : k ≡ length s → value_of negative m 0 ≡ read_as (unsigned negative s)
  unfolding all_together number_from
  short_whole e =
      let run : digit_run s ≡ length s = omega arith in
      ap (λ (n : ℕ). value_of negative n 0) (writes ∙ all_digits 0 s run)
      ∙ sym (ap read_as (unsigned_whole negative s run (omega arith)) ∙ read_few negative s [] (omega arith))

  pub short_pointed : (n end : ℕ) → k < length s → get_or s k 0 ≡ 46 → n ≡ number_from m (digits (drop (k + 1) s)) → end ≡ k + 1 + digit_run (drop (k + 1) s) → end ≡ length s
      → value_of negative n (length s - 1 - k) ≡ read_as (unsigned negative s)
  unfolding all_together
  short_pointed n end h p N E e =
      let W = take k s in
      let F = drop (k + 1) s in
      let F-long : length F ≡ length s - (k + 1) = length-drop (k + 1) s in
      let W-long : length W ≡ k = length-take-le k s (le_of_lt h) in
      let run : digit_run s ≡ k = omega arith in
      let run-F : digit_run F ≡ length F = omega arith in
      let m-is : m ≡ number_from 0 W = writes ∙ ap (λ (j : ℕ). number_from 0 (take j s)) run in
      let n-is : n ≡ all_together W F = N ∙ all_digits m F run-F ∙ ap (λ (x : ℕ). number_from x F) m-is in
      let places : length s - 1 - k ≡ length F = omega arith in
      ap (λ (x : ℕ). value_of negative x (length s - 1 - k)) n-is
      ∙ ap (λ (j : ℕ). value_of negative (all_together W F) j) places
      ∙ sym (ap read_as (unsigned_pointed negative s k run (omega arith) h p run-F) ∙ read_few negative W F (omega arith))
