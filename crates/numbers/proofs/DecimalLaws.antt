-- What begins with a digit is no word. Digits, and digits with a point after them and digits or none after that, are the decimals that they look like.
use mathlib.Core.Path.{◌≡◌, refl, sym, ap, ◌∙◌, subst}
use mathlib.Core.List.{List, [], ◌∷◌, ◌++◌}
use mathlib.Core.Bool.{Bool, false, ◌&&◌, cond}
use Prim.Native.Nat.{ℕ, suc, ◌+◌, ◌-◌, ◌≤◌, ◌<◌}
use native.Mathlib.Nat.{le_of_lt}
use native.Mathlib.Numerals.{add-one}
use native.Mathlib.Omega.{arith}
use lib.Dec.{leb, eqb, lit≤}
use lib.ListN.{length, get_or, take, drop}
use lib.Seq.{take_at, drop_at, take-length, drop-length, length-take-le, split_at}
use borrow.Author.Tests.{ne_eqb, lt-leb}
use Rattle.ascii.specs.Digits.{digit_run}
use Rattle.ascii.specs.Letters.{lowercase, eq_ignore_case}
use Rattle.numbers.specs.Grammar.{decimal, is_word, parts, after_whole, unsigned}
use Rattle.numbers.proofs.DigitLaws.{BeginsDigit, begins_digit}
use Rattle.numbers.proofs.GrammarLaws.{parts_decimal, whole_point, whole_alone, unsigned_digits}

-- ---- no word begins with a digit
no_letter : (b c : ℕ) (s w : List ℕ) → b ≤ 57 → 65 ≤ lowercase c → eq_ignore_case (b ∷ s) (c ∷ w) ≡ false
unfolding eq_ignore_case
no_letter b c s w h k =
    ap (λ (x : ℕ). eqb x (lowercase c) && eq_ignore_case s w) (ap (λ (t : Bool). cond (t && leb b 90) (b + 32) b) (lt-leb 65 b (omega arith)))
    ∙ ap (λ (t : Bool). t && eq_ignore_case s w) (ne_eqb b (lowercase c) (λ e. apart b (lowercase c) h k e))
  where
    apart : (x y : ℕ) → x ≤ 57 → 65 ≤ y → x ≡ y → ⊥
    apart x y h k e = omega arith

no_word : (s : List ℕ) → BeginsDigit s → is_word s ≡ false
unfolding is_word
no_word [] d = absurd (none d.lo)
  where
    none : 48 ≤ 0 → ⊥
    none h = omega arith
no_word (b ∷ s) d = simp (no_letter b 105 s (110 ∷ 102 ∷ []) d.hi (lit≤ tt), no_letter b 105 s (110 ∷ 102 ∷ 105 ∷ 110 ∷ 105 ∷ 116 ∷ 121 ∷ []) d.hi (lit≤ tt), no_letter b 110 s (97 ∷ 110 ∷ []) d.hi (lit≤ tt))

-- ---- digits alone
pub unsigned_whole : (negative : Bool) (s : List ℕ) → digit_run s ≡ length s → 0 < length s → unsigned negative s ≡ decimal negative s [] []
unsigned_whole negative s w some =
    unsigned_digits negative s (no_word s (begins_digit s (length s - 1) (w ∙ omega arith)))
    ∙ ap (λ (k : ℕ). after_whole negative (take k s) (drop k s)) w
    ∙ ap (λ (l : List ℕ). after_whole negative l (drop (length s) s)) (take-length s)
    ∙ ap (λ (l : List ℕ). after_whole negative s l) (drop-length s)
    ∙ whole_alone negative s [] (λ e. omega arith)
    ∙ parts_decimal negative s [] [] (λ e. omega arith) refl

-- ---- some digits, a point, some digits
module _ (W F : List ℕ) (w : digit_run (W ++ (46 ∷ F)) ≡ length W) (f : digit_run F ≡ length F) (some : 0 < length W) where
  pub begins_fixed : BeginsDigit (W ++ (46 ∷ F))
  begins_fixed = begins_digit (W ++ (46 ∷ F)) (length W - 1) (w ∙ omega arith)

  pub unsigned_fixed : (negative : Bool) → unsigned negative (W ++ (46 ∷ F)) ≡ decimal negative W F []
  unsigned_fixed negative =
      unsigned_digits negative (W ++ (46 ∷ F)) (no_word (W ++ (46 ∷ F)) begins_fixed)
      ∙ ap (λ (k : ℕ). after_whole negative (take k (W ++ (46 ∷ F))) (drop k (W ++ (46 ∷ F)))) w
      ∙ ap (λ (l : List ℕ). after_whole negative l (drop (length W) (W ++ (46 ∷ F)))) (take_at W (46 ∷ F) (length W) refl)
      ∙ ap (λ (l : List ℕ). after_whole negative W l) (drop_at W (46 ∷ F) (length W) refl)
      ∙ whole_point negative W (46 ∷ F) refl
      ∙ ap (λ (k : ℕ). parts negative W (take k F) (drop k F)) f
      ∙ ap (λ (l : List ℕ). parts negative W l (drop (length F) F)) (take-length F)
      ∙ ap (λ (l : List ℕ). parts negative W F l) (drop-length F)
      ∙ parts_decimal negative W F [] (λ e. omega arith) refl

-- the same of a text in which the point stands at index k
pub unsigned_pointed : (negative : Bool) (s : List ℕ) (k : ℕ) → digit_run s ≡ k → 0 < k → k < length s → get_or s k 0 ≡ 46
    → digit_run (drop (k + 1) s) ≡ length (drop (k + 1) s) → unsigned negative s ≡ decimal negative (take k s) (drop (k + 1) s) []
unsigned_pointed negative s k w some h p f =
    let W = take k s in
    let F = drop (k + 1) s in
    let same : s ≡ W ++ (46 ∷ F) = split_at s k 0 h ∙ ap (λ (b : ℕ). W ++ (b ∷ drop (suc k) s)) p ∙ ap (λ (j : ℕ). W ++ (46 ∷ drop j s)) (sym (add-one k)) in
    let long : k ≡ length W = sym (length-take-le k s (le_of_lt h)) in
    ap (λ (l : List ℕ). unsigned negative l) same ∙ unsigned_fixed W F (ap digit_run (sym same) ∙ w ∙ long) f (subst (λ (j : ℕ). 0 < j) long some) negative
