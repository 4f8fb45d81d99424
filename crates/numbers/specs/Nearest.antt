-- What it is to be nearest to a fraction num / den, ties to even: said of whole numbers alone, against every candidate, with no rounding in it.
use Rattle.std.specs.Prelude.{◌≡◌, ℕ, ◌+◌, ◌-◌, ◌*◌, ◌%◌, ◌^◌, ◌≤◌, ◌<◌, List, [], Bool, ℤ, T, length, Float}
use Rattle.std.specs.Float.{nan, inf, fin, Format, binary64}
use Rattle.std.specs.Float.Ieee.{prec, low, up, down, fits}
use Rattle.numbers.specs.Grammar.{decimal, spelling_of}
use Rattle.numbers.specs.Reading.{all_together}

abbrev pub dist : ℕ → ℕ → ℕ
dist a b = (a - b) + (b - a)

-- ---- the nearest whole number

-- q is away from num / den by dist num (q * den) over den. No whole number is nearer, and where another is as near, q is even.
pub record NearestWhole (num den q : ℕ) : Type 0 where
  pub closest : (z : ℕ) → dist num (q * den) ≤ dist num (z * den)
  pub even : (z : ℕ) → dist num (z * den) ≤ dist num (q * den) → (z ≡ q → ⊥) → q % 2 ≡ 0

-- ---- the nearest float

-- A float of the magnitude m * 2 ^ e = m * up e / down e is away from num / den by dist (num * down e) (m * up e * den), over den * down e.
-- So m * 2 ^ e is no farther than n * 2 ^ d: the two distances, each times den * down e * down d.
abbrev pub NoFarther : ℕ → ℕ → ℕ → ℤ → ℕ → ℤ → Type 0
NoFarther num den m e n d = dist (num * down e) (m * up e * den) * down d ≤ dist (num * down d) (n * up d * den) * down e

-- the last of the digits that the format keeps is 0: an odd m has fewer than `prec` digits, and e is above the lowest exponent
abbrev pub Even : Format → ℕ → ℤ → Type 0
Even f m e = (m < 2 ^ (prec f - 1)) × (2 * down e ≤ 2 ^ low f)

-- The format holds the float of sign s and magnitude m * 2 ^ e. None that it holds with that sign is nearer to num / den.
-- Where another one is as near, this one is even.
pub record Best (f : Format) (s : Bool) (num den m : ℕ) (e : ℤ) : Type 0 where
  pub holds : T (fits f (fin s m e))
  pub closest : (n : ℕ) (d : ℤ) → T (fits f (fin s n d)) → NoFarther num den m e n d
  pub even : (n : ℕ) (d : ℤ) → T (fits f (fin s n d)) → NoFarther num den n d m e → (n * up d * down e ≡ m * up e * down d → ⊥) → Even f m e

abbrev pub NearestTo : Format → Bool → ℕ → ℕ → Float → Type 0
NearestTo f s num den nan = ⊥
NearestTo f s num den (inf t) = ⊥
NearestTo f s num den (fin t m e) = (t ≡ s) × Best f s num den m e

-- ---- the double nearest to a text's decimal

-- the text is a decimal with no exponent, and x is the double nearest to it
pub record NearestOfText (s : List ℕ) (x : Float) : Type 0 where
  pub negative : Bool
  pub whole : List ℕ
  pub places : List ℕ
  pub spelled : spelling_of s ≡ decimal negative whole places []
  pub nearest : NearestTo binary64 negative (all_together whole places) (10 ^ length places) x
