-- The length that is tested is the text's own, and the parts that are stored are its parts.
use mathlib.Core.Path.{◌≡◌, refl, sym, ap, ◌∙◌}
use mathlib.Core.List.{List, ◌∷◌, ◌++◌}
use mathlib.Core.Bool.{Bool}
use Prim.Native.Nat.{ℕ, ◌+◌, ◌/◌}
use lib.Dec.{leb}
use lib.ListN.{length}
use borrow.Author.Tests.{leb-true}
use Rattle.ascii.specs.Output.{fits}
use Rattle.ascii.proofs.OutputLaws.{put_whole, put_nothing}
use Rattle.numbers.specs.Printing.{last_digits, digit_count, sign, fixed_text}
use Rattle.numbers.proofs.PrintingLaws.{digit_count_fits, text_parts, text_length}
use Rattle.numbers.proofs.printing.put_fixed.Goals as goal

-- the text, and its length, once the digits are counted
module _ (negative : Bool) (n count : ℕ) (counted : count ≡ digit_count (n / 1000)) where
  parts : fixed_text 3 negative n ≡ sign negative ++ (last_digits count (n / 1000) ++ (46 ∷ last_digits 3 n))
  parts = text_parts 3 negative n 1000 count refl counted

  module _ (size : ℕ) (measured : size ≡ length (sign negative) + count + 1 + 3) where
    long : size ≡ length (fixed_text 3 negative n)
    long = measured ∙ text_length 3 negative n 1000 count refl counted

    -- whether it fits
    fitting : (out : List ℕ) (at : ℕ) (t : Bool) → t ≡ leb (at + size) (length out) → fits out at (fixed_text 3 negative n) ≡ t
    fitting out at t h = ap (λ (k : ℕ). leb (at + k) (length out)) (sym long) ∙ sym h

pub fixed_length-length-requires : goal.fixed_length-length-requires
fixed_length-length-requires c = rw c.digit_count-count.ensures (digit_count_fits _)

pub returns-then-not-fits_at : goal.returns-then-not-fits_at
returns-then-not-fits_at c =
    let a = c.args in
    put_nothing a.out.now a.at (fixed_text 3 a.negative a.n)
    (fitting a.negative a.n _ c.digit_count-count.ensures _ c.fixed_length-length.ensures a.out.now a.at _ c.fits_at.ensures ∙ c.if-not-fits_at.true)
    (long a.negative a.n _ c.digit_count-count.ensures _ c.fixed_length-length.ensures)

pub put_parts-requires : goal.put_parts-requires
put_parts-requires c = rw c.fixed_length-length.ensures at (leb-true _ _ (sym c.fits_at.ensures ∙ c.if-not-fits_at.false))

pub returns : goal.returns
returns c =
    let a = c.args in
    put_whole a.out.now a.at (fixed_text 3 a.negative a.n)
    (fitting a.negative a.n _ c.digit_count-count.ensures _ c.fixed_length-length.ensures a.out.now a.at _ c.fits_at.ensures ∙ c.if-not-fits_at.false)
    (rw (parts a.negative a.n _ c.digit_count-count.ensures) c.put_parts.ensures)
