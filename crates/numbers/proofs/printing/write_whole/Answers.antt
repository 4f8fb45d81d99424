-- As many digits are put as were counted, where so many fit.
use mathlib.Core.Path.{◌≡◌, sym, ap, ◌∙◌}
use mathlib.Core.List.{List}
use mathlib.Core.Bool.{Bool}
use Prim.Native.Nat.{ℕ, ◌+◌}
use lib.Dec.{leb}
use lib.ListN.{length}
use borrow.Author.Tests.{leb-true}
use Rattle.ascii.specs.Output.{fits}
use Rattle.ascii.proofs.OutputLaws.{put_whole, put_nothing}
use Rattle.numbers.specs.Printing.{last_digits, digit_count}
use Rattle.numbers.proofs.PrintingLaws.{digits_length}
use Rattle.numbers.proofs.printing.write_whole.Goals as goal

abbrev text : ℕ → List ℕ
text n = last_digits (digit_count n) n

long : (n count : ℕ) → count ≡ digit_count n → count ≡ length (text n)
long n count e = e ∙ sym (digits_length (digit_count n) n)

-- what was asked is whether the digits fit
asked : (out : List ℕ) (at n count : ℕ) (t : Bool) → count ≡ digit_count n → t ≡ leb (at + count) (length out) → fits out at (text n) ≡ t
asked out at n count t e h = ap (λ (k : ℕ). leb (at + k) (length out)) (sym (long n count e)) ∙ sym h

pub returns-then-not-fits_at : goal.returns-then-not-fits_at
returns-then-not-fits_at c =
    let a = c.args in
    put_nothing a.out.now a.at (text a.n)
    (asked a.out.now a.at a.n _ _ c.digit_count-count.ensures c.fits_at.ensures ∙ c.if-not-fits_at.true)
    (long a.n _ c.digit_count-count.ensures)

pub put_digits-requires : goal.put_digits-requires
put_digits-requires c = leb-true _ _ (sym c.fits_at.ensures ∙ c.if-not-fits_at.false)

pub returns : goal.returns
returns c =
    let a = c.args in
    put_whole a.out.now a.at (text a.n)
    (asked a.out.now a.at a.n _ _ c.digit_count-count.ensures c.fits_at.ensures ∙ c.if-not-fits_at.false)
    (rw (sym c.digit_count-count.ensures) c.put_digits.ensures)
