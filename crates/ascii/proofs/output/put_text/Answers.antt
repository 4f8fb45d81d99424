-- The text is put where it fits, which is what the code asks; one store more is one byte more.
use mathlib.Core.Path.{refl, sym, ◌∙◌}
use native.Mathlib.Omega.{arith}
use Rattle.ascii.proofs.OutputLaws.{copy_more, copy_end, put_whole, put_nothing}
use Rattle.ascii.proofs.output.put_text.Goals as goal

pub returns-then-not-fits_at : goal.returns-then-not-fits_at
returns-then-not-fits_at c =
    let a = c.args in
    put_nothing a.out.now a.at a.text.now (sym c.fits_at.ensures ∙ c.if-not-fits_at.true) refl

pub loop-i-preserved : goal.loop-i-preserved
loop-i-preserved c =
    let a = c.args in
    rw c.loop-i.invariant (copy_more a.out.now a.at a.text.now c.loop-i.i (omega arith))

pub returns : goal.returns
returns c =
    let a = c.args in
    let fitting = sym c.fits_at.ensures ∙ c.if-not-fits_at.false in
    put_whole a.out.now a.at a.text.now fitting (record { bytes = c.loop-i.invariant ∙ copy_end a.out.now a.at a.text.now c.loop-i.i (omega arith); place = refl })
