-- Each case of the answer is a case of the definition.
use mathlib.Core.Path.{sym, ap, ◌∙◌}
use mathlib.Core.List.{[], ◌∷◌}
use Rattle.results.specs.Results.{numbers_in}
use Rattle.results.proofs.results.numbers_of.Goals as goal

pub returns-in-Ok : goal.returns-in-Ok
returns-in-Ok c = sym (ap numbers_in c.in-Ok.is)

pub returns-in-Err : goal.returns-in-Err
returns-in-Err c =
    (λ i. c.in-Err.why.line ∷ c.detail.ensures i ∷ 0 ∷ 0 ∷ 0 ∷ 0 ∷ 0 ∷ [])
    ∙ sym (ap numbers_in c.in-Err.is)
