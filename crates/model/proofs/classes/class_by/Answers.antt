-- Each case of the answer is a case of the definition.
use mathlib.Core.Path.{sym, ap, ◌∙◌}
use Rattle.names.specs.Categories.{category_code}
use Rattle.model.specs.Classes.{class_by}
use Rattle.model.proofs.classes.class_by.Goals as goal

pub returns-in-Some : goal.returns-in-Some
returns-in-Some c =
    let a = c.args in
    (λ i. record { name = c.in-Some.to.name; code = c.code.ensures i; category = c.code-in-Some.ensures i })
    ∙ sym (ap (λ resolved. class_by resolved a.name a.lone) c.in-Some.is)

pub returns-in-None : goal.returns-in-None
returns-in-None c =
    let a = c.args in
    (λ i. record { name = a.name; code = 0; category = (c.code-in-None.ensures ∙ ap category_code c.other_category.ensures) i })
    ∙ sym (ap (λ resolved. class_by resolved a.name a.lone) c.in-None.is)
