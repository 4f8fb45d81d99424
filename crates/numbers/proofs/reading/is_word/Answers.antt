-- The three comparisons are the three words of `is_word`, in its order.
use mathlib.Core.Path.{sym, ◌∙◌}
use mathlib.Core.Bool.{true≢false}
use Rattle.numbers.specs.Grammar.{is_word}
use Rattle.numbers.proofs.reading.is_word.Goals as goal
use Rattle.numbers.proofs.reading.is_word.Goals.{then-eq_ignore_ascii_case, else-eq_ignore_ascii_case}

pub returns-then-eq_ignore_ascii_case-2 : goal.returns-then-eq_ignore_ascii_case-2
unfolding is_word
returns-then-eq_ignore_ascii_case-2 c = elim c.if-eq_ignore_ascii_case.branch [
  | then-eq_ignore_ascii_case w ↦ c.if-eq_ignore_ascii_case-2.true ∙ sym (simp (sym c.eq_ignore_ascii_case.ensures ∙ w.if-eq_ignore_ascii_case.true))
  | else-eq_ignore_ascii_case w ↦ c.if-eq_ignore_ascii_case-2.true ∙ sym (simp (sym c.eq_ignore_ascii_case.ensures ∙ w.if-eq_ignore_ascii_case.false, sym w.eq_ignore_ascii_case-else-eq_ignore_ascii_case.ensures ∙ sym w.value-is ∙ c.if-eq_ignore_ascii_case-2.true))
]

pub returns-else-eq_ignore_ascii_case-2 : goal.returns-else-eq_ignore_ascii_case-2
unfolding is_word
returns-else-eq_ignore_ascii_case-2 c = elim c.if-eq_ignore_ascii_case.branch [
  | then-eq_ignore_ascii_case w ↦ absurd (true≢false (sym w.if-eq_ignore_ascii_case.true ∙ sym w.value-is ∙ c.if-eq_ignore_ascii_case-2.false))
  | else-eq_ignore_ascii_case w ↦ c.eq_ignore_ascii_case-else-eq_ignore_ascii_case-2.ensures ∙ sym (simp (sym c.eq_ignore_ascii_case.ensures ∙ w.if-eq_ignore_ascii_case.false, sym w.eq_ignore_ascii_case-else-eq_ignore_ascii_case.ensures ∙ sym w.value-is ∙ c.if-eq_ignore_ascii_case-2.false))
]
