-- A word is beyond reach; otherwise the digits are cut off where their run ends.
use mathlib.Core.Path.{sym, ap, ◌∙◌, subst}
use Prim.Native.Nat.{ℕ, ◌≤◌}
use lib.ListN.{length}
use Rattle.ascii.proofs.DigitLaws.{run_fits}
use Rattle.numbers.specs.Grammar.{after_whole}
use Rattle.numbers.specs.Reading.{read_as}
use Rattle.numbers.proofs.GrammarLaws.{cut_digits, unsigned_word, unsigned_digits}
use Rattle.numbers.proofs.reading.read_unsigned.Goals as goal

pub returns-then-is_word : goal.returns-then-is_word
unfolding read_as
returns-then-is_word c = sym (ap read_as (unsigned_word _ c.args.s.now (sym c.is_word.ensures ∙ c.if-is_word.true)))

pub split_at-requires : goal.split_at-requires
split_at-requires c = let s = c.args.s.now in subst (λ (n : ℕ). n ≤ length s) (sym c.count_digits.ensures) (run_fits s)

pub returns : goal.returns
returns c =
    let negative = c.args.negative in
    let s = c.args.s.now in
    c.read_after_whole.ensures
    ∙ ap read_as
    (cut_digits (after_whole negative) s _ _ c.count_digits.result c.split_at.ensures.front c.split_at.ensures.back c.count_digits.ensures
    ∙ sym (unsigned_digits negative s (sym c.is_word.ensures ∙ c.if-is_word.false)))
