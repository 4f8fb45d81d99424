-- What is left of the text from a place on begins with the line: before its first 10, or all of it where none is.
use mathlib.Core.Path.{◌≡◌, refl, ap, subst, ◌∙◌}
use mathlib.Core.List.{List}
use Prim.Native.Nat.{ℕ, ◌-◌}
use native.Mathlib.Omega.{arith}
use lib.ListN.{length, take, drop}
use Rattle.ascii.proofs.ListLaws.{tail_is}
use Rattle.lines.specs.Lines.{feed_place, line_length}
use Rattle.lines.proofs.LineLaws.{ended_line, unended_line, length_fits}
use Rattle.lines.proofs.lines.line_at.Goals as goal

pub returns-then-size-from : goal.returns-then-size-from
returns-then-size-from c = record { line = λ h. absurd (omega arith); past = λ h. refl }

pub returns-in_default : goal.returns-in_default
returns-in_default c =
    let text = c.args.text.now in
    let from = c.args.from in
    let none = subst (λ (l : List ℕ). feed_place l ≡ length l) (tail_is from text) c.in_default.ensures in
    record { line = λ h. unended_line text from h (omega arith); past = λ h. absurd (omega arith) }

pub overflow_add-result : goal.overflow_add-result
overflow_add-result c =
    let text = c.args.text.now in
    let from = c.args.from in
    let found = c.in-Some.ensures in
    omega (arith, found.1, length_fits (take (length text - from) (drop from text)) c.in-Some.feed)

pub returns : goal.returns
returns c =
    let text = c.args.text.now in
    let from = c.args.from in
    let feed = c.in-Some.feed in
    let found = c.in-Some.ensures in
    record {
      line = λ h. ended_line text from h (found.0 ∙ ap feed_place (tail_is from text)) (omega (arith, found.1, ap length (tail_is from text))) (c.line_length.ensures ∙ ap (λ (l : List ℕ). line_length l feed) (tail_is from text));
      past = λ h. absurd (omega arith);
    }
