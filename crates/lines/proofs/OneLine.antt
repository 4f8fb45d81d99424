-- The promise of `line_at` leaves one answer: the first line's length says where the line ends, and the ending there where the next one begins.
use mathlib.Core.Path.{◌≡◌, refl, sym, ap, ◌∙◌}
use mathlib.Core.List.{List}
use mathlib.Core.Bool.{Bool, true, false}
use Prim.Native.Nat.{ℕ, ◌+◌, ◌-◌, ◌≤◌, ◌<◌}
use native.Mathlib.Omega.{arith}
use lib.Dec.{ltb}
use lib.ListN.{length, take, drop}
use borrow.Author.Tests.{ltb-true, ltb-false}
use Rattle.lines.specs.declared.lines.Line.{Line}
use Rattle.lines.specs.Lines.{ending_at, LineAt, LineOrEnd}
use Rattle.lines.proofs.LineLaws.{line_long}

module _ (text : List ℕ) (from : ℕ) (p q : Line) where
  same_line : LineAt text from p → LineAt text from q → p ≡ q
  same_line a b = λ i. record { end = ends i; next = nexts i }
    where
      rest : List ℕ
      rest = drop from text

      firsts : take (p.end - from) rest ≡ take (q.end - from) rest
      firsts = cc (a.lines, b.lines)

      ends : p.end ≡ q.end
      ends = omega (arith, line_long text from p a, line_long text from q b, ap length firsts, a.starts, b.starts)

      nexts : p.next ≡ q.next
      nexts = a.ending ∙ ap (λ (n : ℕ). n + ending_at text n) ends ∙ sym b.ending

  pub one_line : LineOrEnd text from p → LineOrEnd text from q → p ≡ q
  one_line a b = go (ltb from (length text)) (ltb-true from (length text)) (ltb-false from (length text))
    where
      go : (t : Bool) → (t ≡ true → from < length text) → (t ≡ false → length text ≤ from) → p ≡ q
      go true h k = same_line (a.line (h refl)) (b.line (h refl))
      go false h k = a.past (k refl) ∙ sym (b.past (k refl))
