-- There is no token where the line has no byte but blanks, or is a comment; any byte that is no quote begins the first one.
use mathlib.Core.Path.{◌≡◌, sym, ◌∙◌}
use mathlib.Core.List.{List, ◌∷◌}
use Prim.Native.Nat.{ℕ, suc, ◌<◌}
use native.Mathlib.Omega.{arith}
use lib.ListN.{length, get_or, drop, drop_of_length-le}
use lib.Seq.{drop-cons}
use Rattle.tokens.specs.Trim.{trim_start}
use Rattle.line_states.proofs.FirstByte.{no_byte, comment, first_begins}
use Rattle.line_states.proofs.FirstToken.{nothing_moves, other_moves}
use Rattle.line_states.proofs.reading.read_by_byte.Goals as goal

-- what is left of the line begins with the byte
begins : (line : List ℕ) (i : ℕ) → i < length line → drop i line ≡ trim_start line → trim_start line ≡ get_or line i 0 ∷ drop (suc i) line
begins line i h e = sym e ∙ drop-cons line i 0 h

pub returns-then-line-i : goal.returns-then-line-i
returns-then-line-i c =
    let a = c.args in
    let line = a.line.now in
    c.moved_to.ensures
    ∙ sym (nothing_moves a.heads line (no_byte line (sym c.trim_start-i.ensures.1 ∙ drop_of_length-le line c.if-line-i.true)))

pub returns-in-35 : goal.returns-in-35
returns-in-35 c =
    let a = c.args in
    let line = a.line.now in
    let i = c.trim_start-i.result in
    c.moved_to-in-35.ensures
    ∙ sym (nothing_moves a.heads line (comment line (get_or line i 0) (drop (suc i) line) (begins line i (omega arith) c.trim_start-i.ensures.1) c.in-35.is))

pub returns-in-95 : goal.returns-in-95
returns-in-95 c = c.read_by_token.ensures

pub returns-in_default : goal.returns-in_default
returns-in_default c =
    let a = c.args in
    let line = a.line.now in
    let i = c.trim_start-i.result in
    let b = get_or line i 0 in
    c.other_in.ensures
    ∙ sym (other_moves a.heads line b
    (first_begins line b (drop (suc i) line) (begins line i (omega arith) c.trim_start-i.ensures.1) (λ e. omega arith) (λ e. grind arith) (λ e. grind arith))
    (λ e. grind arith) (λ e. grind arith))
