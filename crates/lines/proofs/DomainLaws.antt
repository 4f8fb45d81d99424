-- What a byte does to the line number, by its range; and a turn of the loop over a text is one clause of `outside_from`.
use mathlib.Core.Path.{◌≡◌, refl, ap, ◌∙◌}
use mathlib.Core.List.{List}
use mathlib.Core.Bool.{Bool, true, false, cond}
use Prim.Native.Nat.{ℕ, ◌+◌, ◌≤◌, ◌<◌}
use native.Mathlib.Nat.{add-zero}
use native.Mathlib.Numerals.{add-one}
use native.Mathlib.Omega.{arith}
use lib.Dec.{eqb}
use lib.ListN.{length, get_or, drop, drop_of_length-le}
use lib.Seq.{drop-cons, get_or-drop}
use borrow.Author.Tests.{ne_eqb, le-leb, lt-leb}
use Rattle.std.specs.Prelude.{Option, Some, None}
use Rattle.ascii.specs.Bytes.{first}
use Rattle.lines.specs.declared.domain.Outside.{Outside}
use Rattle.lines.specs.Domain.{is_allowed, line_after, line_behind, outside_from}

-- ---- one byte
module _ (line b next : ℕ) where
  pub printable : 32 ≤ b → b ≤ 126 → Some line ≡ line_behind line b next
  printable h k = simp (ne_eqb b 9 (λ e. omega arith), ne_eqb b 10 (λ e. omega arith), le-leb 32 b h, le-leb b 126 k)

  pub past_printable : 126 < b → None ≡ line_behind line b next
  past_printable h = simp (ne_eqb b 9 (λ e. omega arith), ne_eqb b 10 (λ e. omega arith), ne_eqb b 13 (λ e. omega arith), le-leb 32 b (omega arith), lt-leb b 126 h)

  pub control : b < 32 → (b ≡ 9 → ⊥) → (b ≡ 10 → ⊥) → (b ≡ 13 → ⊥) → None ≡ line_behind line b next
  control h tab feed return = simp (ne_eqb b 9 tab, ne_eqb b 10 feed, ne_eqb b 13 return, lt-leb 32 b h)

  -- a line more at most
  pub behind_fits : {on : ℕ} → line_behind line b next ≡ Some on → on ≤ line + 1
  behind_fits {on} e = go (is_allowed b next) (eqb b 10) e
    where
      go : (t u : Bool) → cond t (Some (cond u (line + 1) line)) None ≡ Some on → on ≤ line + 1
      go true true e = let same : line + 1 ≡ on = cc in omega arith
      go true false e = let same : line ≡ on = cc in omega arith
      go false u e = let z : ◌≡◌ {A = ℕ} 0 1 = cc in omega arith

-- ---- a turn of the loop
module _ (text : List ℕ) (i line : ℕ) where
  abbrev here : ℕ
  here = get_or text i 0

  abbrev after : ℕ
  after = get_or text (i + 1) 0

  next_byte : first (drop (i + 1) text) ≡ after
  next_byte = get_or-drop (i + 1) text 0 0 ∙ ap (λ (n : ℕ). get_or text n 0) (add-zero (i + 1))

  -- by the line of the next byte
  abbrev turned : Option ℕ → Option Outside
  turned (Some next) = outside_from next (drop (i + 1) text)
  turned None = Some (record { line = line; byte = here })

  outside_step :
      i < length text
      → outside_from line (drop i text) ≡ cond (is_allowed here (first (drop (i + 1) text))) (turned (Some (line_after line here))) (turned None)
  unfolding outside_from
  outside_step h = rw (add-one i, drop-cons text i 0 h)

  outside_turn : i < length text → outside_from line (drop i text) ≡ turned (line_behind line here after)
  outside_turn h = outside_step h ∙ rw next_byte (go (is_allowed here after))
    where
      go : (t : Bool) → cond t (turned (Some (line_after line here))) (turned None) ≡ turned (cond t (Some (line_after line here)) None)
      go true = refl
      go false = refl

  pub outside_here : i < length text → line_behind line here after ≡ None → outside_from line (drop i text) ≡ Some (record { line = line; byte = here })
  outside_here h e = outside_turn h ∙ ap turned e

  pub outside_further : {next : ℕ} → i < length text → line_behind line here after ≡ Some next → outside_from line (drop i text) ≡ outside_from next (drop (i + 1) text)
  outside_further h e = outside_turn h ∙ ap turned e

  pub outside_none : length text ≤ i → outside_from line (drop i text) ≡ None
  unfolding outside_from
  outside_none h = rw (drop_of_length-le text h)
