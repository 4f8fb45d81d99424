-- Every byte passes a test exactly where the greatest mark is 0, the mark of a byte being 0 where it passes and 1 where it does not: each turn takes one byte from those that are left.
use mathlib.Core.Path.{◌≡◌, refl, sym, ap, ◌∙◌}
use mathlib.Core.List.{List}
use mathlib.Core.Bool.{Bool, true, false, ◌&&◌, cond, and-true, and-false}
use Prim.Native.Nat.{ℕ, ◌+◌, ◌≤◌, ◌<◌}
use native.Mathlib.Numerals.{add-one}
use native.Mathlib.Omega.{arith}
use lib.Dec.{eqb}
use lib.ListN.{length, get_or, drop, drop_of_length-le}
use lib.Seq.{drop-cons}
use borrow.Author.Tests.{ne_eqb}
use Rattle.ascii.specs.Lists.{every}

-- every byte passes exactly where most is 0 and every byte from index i on passes
abbrev pub MarkedTo : (ℕ → Bool) → List ℕ → ℕ → ℕ → Type 0
MarkedTo passes text i most = every passes text ≡ (eqb most 0 && every passes (drop i text))

module _ (passes : ℕ → Bool) (text : List ℕ) (i : ℕ) where
  abbrev here : Bool
  here = passes (get_or text i 0)

  abbrev later : Bool
  later = every passes (drop (i + 1) text)

  one_more : i < length text → every passes (drop i text) ≡ (here && later)
  one_more h = rw (add-one i, drop-cons text i 0 h)

  module _ {most mark : ℕ} (begins : i < length text) (is-mark : mark ≡ cond here 0 1) (so_far : MarkedTo passes text i most) where
    pub greater_mark : most < mark → MarkedTo passes text (i + 1) mark
    greater_mark more = so_far ∙ rw (one_more begins) (go here is-mark)
      where
        go : (t : Bool) → mark ≡ cond t 0 1 → (eqb most 0 && (t && later)) ≡ (eqb mark 0 && later)
        go true e = absurd (omega arith)
        go false e = and-false (eqb most 0) ∙ sym (ap (λ (u : Bool). u && later) (ne_eqb mark 0 (λ z. omega arith)))

    pub smaller_mark : mark ≤ most → MarkedTo passes text (i + 1) most
    smaller_mark less = so_far ∙ rw (one_more begins) (go here is-mark)
      where
        go : (t : Bool) → mark ≡ cond t 0 1 → (eqb most 0 && (t && later)) ≡ (eqb most 0 && later)
        go true e = refl
        go false e = and-false (eqb most 0) ∙ sym (ap (λ (u : Bool). u && later) (ne_eqb most 0 (λ z. omega arith)))

  pub all_marked : (most : ℕ) → length text ≤ i → MarkedTo passes text i most → every passes text ≡ eqb most 0
  all_marked most h so_far = so_far ∙ rw (drop_of_length-le text h) (and-true (eqb most 0))
