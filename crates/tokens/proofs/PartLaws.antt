-- Each case of `part_of` is one of `token_in`: there is no such token, or it lies between its two places, of which none is past the cell's end.
use mathlib.Core.Path.{◌≡◌, sym, ap, ◌∙◌}
use mathlib.Core.List.{List, []}
use Prim.Native.Nat.{ℕ, ◌+◌, ◌-◌, ◌≤◌, ◌<◌}
use native.Mathlib.Nat.{le_refl, le_of_lt}
use native.Mathlib.Numerals.{add-one}
use native.Mathlib.Omega.{arith}
use lib.ListN.{length, get_or, take, drop, length-drop, drop_of_length-le, get_or-eq_default}
use lib.Seq.{take_all}
use borrow.Author.Tests.{lt-ltb, le-ltb}
use Rattle.tokens.specs.declared.split.Part.{Part}
use Rattle.tokens.specs.Split.{token_in, IsPart}

abbrev no_part : Part
no_part = record { start = 0; end = 0 }

nothing_there : (cell token : List ℕ) → token ≡ [] → IsPart cell token no_part
nothing_there cell token e = record { ordered = omega arith; within = omega arith; there = sym e }

-- ---- all from an index on
module _ (cell : List ℕ) (start : ℕ) where
  pub rest_none : length cell < start → IsPart cell (drop start cell) no_part
  rest_none h = nothing_there cell (drop start cell) (drop_of_length-le cell (le_of_lt h))

  pub rest_some : start ≤ length cell → IsPart cell (drop start cell) (record { start = start; end = length cell })
  rest_some h = record { ordered = h; within = le_refl (length cell); there = take_all (length cell - start) (drop start cell) (omega (arith, length-drop start cell)) }

-- ---- a token
module _ (cell places : List ℕ) (n k : ℕ) where
  abbrev token : List ℕ
  token = token_in cell places n k

  pub token_none : n ≤ k → IsPart cell token no_part
  unfolding token_in
  token_none h = nothing_there cell (token_in cell places n k) (rw (le-ltb k n h))

  module _ (more : k < n) where
    abbrev start : ℕ
    start = get_or places k 0

    abbrev end : ℕ
    end = get_or places (k + 1) 0

    token_is : token ≡ take (end - start) (drop start cell)
    unfolding token_in
    token_is = rw (lt-ltb k n more, add-one)

    empty : end ≤ start → token ≡ []
    empty h = token_is ∙ ap (λ (m : ℕ). take m (drop start cell)) none
      where
        none : end - start ≡ 0
        none = omega arith

    pub place_none : length places ≤ k + 1 → IsPart cell token no_part
    place_none h = nothing_there cell token (empty (omega (arith, get_or-eq_default places 0 {n = k + 1} h)))

    pub places_crossed : end < start → IsPart cell token no_part
    places_crossed h = nothing_there cell token (empty (omega arith))

    pub token_cut : (p : Part) → length cell < end → IsPart cell (drop start cell) p → IsPart cell token p
    token_cut p h t = record {
      ordered = t.ordered;
      within = t.within;
      there = t.there ∙ sym (token_is ∙ take_all (end - start) (drop start cell) (omega (arith, length-drop start cell)));
    }

    pub token_some : start ≤ end → end ≤ length cell → IsPart cell token (record { start = start; end = end })
    token_some h r = record { ordered = h; within = r; there = sym token_is }
