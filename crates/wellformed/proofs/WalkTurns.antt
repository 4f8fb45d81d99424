-- One turn of each walk over the residues: what is left is tested from where the turn leaves off.
use mathlib.Core.Path.{◌≡◌, sym, ap, ◌∙◌}
use mathlib.Core.Bool.{Bool, true, false, ◌&&◌}
use mathlib.Core.List.{List}
use Prim.Native.Nat.{ℕ, ◌+◌, ◌≤◌, ◌<◌}
use lib.Dec.{eqb}
use lib.ListN.{length, get_or, take, drop}
use borrow.Author.Tests.{eq-eqb, ne_eqb}
use Rattle.field_slices.specs.Places.{pairs}
use Rattle.model.specs.declared.classes.Class.{Class}
use Rattle.model.specs.Neighbours.{lessers, alone_in, met_with, position_between}
use Rattle.wellformed.specs.Slices.{standing_in}
use Rattle.wellformed.specs.Walks.{is_classed, classed_from, Standing, stands_from}
use Rattle.wellformed.proofs.FromLaws.{rest, rest_turn, rest_end}
use Rattle.wellformed.proofs.SliceLaws.{pairs_are, map_from}

-- ---- classes
module _ (atoms : List ℕ) (at : ℕ → ℕ × Class) (n from i : ℕ) where
  pub classed_end : n ≤ i → classed_from atoms from (rest at n i) ≡ true
  unfolding classed_from
  classed_end h = ap (classed_from atoms from) (rest_end at n i h)

  -- past the atoms of lesser keys
  abbrev pub onward : ℕ
  onward = from + lessers (at i).0 (drop from atoms)

  module _ (h : i < n) (next : ℕ) (n-is : next ≡ onward) (lone : Bool) (l-is : lone ≡ alone_in (at i).0 (drop next atoms)) where
    turn : classed_from atoms from (rest at n i) ≡ (is_classed (at i).1 lone && classed_from atoms next (rest at n (i + 1)))
    unfolding classed_from
    turn =
        ap (classed_from atoms from) (rest_turn at n i h)
        ∙ ap (λ (m : ℕ). is_classed (at i).1 (alone_in (at i).0 (drop m atoms)) && classed_from atoms m (rest at n (i + 1))) (sym n-is)
        ∙ ap (λ (t : Bool). is_classed (at i).1 t && classed_from atoms next (rest at n (i + 1))) (sym l-is)

    pub classed_on : is_classed (at i).1 lone ≡ true → classed_from atoms from (rest at n i) ≡ classed_from atoms next (rest at n (i + 1))
    classed_on e = turn ∙ ap (λ (t : Bool). t && classed_from atoms next (rest at n (i + 1))) e

    pub classed_fails : is_classed (at i).1 lone ≡ false → classed_from atoms from (rest at n i) ≡ false
    classed_fails e = turn ∙ ap (λ (t : Bool). t && classed_from atoms next (rest at n (i + 1))) e

-- ---- positions

module _ (keys codes positions : List ℕ) (n met i : ℕ) where
  abbrev at : ℕ → Standing
  at k = standing_in keys codes positions k

  pub stands_end : n ≤ i → stands_from met (rest at n i) ≡ true
  unfolding stands_from
  stands_end h = ap (stands_from met) (rest_end at n i h)

  module _ (h : i < n) (k : n ≤ length keys) (c : n ≤ length codes) where
    abbrev pub ruled : ℕ
    ruled = position_between met (get_or keys i 0) (get_or codes i 0) (drop (i + 1) (take n (pairs keys codes)))

    stand_turn : stands_from met (rest at n i) ≡ (eqb (get_or positions i 0) ruled && stands_from (met_with met (get_or keys i 0) (get_or codes i 0)) (rest at n (i + 1)))
    unfolding stands_from
    stand_turn =
        ap (stands_from met) (rest_turn at n i h)
        ∙ ap (λ (l : List (ℕ × ℕ)). eqb (get_or positions i 0) (position_between met (get_or keys i 0) (get_or codes i 0) l) && stands_from (met_with met (get_or keys i 0) (get_or codes i 0)) (rest at n (i + 1)))
        (map_from (λ t. (t.key, t.code)) at (i + 1) _ ∙ pairs_are keys codes n (i + 1) k c)

    pub stands_on : (next : ℕ) → next ≡ met_with met (get_or keys i 0) (get_or codes i 0) → get_or positions i 0 ≡ ruled → stands_from met (rest at n i) ≡ stands_from next (rest at n (i + 1))
    stands_on next m e = stand_turn ∙ ap (λ (t : Bool). t && stands_from (met_with met (get_or keys i 0) (get_or codes i 0)) (rest at n (i + 1))) (eq-eqb (get_or positions i 0) ruled e) ∙ ap (λ (m : ℕ). stands_from m (rest at n (i + 1))) (sym m)

    pub stands_fails : (get_or positions i 0 ≡ ruled → ⊥) → stands_from met (rest at n i) ≡ false
    stands_fails e = stand_turn ∙ ap (λ (t : Bool). t && stands_from (met_with met (get_or keys i 0) (get_or codes i 0)) (rest at n (i + 1))) (ne_eqb (get_or positions i 0) ruled e)
