-- The rows put in ascending order of their names say of every name what they said before; and what they say stands at the name's place among them.
use mathlib.Core.Path.{◌≡◌, refl, sym, ap, subst, ◌∙◌}
use mathlib.Core.List.{List, [], ◌∷◌, ◌++◌, map}
use mathlib.Core.Bool.{Bool, true, false, cond}
use Prim.Native.Nat.{ℕ, ◌<◌}
use native.Mathlib.Omega.{arith}
use lib.Dec.{eqb, leb}
use lib.ListN.{length, get_or}
use borrow.Author.Tests.{eqb-true, ne_eqb, leb-false}
use Rattle.std.specs.Prelude.{Option, Some, None}
use Rattle.names.specs.declared.residues.StandardResidue.TheVariants.{ALA}
use Rattle.names.specs.declared.rows.Row as row
use Rattle.names.specs.declared.rows.TheConstants.{ROWS}
use Rattle.names.specs.declared.table.Resolved.{Resolved}
use Rattle.names.specs.Packing.{packed_in}
use Rattle.names.specs.Places.{next, place_of, ascends}
use Rattle.names.specs.Rows.{put, sorted, in_order, names}
use Rattle.names.specs.Table.{Row, canonical, aliases, resolve_in, resolve_of}
use Rattle.names.proofs.PlacesInOrder.{place_within}
use Rattle.names.proofs.TablesByTest.{answered as tabled_answered}

-- what a row says, of the definition and of the table
abbrev said : Row → Option Resolved
said r = Some (record { name = r.target; residue = r.residue })

abbrev pub said_in : row.Row → Option Resolved
said_in r = Some (record { name = r.1; residue = r.2 })

-- what stands past the end of the table
abbrev pub none : row.Row
none = (0, 0, ALA)

abbrev pub name_in : row.Row → ℕ
name_in r = r.0

-- ---- putting in order
-- two rows of two names can change places
swapped : (n x y : ℕ) (a b c : Option Resolved) → x < y → cond (eqb x n) a (cond (eqb y n) b c) ≡ cond (eqb y n) b (cond (eqb x n) a c)
swapped n x y a b c h = go (eqb x n) (eqb-true x n)
  where
    go : (t : Bool) → (t ≡ true → x ≡ n) → cond t a (cond (eqb y n) b c) ≡ cond (eqb y n) b (cond t a c)
    go true e = let other : y ≡ n → ⊥ = λ f. omega (arith, e refl) in rw (ne_eqb y n other)
    go false e = refl

put_same : (n : ℕ) (r : Row) (l : List Row) → resolve_in n (put r l) ≡ resolve_in n (r ∷ l)
unfolding put resolve_in
put_same n r [] = refl
put_same n r (x ∷ l) = go (leb r.name x.name) (leb-false r.name x.name) (put_same n r l)
  where
    go : (t : Bool) → (t ≡ false → x.name < r.name) → resolve_in n (put r l) ≡ resolve_in n (r ∷ l)
        → resolve_in n (cond t (r ∷ x ∷ l) (x ∷ put r l)) ≡ resolve_in n (r ∷ x ∷ l)
    go true h e = refl
    go false h e =
        ap (λ (o : Option Resolved). cond (eqb x.name n) (said x) o) e
        ∙ swapped n x.name r.name (said x) (said r) (resolve_in n l) (h refl)

sorted_same : (n : ℕ) (l : List Row) → resolve_in n (sorted l) ≡ resolve_in n l
unfolding sorted resolve_in
sorted_same n [] = refl
sorted_same n (r ∷ l) = put_same n r (sorted l) ∙ ap (λ (o : Option Resolved). cond (eqb r.name n) (said r) o) (sorted_same n l)

-- ---- by place
answered : List Row → Option ℕ → Option Resolved
answered l (Some i) = get_or (map said l) i None
answered l None = None

by_place : (n : ℕ) (l : List Row) → resolve_in n l ≡ answered l (place_of n (names l))
unfolding resolve_in answered place_of names
by_place n [] = refl
by_place n (r ∷ l) = go (eqb r.name n) (place_of n (names l)) (by_place n l)
  where
    go : (t : Bool) (p : Option ℕ) → resolve_in n l ≡ answered l p → cond t (said r) (resolve_in n l) ≡ answered (r ∷ l) (cond t (Some 0) (next p))
    go true p e = refl
    go false (Some i) e = e
    go false None e = e

-- ---- the table: its rows are the definition's in order, told by two computed tests
names_count : length (names in_order) ≡ 194
unfolding put sorted in_order names canonical aliases packed_in
names_count = refl

pub names_there : map name_in ROWS ≡ names in_order
unfolding put sorted in_order names canonical aliases packed_in
names_there = refl

-- a name that has a place has a row there
pub row_there : (n i : ℕ) → Some i ≡ place_of n (names in_order) → i < 194
row_there n i e = subst (λ (k : ℕ). i < k) names_count (place_within n (names in_order) i e)

said_there : map said_in ROWS ≡ map said in_order
unfolding put sorted in_order canonical aliases packed_in
said_there = refl

pub names_ascend : ascends (map name_in ROWS) ≡ true
unfolding ascends
names_ascend = refl

pub resolved_at : (n i : ℕ) → Some i ≡ place_of n (names in_order) → said_in (get_or ROWS i none) ≡ resolve_of n
unfolding in_order resolve_of answered
resolved_at n i e =
    tabled_answered said_in ROWS none None i (row_there n i e)
    ∙ ap (λ (l : List (Option Resolved)). get_or l i None) said_there
    ∙ ap (answered in_order) e
    ∙ sym (sym (sorted_same n (canonical ++ aliases)) ∙ by_place n in_order)

pub resolved_nowhere : (n : ℕ) → None ≡ place_of n (names in_order) → None ≡ resolve_of n
unfolding in_order resolve_of answered
resolved_nowhere n e = ap (answered in_order) e ∙ sym (sym (sorted_same n (canonical ++ aliases)) ∙ by_place n in_order)
