-- The keys of residues ascend, and those of atoms do not fall, so that past the atoms of lesser keys the walk stands at the residue's own; and each residue
-- has some, since they are the runs of the atoms. So one walk tells of each residue whether it has one atom, as the definition counts them.
use Prim.{tt}
use mathlib.Core.Path.{◌≡◌, refl, sym, ap, ◌∙◌, subst}
use mathlib.Core.Bool.{Bool, true, false, ◌&&◌, ◌||◌, cond, or-true}
use mathlib.Core.List.{List, [], ◌∷◌, map}
use Prim.Native.Nat.{ℕ, ◌+◌, ◌≤◌, ◌<◌}
use native.Mathlib.Omega.{arith}
use lib.Dec.{eqb}
use lib.ListN.{drop}
use borrow.Author.Tests.{le-ltb, eq-eqb}
use Rattle.names.specs.Places.{ascends}
use Rattle.model.specs.declared.classes.Class.{Class}
use Rattle.model.specs.Lists.{any, All}
use Rattle.model.specs.Records.{ResidueRecord, AtomRecord}
use Rattle.model.specs.Neighbours.{lessers, alone_in}
use Rattle.ascii.specs.Lists.{every}
use Rattle.model.specs.WellFormed.{same_list, runs_after, runs_of, class_well}
use Rattle.model.proofs.AscendingLaws.{ascends_all}
use Rattle.model.proofs.ListLaws.{all_map, any_map}
use Rattle.model.proofs.RunsLaws.{list_same}
use Rattle.model.proofs.WalkLaws.{Rising, lessers_onward, lone_is}
use Rattle.wellformed.specs.Walks.{is_classed, classed_from}

-- ---- each residue has an atom
abbrev Among : List ℕ → ℕ → Type 0
Among l k = any (λ x. eqb x k) l ≡ true

further : (y : ℕ) (l : List ℕ) (k : ℕ) → Among l k → Among (y ∷ l) k
further y l k e = ap (λ (t : Bool). eqb y k || t) e ∙ or-true (eqb y k)

first_among : (y : ℕ) (l : List ℕ) → Among (y ∷ l) y
first_among y l = ap (λ (t : Bool). t || any (λ x. eqb x y) l) (eq-eqb y y refl)

runs_among : (x : ℕ) (l : List ℕ) → All (Among l) (runs_after x l)
unfolding runs_after
runs_among x [] = tt
runs_among x (y ∷ l) = go (eqb x y) (runs_among x l) (runs_among y l)
  where
    go : (b : Bool) → All (Among l) (runs_after x l) → All (Among l) (runs_after y l) → All (Among (y ∷ l)) (cond b (runs_after x l) (y ∷ runs_after y l))
    go true m n = all_map (Among l) (Among (y ∷ l)) (further y l) (runs_after x l) m
    go false m n = (first_among y l, all_map (Among l) (Among (y ∷ l)) (further y l) (runs_after y l) n)

in_runs_lem : (l ks : List ℕ) → same_list (runs_of l) ks ≡ true → All (Among l) ks
in_runs_lem [] ks e = subst (All (Among [])) (list_same [] ks e) tt
in_runs_lem (x ∷ l) ks e =
    subst (All (Among (x ∷ l))) (list_same (x ∷ runs_after x l) ks e)
    (first_among x l, all_map (Among l) (Among (x ∷ l)) (further x l) (runs_after x l) (runs_among x l))

-- ---- the walk
abbrev pub classed : ResidueRecord → ℕ × Class
classed r = (r.key, record { name = r.name; code = r.code; category = r.category })

module _ (atoms : List AtomRecord) (rises : Rising (map (λ a. a.key) atoms)) where
  abbrev keys : List ℕ
  keys = map (λ a. a.key) atoms

  abbrev HasAtom : ResidueRecord → Type 0
  HasAtom r = Among keys r.key

  one : (r : ResidueRecord) (at : ℕ) → at ≡ lessers r.key keys → HasAtom r → is_classed (classed r).1 (alone_in r.key (drop at keys)) ≡ class_well atoms r
  unfolding class_well
  one r at e h =
      ap (is_classed (classed r).1)
      (ap (λ (n : ℕ). alone_in r.key (drop n keys)) e
      ∙ sym (lone_is r.key atoms rises (sym (any_map (λ a. a.key) (λ x. eqb x r.key) atoms) ∙ h)))

  walk : (k from : ℕ) (l : List ResidueRecord) → from ≡ lessers k keys → All (λ r. k ≤ r.key) l → ascends (map (λ r. r.key) l) ≡ true → All HasAtom l
      → classed_from keys from (map classed l) ≡ every (class_well atoms) l
  unfolding classed_from
  walk k from [] e least a has = refl
  walk k from (r ∷ l) e least a has =
      let at : ℕ = from + lessers r.key (drop from keys) in
      let at-is : from + lessers r.key (drop from keys) ≡ lessers r.key keys =
      ap (λ (n : ℕ). n + lessers r.key (drop n keys)) e ∙ sym (lessers_onward k r.key keys least.0) in
      let after = ascends_all (λ t. t.key) r l a in
      ap (λ (t : Bool). t && classed_from keys at (map classed l)) (one r at at-is has.0)
      ∙ ap (λ (t : Bool). class_well atoms r && t)
      (walk r.key at l at-is (all_map (λ t. r.key < t.key) (λ t. r.key ≤ t.key) (λ t g. omega arith) l after.0) after.1 has.1)

  none_less : (l : List ℕ) → 0 ≡ lessers 0 l
  unfolding lessers
  none_less [] = refl
  none_less (x ∷ l) = rw (le-ltb x 0 (omega arith))

  all_least : (l : List ResidueRecord) → All (λ r. 0 ≤ r.key) l
  all_least [] = tt
  all_least (r ∷ l) = (omega arith, all_least l)

  of_keys : (l : List ResidueRecord) → All (Among keys) (map (λ r. r.key) l) → All HasAtom l
  of_keys [] a = tt
  of_keys (r ∷ l) a = (a.0, of_keys l a.1)

  pub classes_walked : (l : List ResidueRecord) → ascends (map (λ r. r.key) l) ≡ true → same_list (runs_of keys) (map (λ r. r.key) l) ≡ true
      → classed_from keys 0 (map classed l) ≡ every (class_well atoms) l
  classes_walked l a e = walk 0 0 l (none_less keys) (all_least l) a (of_keys l (in_runs_lem keys (map (λ r. r.key) l) e))
