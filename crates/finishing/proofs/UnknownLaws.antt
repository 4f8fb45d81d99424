-- A residue whose class has no standard code is not resolved, and its mark is 0 where it is not HETATM: so the first of them that the walk finds is the
-- first unknown one of the entries.
use mathlib.Core.Path.{◌≡◌, refl, sym, ap, ◌∙◌}
use mathlib.Core.Bool.{Bool, true, false, not, cond, ◌&&◌}
use mathlib.Core.List.{[], ◌∷◌}
use mathlib.Core.Option as math
use Prim.Native.Nat.{ℕ, suc, ◌+◌, ◌<◌}
use native.Mathlib.Omega.{arith}
use lib.Dec.{eqb}
use lib.ListN.{length, get_or}
use borrow.Author.Tests.{eq-eqb, ne_eqb}
use Rattle.std.specs.Prelude.{Option, Some, None}
use Rattle.names.specs.Residues.{residues, residue_code, residue_of}
use Rattle.names.specs.Table.{resolve_of}
use Rattle.names.specs.declared.residues.StandardResidue.{StandardResidue}
use Rattle.names.specs.declared.table.Resolved.{Resolved}
use Rattle.names.proofs.CodesAreInverse.{residue_again}
use Rattle.model.specs.Classes.{class_by, class_of, is_resolved, is_unknown}
use Rattle.model.specs.Finished.{further, unknown_in}
use Rattle.model.specs.Fold.{Residue}
use Rattle.model.specs.Lists.{count}
use Rattle.model.specs.Map.{Entry, Map}
use Rattle.finishing.specs.Classing.{is_unknown_by, first_place}

-- ---- one residue
no_code_is_none : (r : StandardResidue) → residue_code r ≡ 0 → ⊥
unfolding residue_of residues
no_code_is_none r e =
    let f : ◌≡◌ {A = Option StandardResidue} None (Some r) = ap residue_of (sym e) ∙ residue_again r in
    let z : ◌≡◌ {A = ℕ} 0 1 = cc in
    omega arith

code_tells : (q : Option Resolved) (name : ℕ) (lone : Bool) → eqb (class_by q name lone).code 0 ≡ not (is_resolved q)
code_tells (Some to) name lone = ne_eqb (residue_code to.residue) 0 (no_code_is_none to.residue)
code_tells None name lone = eq-eqb 0 0 refl

mark_tells : (hetatm : Bool) → eqb (count hetatm) 0 ≡ not hetatm
mark_tells true = ne_eqb 1 0 (λ e. omega arith)
mark_tells false = eq-eqb 0 0 refl

pub unknown_by : (r : Residue) (lone : Bool) → is_unknown_by (class_of r.name lone).code (count r.hetatm) ≡ is_unknown r
unfolding class_of is_unknown
unknown_by r lone = λ i. code_tells (resolve_of r.name) r.name lone i && mark_tells r.hetatm i

-- ---- the first of them

-- what is read past the end
abbrev pub no_entry : Entry Residue
no_entry = record { key = 0; value = record { name = 0; hetatm = false } }

-- a place among those behind i others
abbrev place_behind : ℕ → math.Option ℕ → Option ℕ
place_behind i math.none = None
place_behind i (math.some place) = Some (i + place)

one_behind : (i : ℕ) (o : math.Option ℕ) → place_behind (suc i) o ≡ place_behind i (further o)
one_behind i math.none = refl
one_behind i (math.some place) = ap (λ (n : ℕ). Some n) (omega arith)

first_unknown : (passes : ℕ → Bool) (m : Map Residue) (i : ℕ) → ((j : ℕ) → j < length m → passes (i + j) ≡ is_unknown (get_or m j no_entry).value)
    → first_place passes i (length m) ≡ place_behind i (unknown_in m)
unfolding first_place unknown_in
first_unknown passes [] i w = refl
first_unknown passes (e ∷ m) i w =
    let here : passes i ≡ is_unknown e.value = ap passes (omega arith) ∙ w 0 (omega arith) in
    let rest = first_unknown passes m (suc i) (λ j h. let k : suc i + j ≡ i + suc j = omega arith in ap passes k ∙ w (suc j) (omega arith)) in
    ap (λ (b : Bool). cond b (Some (suc i)) (first_place passes (suc i) (length m))) here ∙ go (is_unknown e.value) rest
  where
    go : (b : Bool) → first_place passes (suc i) (length m) ≡ place_behind (suc i) (unknown_in m)
        → cond b (Some (suc i)) (first_place passes (suc i) (length m)) ≡ place_behind i (cond b (math.some 1) (further (unknown_in m)))
    go true r = ap (λ (n : ℕ). Some n) (omega arith)
    go false r = r ∙ one_behind i (unknown_in m)

module _ (passes : ℕ → Bool) (m : Map Residue) (w : (j : ℕ) → j < length m → passes j ≡ is_unknown (get_or m j no_entry).value) where
  found : first_place passes 0 (length m) ≡ place_behind 0 (unknown_in m)
  found = first_unknown passes m 0 (λ j h. let e : 0 + j ≡ j = omega arith in ap passes e ∙ w j h)

  pub none_unknown : first_place passes 0 (length m) ≡ None → unknown_in m ≡ math.none
  none_unknown z = go (unknown_in m) (sym z ∙ found)
    where
      go : (o : math.Option ℕ) → None ≡ place_behind 0 o → o ≡ math.none
      go math.none q = refl
      go (math.some place) q = cc

  pub some_unknown : (place : ℕ) → first_place passes 0 (length m) ≡ Some place → unknown_in m ≡ math.some place
  some_unknown place z = go (unknown_in m) (sym z ∙ found)
    where
      go : (o : math.Option ℕ) → Some place ≡ place_behind 0 o → o ≡ math.some place
      go math.none q = cc
      go (math.some k) q =
          let e : place ≡ 0 + k = cc in
          let same : k ≡ place = omega (arith, e) in
          ap (λ (n : ℕ). math.some n) same
