-- Every name that resolves leads to a canonical name; canonical names lead to themselves; resolving twice is resolving once.
use mathlib.Core.Path.{◌≡◌, refl, sym, ap, ◌∙◌}
use mathlib.Core.List.{List, [], ◌∷◌, ◌++◌, map}
use mathlib.Core.Bool.{Bool, true, false, ◌||◌, cond, false≢true}
use Prim.Native.Nat.{ℕ}
use native.Mathlib.Nat.{suc-ne-zero}
use lib.Dec.{eqb}
use lib.ListN.{length, get_or, drop}
use borrow.Author.Tests.{eqb-true}
use Rattle.std.specs.Prelude.{Option, Some, None}
use Rattle.names.specs.declared.residues.StandardResidue.{StandardResidue}
use Rattle.names.specs.declared.table.Resolved.{Resolved}
use Rattle.names.specs.Packing.{packed_in}
use Rattle.names.specs.Table.{Row, canonical, aliases, named, is_canonical, resolve_in, resolve_of}

abbrev rows : List Row
rows = canonical ++ aliases

-- a canonical name t with its residue
abbrev stands : ℕ → StandardResidue → Option Resolved
stands t r = Some (record { name = t; residue = r })

abbrev name_in : Option Resolved → ℕ
name_in (Some r) = r.name
name_in None = 0

-- what a row says
abbrev said : Row → Option Resolved
said r = stands r.target r.residue

pub forty_canonical : length canonical ≡ 40
unfolding canonical
forty_canonical = refl

pub aliases_154 : length aliases ≡ 154
unfolding aliases
aliases_154 = refl

-- no name is given twice: what each row says is what its name stands for
pub each_stands : map (λ (r : Row). resolve_of r.name) rows ≡ map said rows
unfolding canonical aliases resolve_in resolve_of packed_in
each_stands = refl

-- a rule f ≡ g that holds of each row holds of the row that is found
found : {B : Type 0} (f g : Row → B) (l : List Row) → map f l ≡ map g l → (n t : ℕ) (r : StandardResidue) → resolve_in n l ≡ stands t r
    → (x : Row) × (f x ≡ g x) × (said x ≡ stands t r)
unfolding resolve_in
found f g [] test n t r e = let z : ◌≡◌ {A = ℕ} 0 1 = cc in absurd (suc-ne-zero 0 (sym z))
found {B = B} f g (x ∷ l) test n t r e = go (eqb x.name n) e (found f g l (ap (drop 1) test) n t r)
  where
    go : (u : Bool) → cond u (said x) (resolve_in n l) ≡ stands t r
        → (resolve_in n l ≡ stands t r → (x : Row) × (f x ≡ g x) × (said x ≡ stands t r)) → (x : Row) × (f x ≡ g x) × (said x ≡ stands t r)
    go true e later = (x, ap (λ (m : List B). get_or m 0 (f x)) test, e)
    go false e later = later e

targets_canonical : map (λ (r : Row). is_canonical r.target) rows ≡ map (λ (r : Row). true) rows
unfolding canonical aliases named packed_in
targets_canonical = refl

pub leads_to_canonical : (n t : ℕ) (r : StandardResidue) → resolve_of n ≡ stands t r → is_canonical t ≡ true
unfolding resolve_of
leads_to_canonical n t r e =
    let x = found (λ (r : Row). is_canonical r.target) (λ (r : Row). true) rows targets_canonical n t r e in
    let same : x.0.target ≡ t = ap name_in x.2 in
    sym (ap is_canonical same) ∙ x.1

targets_stay : map (λ (r : Row). resolve_of r.target) rows ≡ map said rows
unfolding canonical aliases resolve_in resolve_of packed_in
targets_stay = refl

pub twice : (n t : ℕ) (r : StandardResidue) → resolve_of n ≡ stands t r → resolve_of t ≡ stands t r
unfolding resolve_of
twice n t r e =
    let x = found (λ (r : Row). resolve_of r.target) said rows targets_stay n t r e in
    let same : x.0.target ≡ t = ap name_in x.2 in
    sym (ap resolve_of same) ∙ x.1 ∙ x.2

canonical_targets : map (λ (r : Row). r.target) canonical ≡ map (λ (r : Row). r.name) canonical
unfolding canonical
canonical_targets = refl

stays : (n : ℕ) (l m : List Row) → map (λ (r : Row). r.target) l ≡ map (λ (r : Row). r.name) l → named n l ≡ true
    → (r : StandardResidue) × (resolve_in n (l ++ m) ≡ stands n r)
unfolding named resolve_in
stays n [] m test e = absurd (false≢true e)
stays n (x ∷ l) m test e = go (eqb x.name n) (eqb-true x.name n) e (stays n l m (ap (drop 1) test))
  where
    go : (u : Bool) → (u ≡ true → x.name ≡ n) → (u || named n l) ≡ true → (named n l ≡ true → (r : StandardResidue) × (resolve_in n (l ++ m) ≡ stands n r))
        → (r : StandardResidue) × (cond u (said x) (resolve_in n (l ++ m)) ≡ stands n r)
    go true h e later = (x.residue, ap (λ (k : ℕ). stands k x.residue) (ap (λ (k : List ℕ). get_or k 0 x.target) test ∙ h refl))
    go false h e later = later e

pub canonical_stays : (n : ℕ) → is_canonical n ≡ true → (r : StandardResidue) × (resolve_of n ≡ stands n r)
unfolding resolve_of
canonical_stays n e = stays n canonical aliases canonical_targets e
