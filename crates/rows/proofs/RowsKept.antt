-- A row is kept where it reaches all that it must, its numbers are values and its names fit; and only there, since each step but the last hands on
-- what it was given.
use mathlib.Core.Path.{◌≡◌, refl, ap, subst, ◌∙◌}
use mathlib.Core.Bool.{Bool, true, false, not, cond}
use Prim.Native.Nat.{◌≤◌}
use lib.Dec.{T, nltb→le}
use lib.Ieee.{Float}
use borrow.Author.Tests.{le-ltb}
use Rattle.std.specs.Prelude.{Some, None, Ok, Err}
use Rattle.refusals.specs.declared.details.Label.TheVariants.{Atom, Residue, Chain}
use Rattle.refusals.specs.declared.reasons.Reason.TheVariants.{NameTooLong}
use Rattle.rows.specs.declared.fields.Fields.{Fields}
use Rattle.rows.specs.declared.rules.Point3.{Point3}
use Rattle.rows.specs.declared.rules.Site.{Site}
use Rattle.rows.specs.declared.settings.Settings.{Settings}
use Rattle.rows.specs.Fields.{Measure}
use Rattle.rows.specs.Reach.{Reach}
use Rattle.rows.specs.Rules.{Row, passing, site_of, too_long, named, occupancy_of, occupied, located, given_all, reached, by_reach, row_of}
use Rattle.rows.proofs.RowCases.{Read, row_is}

-- the three names have at most 8 bytes
pub record NamesFit (f : Fields) : Type 0 where
  pub atom : f.atom.length ≤ 8
  pub residue : f.residue.length ≤ 8
  pub chain : f.chain.length ≤ 8

-- ---- with all of it: kept
named_kept : (f : Fields) → NamesFit f → (position : Point3) (o : Float) (assumed : Bool) → named f position o assumed ≡ Ok (Some (site_of f position o assumed))
unfolding named
named_kept f n position o assumed = rw (le-ltb 8 f.atom.length n.atom, le-ltb 8 f.residue.length n.residue, le-ltb 8 f.chain.length n.chain)

pub kept : (settings : Settings) (f : Fields) {x y z o : Float} → f.reach ≡ Ok tt → f.x ≡ Some (Ok x) → f.y ≡ Some (Ok y) → f.z ≡ Some (Ok z) → f.occupancy ≡ Some (Ok o) → NamesFit f → row_of settings f ≡ Ok (Some (site_of f (record { x = x; y = y; z = z }) o false))
unfolding row_of reached located occupied
kept settings f {x} {y} {z} {o} er ex ey ez eo n =
    ap (λ (r : Reach). by_reach r (reached settings f)) er
    ∙ ap (λ (c : Measure). given_all c f.y f.z (located settings f)) ex
    ∙ ap (λ (c : Measure). given_all (Some (Ok x)) c f.z (located settings f)) ey
    ∙ ap (λ (c : Measure). given_all (Some (Ok x)) (Some (Ok y)) c (located settings f)) ez
    ∙ ap (λ (c : Measure). passing (occupancy_of settings c) (λ p. named f (record { x = x; y = y; z = z }) p.value p.assumed)) eo
    ∙ named_kept f n (record { x = x; y = y; z = z }) o false

-- ---- kept: all of it
pub record KeptOf (f : Fields) (s : Site) : Type 0 where
  pub read : Read f s.position s.occupancy
  pub names : NamesFit f
  pub site : s ≡ site_of f s.position s.occupancy s.assumed

abbrev IfKept : Fields → Row → Type 0
IfKept f (Err r) = Unit {0}
IfKept f (Ok None) = Unit {0}
IfKept f (Ok (Some s)) = KeptOf f s

named_only : (f : Fields) (position : Point3) (o : Float) (assumed : Bool) → Read f position o → IfKept f (named f position o assumed)
unfolding named
named_only f position o assumed w = go (too_long f.atom) (too_long f.residue) (too_long f.chain) (nltb→le 8 f.atom.length) (nltb→le 8 f.residue.length) (nltb→le 8 f.chain.length)
  where
    go :
        (t u v : Bool) → (T (not t) → f.atom.length ≤ 8) → (T (not u) → f.residue.length ≤ 8) → (T (not v) → f.chain.length ≤ 8)
        → IfKept f (cond t (Err (NameTooLong Atom)) (cond u (Err (NameTooLong Residue)) (cond v (Err (NameTooLong Chain)) (Ok (Some (site_of f position o assumed))))))
    go true u v a r c = tt
    go false true v a r c = tt
    go false false true a r c = tt
    go false false false a r c = record { read = w; names = record { atom = a tt; residue = r tt; chain = c tt }; site = refl }

pub kept_only : (settings : Settings) (f : Fields) (s : Site) → row_of settings f ≡ Ok (Some s) → KeptOf f s
kept_only settings f s e = subst (IfKept f) e (row_is settings (IfKept f) (λ r. tt) f tt (named_only f))
