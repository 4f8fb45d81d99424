-- A row is skipped exactly where it reaches all that it must and one of x, y and z is missing: whatever its names and its occupancy are, since
-- they are asked for only afterwards, and no later step skips.
use mathlib.Core.Path.{◌≡◌, refl, sym, ap, ◌∙◌}
use mathlib.Core.Logic.{◌⊎◌, inl, inr}
use mathlib.Core.Bool.{Bool, true, false, cond, false≢true}
use lib.Ieee.{Float}
use Rattle.std.specs.Prelude.{Some, None, is_none, Ok, Err}
use Rattle.refusals.specs.declared.details.Label.TheVariants.{Atom, Residue, Chain}
use Rattle.refusals.specs.declared.reasons.Reason.TheVariants.{NameTooLong}
use Rattle.rows.specs.declared.fields.Fields.{Fields}
use Rattle.rows.specs.declared.rules.Point3.{Point3}
use Rattle.rows.specs.declared.settings.Settings.{Settings}
use Rattle.rows.specs.Fields.{Number, Measure}
use Rattle.rows.specs.Reach.{Reach}
use Rattle.rows.specs.Rules.{Row, too_long, site_of, named, located, given_all, reached, by_reach, row_of}
use Rattle.rows.proofs.RowCases.{located_is}

abbrev pub OneMissing : Fields → Type 0
OneMissing f = (f.x ≡ None) ⊎ ((f.y ≡ None) ⊎ (f.z ≡ None))

-- ---- one missing: skipped
given_not : {n : Number} {A : Type 0} → Some n ≡ None → A
given_not e = absurd (false≢true (ap is_none e))

any_skips : (row : Number → Number → Number → Row) (x y z : Measure) → (x ≡ None) ⊎ ((y ≡ None) ⊎ (z ≡ None)) → given_all x y z row ≡ Ok None
any_skips row None y z m = refl
any_skips row (Some a) None z m = refl
any_skips row (Some a) (Some b) None m = refl
any_skips row (Some a) (Some b) (Some d) (inl e) = given_not e
any_skips row (Some a) (Some b) (Some d) (inr (inl e)) = given_not e
any_skips row (Some a) (Some b) (Some d) (inr (inr e)) = given_not e

pub skipped : (settings : Settings) (f : Fields) → f.reach ≡ Ok tt → OneMissing f → row_of settings f ≡ Ok None
unfolding row_of reached
skipped settings f e m = ap (λ (r : Reach). by_reach r (reached settings f)) e ∙ any_skips (located settings f) f.x f.y f.z m

-- ---- skipped: one missing
abbrev skips : Row → Bool
skips (Err r) = false
skips (Ok None) = true
skips (Ok (Some s)) = false

named_stays : (f : Fields) (position : Point3) (o : Float) (assumed : Bool) → skips (named f position o assumed) ≡ false
unfolding named
named_stays f position o assumed = go (too_long f.atom) (too_long f.residue) (too_long f.chain)
  where
    go : (t u v : Bool) → skips (cond t (Err (NameTooLong Atom)) (cond u (Err (NameTooLong Residue)) (cond v (Err (NameTooLong Chain)) (Ok (Some (site_of f position o assumed)))))) ≡ false
    go true u v = refl
    go false true v = refl
    go false false true = refl
    go false false false = refl

located_stays : (settings : Settings) (f : Fields) (x y z : Number) → skips (located settings f x y z) ≡ false
located_stays settings f x y z = located_is settings (λ row. skips row ≡ false) (λ r. refl) f x y z (λ position o assumed v h. named_stays f position o assumed)

any_missing : (row : Number → Number → Number → Row) → ((a b d : Number) → skips (row a b d) ≡ false) → (x y z : Measure) → skips (given_all x y z row) ≡ true → (x ≡ None) ⊎ ((y ≡ None) ⊎ (z ≡ None))
any_missing row h None y z e = inl refl
any_missing row h (Some a) None z e = inr (inl refl)
any_missing row h (Some a) (Some b) None e = inr (inr refl)
any_missing row h (Some a) (Some b) (Some d) e = absurd (false≢true (sym (h a b d) ∙ e))

by_reach_lem : (r : Reach) (row : Row) → skips (by_reach r row) ≡ true → (r ≡ Ok tt) × (skips row ≡ true)
by_reach_lem (Ok tt) row e = (refl, e)
by_reach_lem (Err why) row e = absurd (false≢true e)

pub skipped_only : (settings : Settings) (f : Fields) → row_of settings f ≡ Ok None → (f.reach ≡ Ok tt) × OneMissing f
unfolding row_of reached
skipped_only settings f e =
    let h = by_reach_lem f.reach (reached settings f) (ap skips e) in
    (h.0, any_missing (located settings f) (located_stays settings f) f.x f.y f.z h.1)
