-- What holds of every refusal and of whatever step 7 gives holds of every row that is not skipped: the steps before it only refuse, or hand on. The
-- position that they hand on is the one that is given, and so is the occupancy, or it is 1.
use mathlib.Core.Path.{◌≡◌, refl, ap, ◌∙◌}
use mathlib.Core.Logic.{◌⊎◌, inl, inr}
use mathlib.Core.Bool.{Bool}
use lib.Ieee.{Float}
use Rattle.std.specs.Prelude.{Some, None, Ok, Err}
use Rattle.numbers.specs.declared.reading.NumberError.TheVariants as number
use Rattle.refusals.specs.declared.details.Axis.TheVariants.{X, Y, Z}
use Rattle.refusals.specs.declared.details.Quantity.TheVariants as quantity
use Rattle.refusals.specs.declared.reasons.Reason.{Reason}
use Rattle.refusals.specs.declared.reasons.Reason.TheVariants as reason
use Rattle.rows.specs.declared.fields.Fields.{Fields}
use Rattle.rows.specs.declared.rules.Occupancy.{Occupancy}
use Rattle.rows.specs.declared.rules.Point3.{Point3}
use Rattle.rows.specs.declared.settings.Settings.{Settings}
use Rattle.rows.specs.declared.settings.Unreadable.{Unreadable}
use Rattle.rows.specs.declared.settings.Unreadable.TheVariants.{Assumed}
use Rattle.rows.specs.Fields.{Number, Measure}
use Rattle.rows.specs.Reach.{Reach, reason_of}
use Rattle.rows.specs.Rules.{Row, passing, one, named, unread, occupancy_of, occupied, position_of, located, given_all, reached, by_reach, row_of}

abbrev pub IsOccupancy : Measure → Float → Type 0
IsOccupancy c o = (o ≡ one) ⊎ (c ≡ Some (Ok o))

abbrev AreValues : Number → Number → Number → Point3 → Type 0
AreValues x y z position = (x ≡ Ok position.x) × (y ≡ Ok position.y) × (z ≡ Ok position.z)

-- all that steps 1 to 6 ask
pub record Read (f : Fields) (position : Point3) (o : Float) : Type 0 where
  pub reach : f.reach ≡ Ok tt
  pub x : f.x ≡ Some (Ok position.x)
  pub y : f.y ≡ Some (Ok position.y)
  pub z : f.z ≡ Some (Ok position.z)
  pub occupancy : IsOccupancy f.occupancy o

module _ (settings : Settings) (P : Row → Type 0) (refused : (r : Reason) → P (Err r)) where
  by_occupancy_lem : (c : Measure) (row : Occupancy → Row) → ((o : Occupancy) → IsOccupancy c o.value → P (row o)) → P (passing (occupancy_of settings c) row)
  by_occupancy_lem None row h = h _ (inl refl)
  by_occupancy_lem (Some (Err number.OutsideGrammar)) row h = unreadable settings.occupancy
    where
      unreadable : (u : Unreadable) → P (row (unread u))
      unreadable Assumed = h _ (inl refl)
  by_occupancy_lem (Some (Err number.BeyondReach)) row h = refused (reason.BeyondReach quantity.Occupancy)
  by_occupancy_lem (Some (Ok v)) row h = h _ (inr refl)

  by_position : (x y z : Number) (row : Point3 → Row) → ((position : Point3) → AreValues x y z position → P (row position)) → P (passing (position_of x y z) row)
  by_position (Err number.OutsideGrammar) y z row h = refused (reason.OutsideGrammar X)
  by_position (Err number.BeyondReach) y z row h = refused (reason.BeyondReach (quantity.Coordinate X))
  by_position (Ok a) (Err number.OutsideGrammar) z row h = refused (reason.OutsideGrammar Y)
  by_position (Ok a) (Err number.BeyondReach) z row h = refused (reason.BeyondReach (quantity.Coordinate Y))
  by_position (Ok a) (Ok b) (Err number.OutsideGrammar) row h = refused (reason.OutsideGrammar Z)
  by_position (Ok a) (Ok b) (Err number.BeyondReach) row h = refused (reason.BeyondReach (quantity.Coordinate Z))
  by_position (Ok a) (Ok b) (Ok c) row h = h _ (refl, refl, refl)

  by_given : (row : Number → Number → Number → Row) → P (Ok None) → (x y z : Measure) → ((a b d : Number) → x ≡ Some a → y ≡ Some b → z ≡ Some d → P (row a b d)) → P (given_all x y z row)
  by_given row s None y z h = s
  by_given row s (Some a) None z h = s
  by_given row s (Some a) (Some b) None h = s
  by_given row s (Some a) (Some b) (Some d) h = h a b d refl refl refl

  by_reach_lem : (r : Reach) (row : Row) → (r ≡ Ok tt → P row) → P (by_reach r row)
  by_reach_lem (Ok tt) row h = h refl
  by_reach_lem (Err e) row h = refused (reason_of e)

  module _ (f : Fields) where
    pub located_is : (x y z : Number) → ((position : Point3) (o : Float) (assumed : Bool) → AreValues x y z position → IsOccupancy f.occupancy o → P (named f position o assumed)) → P (located settings f x y z)
    unfolding located occupied
    located_is x y z last =
        by_position x y z _ (λ position v.
        by_occupancy_lem f.occupancy _ (λ o h. last position o.value o.assumed v h))

    pub row_is : P (Ok None) → ((position : Point3) (o : Float) (assumed : Bool) → Read f position o → P (named f position o assumed)) → P (row_of settings f)
    unfolding row_of reached
    row_is s last =
        by_reach_lem f.reach (reached settings f) (λ w. by_given (located settings f) s f.x f.y f.z (λ a b d p q r.
        located_is a b d (λ position o assumed v h.
        last position o assumed (record { reach = w; x = p ∙ ap Some v.0; y = q ∙ ap Some v.1; z = r ∙ ap Some v.2; occupancy = h }))))
