-- A row is refused exactly where it earns the refusal: each step asks what its cases say, and hands on to the next what it lets pass.
use mathlib.Core.Path.{◌≡◌, refl, sym, ap, ◌∙◌, subst}
use mathlib.Core.Logic.{◌↔◌}
use mathlib.Core.Bool.{Bool, true, false, cond}
use Prim.Native.Nat.{ℕ, ◌≤◌, ◌<◌}
use native.Mathlib.Omega.{arith}
use lib.Ieee.{Float}
use borrow.Author.Tests.{ltb-true, ltb-false, lt-ltb, le-ltb}
use Rattle.std.specs.Prelude.{Some, None, Ok, Err}
use Rattle.numbers.specs.declared.reading.NumberError.TheVariants as number
use Rattle.refusals.specs.Reasons.{number_of}
use Rattle.refusals.specs.declared.details.Axis.{Axis}
use Rattle.refusals.specs.declared.details.Column.{Column}
use Rattle.refusals.specs.declared.details.Label.TheVariants.{Atom, Residue, Chain}
use Rattle.refusals.specs.declared.reasons.Reason.{Reason}
use Rattle.refusals.specs.declared.reasons.Reason.TheVariants as reason
use Rattle.rows.specs.declared.fields.Fields.{Fields}
use Rattle.rows.specs.declared.fields.ReachError.TheVariants as reach
use Rattle.rows.specs.declared.rules.Occupancy.{Occupancy}
use Rattle.rows.specs.declared.rules.Point3.{Point3}
use Rattle.rows.specs.declared.settings.Settings.{Settings}
use Rattle.rows.specs.Exact.{Reaches, Located, Occupied, Fails, grammar, beyond, RowEarns, missing, short, fails_x, fails_y, fails_z, occupancy, long_atom, long_residue, long_chain}
use Rattle.rows.specs.Fields.{Number, Measure}
use Rattle.rows.specs.Reach.{Reach}
use Rattle.rows.specs.Rules.{Row, passing, site_of, too_long, named, occupancy_of, occupied, located, given_all, reached, by_reach, row_of}

module _ (settings : Settings) (f : Fields) where
  -- what step 7 makes of an occupancy
  abbrev named_by : Point3 → Occupancy → Row
  named_by p o = named f p o.value o.assumed

  -- ---- what is earned is given
  reached_by : {w : Reach} → f.reach ≡ w → row_of settings f ≡ by_reach w (reached settings f)
  unfolding row_of
  reached_by e = ap (λ (w : Reach). by_reach w (reached settings f)) e

  reaching : {a b c : Number} → Reaches f a b c → row_of settings f ≡ located settings f a b c
  unfolding reached
  reaching r = reached_by r.reach ∙ λ i. given_all (r.x i) (r.y i) (r.z i) (located settings f)

  locating : {p : Point3} → Located f p → row_of settings f ≡ passing (occupancy_of settings f.occupancy) (named_by p)
  unfolding located occupied
  locating l = reaching l

  -- the row is what step 7 makes of some occupancy
  abbrev Named : Point3 → Row → Type 0
  Named p row = (o : Occupancy) × (row ≡ named_by p o)

  occupying : (w : Occupied f) → Named w.position (row_of settings f)
  occupying w = go f.occupancy w.occupancy (locating w.located)
    where
      go : (c : Measure) → (c ≡ Some (Err number.BeyondReach) → ⊥) → row_of settings f ≡ passing (occupancy_of settings c) (named_by w.position) → Named w.position (row_of settings f)
      go None n e = (_, e)
      go (Some (Err number.OutsideGrammar)) n e = (_, e)
      go (Some (Err number.BeyondReach)) n e = absurd (n refl)
      go (Some (Ok o)) n e = (_, e)

  earned_refuses : (why : Reason) → RowEarns f why → row_of settings f ≡ Err why
  unfolding located named
  earned_refuses why (missing e) = reached_by e
  earned_refuses why (short e) = reached_by e
  earned_refuses why (fails_x r grammar) = reaching r
  earned_refuses why (fails_x r beyond) = reaching r
  earned_refuses why (fails_y r grammar) = reaching r
  earned_refuses why (fails_y r beyond) = reaching r
  earned_refuses why (fails_z r grammar) = reaching r
  earned_refuses why (fails_z r beyond) = reaching r
  earned_refuses why (occupancy {position} l e) = locating l ∙ ap (λ (c : Measure). passing (occupancy_of settings c) (named_by position)) e
  earned_refuses why (long_atom w h) = (occupying w).1 ∙ rw (lt-ltb 8 f.atom.length h)
  earned_refuses why (long_residue w h k) = (occupying w).1 ∙ rw (le-ltb 8 f.atom.length h, lt-ltb 8 f.residue.length k)
  earned_refuses why (long_chain w h k l) = (occupying w).1 ∙ rw (le-ltb 8 f.atom.length h, le-ltb 8 f.residue.length k, lt-ltb 8 f.chain.length l)

  -- ---- what is given is earned
  module _ (why : Reason) where
    same : {other : Reason} → ◌≡◌ {A = Row} (Err other) (Err why) → RowEarns f other → RowEarns f why
    same e h = subst (RowEarns f) (cc) h

    -- a row that is not refused
    skipped_not : ◌≡◌ {A = Row} (Ok None) (Err why) → RowEarns f why
    skipped_not e = let z : ◌≡◌ {A = ℕ} 0 1 = cc in absurd (omega arith)

    by_names : Occupied f → (p : Point3) (o : Float) (assumed : Bool) → named f p o assumed ≡ Err why → RowEarns f why
    unfolding named
    by_names w p o assumed =
        go (too_long f.atom) (ltb-true 8 f.atom.length) (ltb-false 8 f.atom.length)
        (too_long f.residue) (ltb-true 8 f.residue.length) (ltb-false 8 f.residue.length)
        (too_long f.chain) (ltb-true 8 f.chain.length)
      where
        kept_not : ◌≡◌ {A = Row} (Ok (Some (site_of f p o assumed))) (Err why) → RowEarns f why
        kept_not e = let z : ◌≡◌ {A = ℕ} 0 1 = cc in absurd (omega arith)

        go : (t : Bool) → (t ≡ true → 8 < f.atom.length) → (t ≡ false → f.atom.length ≤ 8)
            → (u : Bool) → (u ≡ true → 8 < f.residue.length) → (u ≡ false → f.residue.length ≤ 8)
            → (v : Bool) → (v ≡ true → 8 < f.chain.length)
            → cond t (Err (reason.NameTooLong Atom)) (cond u (Err (reason.NameTooLong Residue)) (cond v (Err (reason.NameTooLong Chain)) (Ok (Some (site_of f p o assumed))))) ≡ Err why
            → RowEarns f why
        go true a a' u r r' v c e = same e (long_atom w (a refl))
        go false a a' true r r' v c e = same e (long_residue w (a' refl) (r refl))
        go false a a' false r r' true c e = same e (long_chain w (a' refl) (r' refl) (c refl))
        go false a a' false r r' false c e = kept_not e

    by_occupancy_lem : (p : Point3) → Located f p → (c : Measure) → f.occupancy ≡ c → passing (occupancy_of settings c) (named_by p) ≡ Err why → RowEarns f why
    by_occupancy_lem p l c q e = go c q e (λ n. record { position = p; located = l; occupancy = λ h. n (sym q ∙ h) })
      where
        go : (c : Measure) → f.occupancy ≡ c → passing (occupancy_of settings c) (named_by p) ≡ Err why → ((c ≡ Some (Err number.BeyondReach) → ⊥) → Occupied f) → RowEarns f why
        go None q e w = by_names (w (λ h. let z : ◌≡◌ {A = ℕ} 0 1 = cc in omega arith)) p _ _ e
        go (Some (Err number.OutsideGrammar)) q e w = by_names (w (λ h. let z : ◌≡◌ {A = ℕ} 0 1 = cc in omega arith)) p _ _ e
        go (Some (Err number.BeyondReach)) q e w = same e (occupancy l q)
        go (Some (Ok o)) q e w = by_names (w (λ h. let z : ◌≡◌ {A = ℕ} 0 1 = cc in omega arith)) p o false e

    by_axes : (a b c : Number) → Reaches f a b c → located settings f a b c ≡ Err why → RowEarns f why
    unfolding located occupied
    by_axes (Err number.OutsideGrammar) b c r e = same e (fails_x r grammar)
    by_axes (Err number.BeyondReach) b c r e = same e (fails_x r beyond)
    by_axes (Ok x) (Err number.OutsideGrammar) c r e = same e (fails_y r grammar)
    by_axes (Ok x) (Err number.BeyondReach) c r e = same e (fails_y r beyond)
    by_axes (Ok x) (Ok y) (Err number.OutsideGrammar) r e = same e (fails_z r grammar)
    by_axes (Ok x) (Ok y) (Err number.BeyondReach) r e = same e (fails_z r beyond)
    by_axes (Ok x) (Ok y) (Ok z) r e = by_occupancy_lem (record { x = x; y = y; z = z }) r f.occupancy refl e

    by_given : f.reach ≡ Ok tt → (x : Measure) → f.x ≡ x → (y : Measure) → f.y ≡ y → (z : Measure) → f.z ≡ z → given_all x y z (located settings f) ≡ Err why → RowEarns f why
    by_given w None p y q z r e = skipped_not e
    by_given w (Some a) p None q z r e = skipped_not e
    by_given w (Some a) p (Some b) q None r e = skipped_not e
    by_given w (Some a) p (Some b) q (Some c) r e = by_axes a b c (record { reach = w; x = p; y = q; z = r }) e

    by_reach_lem : (w : Reach) → f.reach ≡ w → by_reach w (reached settings f) ≡ Err why → RowEarns f why
    unfolding reached
    by_reach_lem (Err (reach.ColumnMissing column)) h e = same e (missing h)
    by_reach_lem (Err reach.Short) h e = same e (short h)
    by_reach_lem (Ok tt) h e = by_given h f.x refl f.y refl f.z refl e

    -- ---- the theorem
    pub rows_refused : (row_of settings f ≡ Err why) ↔ RowEarns f why
    unfolding row_of
    rows_refused = (λ e. by_reach_lem f.reach refl e, earned_refuses why)

  -- ---- a row earns 5 to 9
  pub row_numbers_lem : {why : Reason} → RowEarns f why → (5 ≤ number_of why) × (number_of why ≤ 9)
  row_numbers_lem (missing e) = (omega arith, omega arith)
  row_numbers_lem (short e) = (omega arith, omega arith)
  row_numbers_lem (fails_x r grammar) = (omega arith, omega arith)
  row_numbers_lem (fails_x r beyond) = (omega arith, omega arith)
  row_numbers_lem (fails_y r grammar) = (omega arith, omega arith)
  row_numbers_lem (fails_y r beyond) = (omega arith, omega arith)
  row_numbers_lem (fails_z r grammar) = (omega arith, omega arith)
  row_numbers_lem (fails_z r beyond) = (omega arith, omega arith)
  row_numbers_lem (occupancy l e) = (omega arith, omega arith)
  row_numbers_lem (long_atom w h) = (omega arith, omega arith)
  row_numbers_lem (long_residue w h k) = (omega arith, omega arith)
  row_numbers_lem (long_chain w h k l) = (omega arith, omega arith)

  -- ---- 1 to 3 in short: no axis earns them
  axis_number_lem : {axis : Axis} {n : Number} {why : Reason} → Fails axis n why → 7 ≤ number_of why
  axis_number_lem grammar = omega arith
  axis_number_lem beyond = omega arith

  pub column_missing : (column : Column) → (row_of settings f ≡ Err (reason.ColumnMissing column)) ↔ (f.reach ≡ Err (reach.ColumnMissing column))
  column_missing column = (λ e. only ((rows_refused _).0 e), λ e. (rows_refused _).1 (missing e))
    where
      only : RowEarns f (reason.ColumnMissing column) → f.reach ≡ Err (reach.ColumnMissing column)
      only (missing e) = e
      only (fails_x r h) = absurd (omega (arith, axis_number_lem h))
      only (fails_y r h) = absurd (omega (arith, axis_number_lem h))
      only (fails_z r h) = absurd (omega (arith, axis_number_lem h))

  pub row_short : (row_of settings f ≡ Err reason.RowShort) ↔ (f.reach ≡ Err reach.Short)
  row_short = (λ e. only ((rows_refused _).0 e), λ e. (rows_refused _).1 (short e))
    where
      only : RowEarns f reason.RowShort → f.reach ≡ Err reach.Short
      only (short e) = e
      only (fails_x r h) = absurd (omega (arith, axis_number_lem h))
      only (fails_y r h) = absurd (omega (arith, axis_number_lem h))
      only (fails_z r h) = absurd (omega (arith, axis_number_lem h))
