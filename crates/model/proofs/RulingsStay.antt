-- What is ruled of a residue stays when it is ruled again: resolving twice is resolving once, so that a name that is taken is no alias; and positions do
-- not enter into what rules them.
use mathlib.Core.Path.{◌≡◌, refl, ap, subst}
use mathlib.Core.Bool.{Bool, true, false, not, ◌&&◌, ◌||◌, false≢true}
use mathlib.Core.List.{List, [], ◌∷◌}
use Prim.Native.Nat.{ℕ}
use lib.Dec.{eqb, ltb}
use borrow.Author.Tests.{eqb-true}
use Rattle.names.specs.Packing.{packed_in, unpacked_in}
use Rattle.names.specs.Table.{Row, canonical, named, resolve_of}
use Rattle.names.specs.declared.table.Resolved.{Resolved}
use Rattle.std.specs.Prelude.{Option, None, Some}
use Rattle.names.proofs.ResolvingTwice.{leads_to_canonical, twice}
use Rattle.model.specs.Classes.{class_by, class_of}
use Rattle.model.specs.Finished.{positioned, all_positioned}
use Rattle.model.specs.Records.{ResidueRecord}
use Rattle.model.specs.Termini.{besides, is_first, is_last, ruled_position}
use Rattle.ascii.specs.Lists.{every}
use Rattle.model.specs.WellFormed.{is_name}
use Rattle.model.proofs.ListLaws.{left_of, right_of, any_map}

-- ---- classes
pub class_again : (name : ℕ) (lone : Bool) → class_of (class_of name lone).name lone ≡ class_of name lone
unfolding class_of
class_again name lone = go (resolve_of name) refl
  where
    go : (r : Option Resolved) → resolve_of name ≡ r → class_by (resolve_of (class_by r name lone).name) (class_by r name lone).name lone ≡ class_by r name lone
    go (Some to) e = ap (λ (r : Option Resolved). class_by r to.name lone) (twice name to.name to.residue e)
    go None e = ap (λ (r : Option Resolved). class_by r name lone) e

-- the canonical names are names
canonical_names : every (λ r. is_name r.name) canonical ≡ true
unfolding canonical is_name packed_in unpacked_in
canonical_names = refl

named_passes : (p : ℕ → Bool) (name : ℕ) (l : List Row) → every (λ r. p r.name) l ≡ true → named name l ≡ true → p name ≡ true
unfolding named
named_passes p name [] h e = absurd (false≢true e)
named_passes p name (r ∷ l) h e = go (eqb r.name name) refl e (named_passes p name l (right_of (p r.name) (every (λ r. p r.name) l) h))
  where
    go : (t : Bool) → eqb r.name name ≡ t → (t || named name l) ≡ true → (named name l ≡ true → p name ≡ true) → p name ≡ true
    go true q e later = subst (λ (n : ℕ). p n ≡ true) (eqb-true r.name name q) (left_of (p r.name) (every (λ r. p r.name) l) h)
    go false q e later = later e

pub class_is_named : (name : ℕ) (lone : Bool) → is_name name ≡ true → is_name (class_of name lone).name ≡ true
unfolding class_of
class_is_named name lone h = go (resolve_of name) refl
  where
    go : (r : Option Resolved) → resolve_of name ≡ r → is_name (class_by r name lone).name ≡ true
    go (Some to) e = named_passes is_name to.name canonical canonical_names (leads_to_canonical name to.name to.residue e)
    go None e = h

-- ---- positions
module _ (residues : List ResidueRecord) (r : ResidueRecord) where
  abbrev now : ResidueRecord
  now = positioned residues r

  first_again : is_first (all_positioned residues) now ≡ is_first residues r
  unfolding is_first
  first_again = ap not (any_map (positioned residues) (λ t. besides now t && ltb t.key now.key) residues)

  last_again : is_last (all_positioned residues) now ≡ is_last residues r
  unfolding is_last
  last_again = ap not (any_map (positioned residues) (λ t. besides now t && ltb now.key t.key) residues)

  pub position_again : ruled_position (all_positioned residues) now ≡ ruled_position residues r
  unfolding ruled_position
  position_again = rw (first_again, last_again)
