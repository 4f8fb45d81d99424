-- What is done for an act leaves the slices standing for what the definitions make of the model.
use Prim.{Unit, tt}
use mathlib.Core.Path.{◌≡◌, refl, sym, subst}
use Prim.Native.Nat.{ℕ, suc, ◌^◌, ◌<◌}
use native.Mathlib.Omega.{arith}
use Rattle.std.specs.Prelude.{Option, Result, Ok, Err}
use Rattle.refusals.specs.Reasons.{at}
use Rattle.refusals.specs.declared.details.RecordKind.{RecordKind}
use Rattle.refusals.specs.declared.reasons.Reason.TheVariants as reason
use Rattle.rows.specs.declared.rules.Site.{Site}
use Rattle.model.specs.Fold.{State, step}
use Rattle.model.specs.Proper.{Finite, Proper}
use Rattle.model.specs.Taken.{site}
use Rattle.model.specs.declared.room.Room.{Room}
use Rattle.building.specs.Gaps.{HoldsApart}
use Rattle.building.specs.Holds.{Records}
use Rattle.building.specs.Sites.{Did}
use Rattle.building.specs.declared.held.Held.{Held}
use Rattle.building.proofs.SiteLaws.{skipped_held}
use Rattle.acts.specs.declared.act.Act.{Act}
use Rattle.acts.specs.declared.act.Act.TheVariants.{Pass, Skip, Keep, Refuse}
use Rattle.acts.specs.declared.doing.Standing.{Standing}
use Rattle.acts.specs.Acts.{Asked}
use Rattle.acts.specs.Making.{going, within, done}
use Rattle.acts.specs.Standing.{Stands, standing_by, passed_at, Keeps}

-- the act keeps no site
abbrev pub KeepsNone : Act → Type 0
KeepsNone Pass = Unit {0}
KeepsNone Skip = Unit {0}
KeepsNone (Keep s) = ⊥
KeepsNone (Refuse why) = Unit {0}

module _ (r : Records) (room : Room) (number : ℕ) (held : Held) where
  abbrev asked : Act → Asked
  asked act = record { line = number; act = act }

  -- ---- what needs no slice
  pub passed_stands : (act : Act) → KeepsNone act → (st : State) → HoldsApart r room held st → suc st.rows < 2 ^ 64 → Stands room r (passed_at number held act) (done room st (asked act))
  passed_stands Pass none st holds few = (refl, holds)
  passed_stands Skip none st holds few = (refl, skipped_held r room held st holds few)
  passed_stands (Keep s) none st holds few = absurd none
  passed_stands (Refuse why) none st holds few = refl

  -- ---- a site
  module _ (s : Site) (proper : Finite s.occupancy → Proper s) where
    put_keeps : (put : Result Held RecordKind) (after : Records) → Did r room held s put after → Keeps r room number held s (standing_by number held put) after
    put_keeps (Err kind) after did = record {
      acts = record {
        lengths = did.0;
        stands = λ st holds few finite.
            subst (λ (lack : Option RecordKind). Stands room after (record { held = held; halt = Err (at number (reason.NoRoom kind)) }) (within number lack (going (step st (site s)))))
            (sym (did.2 st holds (proper finite))) refl;
      };
      chains = omega arith;
    }
    put_keeps (Ok more) after did = record {
      acts = record {
        lengths = did.0;
        stands = λ st holds few finite.
            let put = did.2 st holds (proper finite) in
            subst (λ (lack : Option RecordKind). Stands room after (record { held = more; halt = Ok tt }) (within number lack (going (step st (site s))))) (sym put.0) (refl, put.1 few);
      };
      chains = did.1;
    }

    pub put_kept : (put : Result Held RecordKind) (to : Standing) (after : Records) → Did r room held s put after → to ≡ standing_by number held put → Keeps r room number held s to after
    put_kept put to after did e = subst (λ (x : Standing). Keeps r room number held s x after) (sym e) (put_keeps put after did)
