-- How the slices and the counts stand for what the acts have made, and what is promised of one act. Of slices that hold a model all is said; of others,
-- which no reading has, only that no slice is longer or shorter afterwards.
use Prim.{Unit, tt}
use Rattle.std.specs.Prelude.{◌≡◌, ℕ, suc, ◌^◌, ◌≤◌, ◌<◌, Result, Ok, Err}
use Rattle.refusals.specs.Reasons as refusals
use Rattle.refusals.specs.declared.details.RecordKind.{RecordKind}
use Rattle.refusals.specs.declared.reasons.Reason.TheVariants as reason
use Rattle.refusals.specs.declared.reasons.Refusal.{Refusal}
use Rattle.rows.specs.declared.rules.Site.{Site}
use Rattle.model.specs.Fold.{State}
use Rattle.model.specs.Proper.{Finite}
use Rattle.model.specs.declared.room.Room.{Room}
use Rattle.building.specs.Gaps.{HoldsApart}
use Rattle.building.specs.Holds.{Records, Within, SameLengths}
use Rattle.building.specs.Sites.{with_skipped}
use Rattle.building.specs.declared.held.Held.{Held}
use Rattle.acts.specs.declared.act.Act.{Act}
use Rattle.acts.specs.declared.act.Act.TheVariants.{Pass, Skip, Keep, Refuse}
use Rattle.acts.specs.declared.doing.Standing.{Standing}
use Rattle.acts.specs.Acts.{Asked}
use Rattle.acts.specs.Making.{Making, going, halted, done}

abbrev pub Stands : Room → Records → Standing → Making → Type 0
Stands room r s (going st) = (s.halt ≡ Ok tt) × HoldsApart r room s.held st
Stands room r s (halted why) = s.halt ≡ Err why

-- ---- one act

abbrev pub standing_by : ℕ → Held → Result Held RecordKind → Standing
standing_by number held (Err kind) = record { held = held; halt = Err (refusals.at number (reason.NoRoom kind)) }
standing_by number held (Ok more) = record { held = more; halt = Ok tt }

-- before a site is put in
abbrev pub passed_at : ℕ → Held → Act → Standing
passed_at number held Pass = record { held = held; halt = Ok tt }
passed_at number held Skip = record { held = with_skipped held; halt = Ok tt }
passed_at number held (Keep s) = record { held = held; halt = Ok tt }
passed_at number held (Refuse why) = record { held = held; halt = Err (refusals.at number why) }

-- a site has a finite occupancy
abbrev pub FiniteIn : Act → Type 0
FiniteIn Pass = Unit {0}
FiniteIn Skip = Unit {0}
FiniteIn (Keep s) = Finite s.occupancy
FiniteIn (Refuse why) = Unit {0}

pub record Acts (r : Records) (room : Room) (held : Held) (a : Asked) (s : Standing) (after : Records) : Type 0 where
  pub lengths : SameLengths r after
  pub stands : (st : State) → HoldsApart r room held st → suc st.rows < 2 ^ 64 → FiniteIn a.act → Stands room after s (done room st a)

-- a site kept: no chain is forgotten
pub record Keeps (r : Records) (room : Room) (number : ℕ) (held : Held) (site : Site) (s : Standing) (after : Records) : Type 0 where
  pub acts : Acts r room held (record { line = number; act = Keep site }) s after
  pub chains : held.counts.chains ≤ s.held.counts.chains

-- ---- all acts of a text

-- a refusal before all of them stays
abbrev pub ahead : Result (Unit {0}) Refusal → Making → Making
ahead (Ok u) others = others
ahead (Err why) others = halted why

pub record Passes (r : Records) (room : Room) (target : Making) (s : Standing) (after : Records) : Type 0 where
  pub lengths : SameLengths r after
  pub stands : Within room r → Stands room after s target
