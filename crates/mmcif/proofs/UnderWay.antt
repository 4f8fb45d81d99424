-- Rows under way: from wherever the reading stands, its finish is the target, so that the last row leaves the target itself. Whoever holds the chain list finds the chain of the
-- row that waits, stores its name there, and has its run taken.
use Prim.{Unit}
use mathlib.Core.Path.{◌≡◌, refl, sym, ◌∙◌, subst}
use mathlib.Core.Bool.{true, false, false≢true}
use mathlib.Core.List.{List}
use Prim.Native.Nat.{ℕ, ◌≤◌, ◌<◌}
use native.Mathlib.Omega.{arith}
use lib.ListN.{length, take, drop, length-set, drop_of_length-le}
use lib.Seq.{set-set}
use Rattle.std.specs.Prelude.{Option, Some, None, Result, Ok, Err}
use Rattle.refusals.specs.declared.reasons.Refusal.{Refusal}
use Rattle.lines.specs.Lines.{lines_of}
use Rattle.rows.specs.declared.settings.Settings.{Settings}
use Rattle.line_states.specs.declared.heads.Heads.{Heads}
use Rattle.model.specs.Fold.{State, start}
use Rattle.model.specs.declared.room.Room.{Room}
use Rattle.building.specs.Holds.{Records, Within, SameLengths}
use Rattle.building.specs.Slices.{ChainFound}
use Rattle.building.proofs.ChainsStored.{met_stay, stored_in, stored_held}
use Rattle.building.proofs.SiteLaws.{start_held}
use Rattle.acts.specs.Making.{Making, going, halted, and_then, made}
use Rattle.acts.specs.Standing.{Stands, ahead, Passes}
use Rattle.acts.proofs.LengthLaws.{lengths_same, lengths_then}
use Rattle.mmcif.specs.declared.stages.Stage.{Stage}
use Rattle.mmcif.specs.declared.stages.Waiting.{Waiting}
use Rattle.mmcif.specs.Acts.{acts_from, acts_of}
use Rattle.mmcif.specs.Stages.{chain_in, is_waiting, first_stage, left, met, Inside, rest, Between, ReachedBy, Reached, GoesOnTo, TakesRun}

-- the slices were the first records, and are r now
pub record UnderWay (text : List ℕ) (settings : Settings) (room : Room) (first : Records) (target : Making) (s : Stage) (r : Records) : Type 0 where
  pub inside : Inside text s
  pub stops : is_waiting s.waiting ≡ false → length text ≤ s.at
  pub lengths : SameLengths first r
  pub reached : Within room first → Reached text settings room target s r

-- ---- before the first row
first_inside : (text : List ℕ) (halt : Result (Unit {0}) Refusal) → Inside text (first_stage halt (length text))
first_inside text (Ok u) = (omega arith, omega arith)
first_inside text (Err why) = (omega arith, omega arith)

first_reached : (text : List ℕ) (settings : Settings) (room : Room) (r : Records) (halt : Result (Unit {0}) Refusal) → Within room r
    → Between text settings room (ahead halt (made room start (acts_of settings text))) (first_stage halt (length text)) r
first_reached text settings room r (Ok u) w = record { making = going start; stands = (refl, start_held r room w); placed = omega arith; finish = refl }
first_reached text settings room r (Err why) w = record { making = halted why; stands = refl; placed = refl; finish = refl }

pub begins : (text : List ℕ) (settings : Settings) (room : Room) (r : Records) (halt : Result (Unit {0}) Refusal) (s : Stage) → GoesOnTo text settings (first_stage halt (length text)) s
    → UnderWay text settings room r (ahead halt (made room start (acts_of settings text))) s r
begins text settings room r halt s g = record {
  inside = g.inside (first_inside text halt);
  stops = g.stops;
  lengths = lengths_same r;
  reached = λ w. g.reached (first_inside text halt) room (ahead halt (made room start (acts_of settings text))) r (first_reached text settings room r halt w);
}

-- ---- after the last
none_left : (text : List ℕ) (settings : Settings) (room : Room) (number at : ℕ) (heads : Heads) (st : State) → length text ≤ at → made room st (acts_from settings number heads (lines_of (drop at text))) ≡ going st
unfolding made acts_from lines_of
none_left text settings room number at heads st h = rw (drop_of_length-le text h)

module _ {text : List ℕ} {settings : Settings} {room : Room} {first : Records} {target : Making} {s : Stage} {r : Records} (u : UnderWay text settings room first target s r) where
  pub ends : is_waiting s.waiting ≡ false → Passes first room target s.standing r
  ends none = record { lengths = u.lengths; stands = λ w. by_waiting s.waiting none (u.reached w) }
    where
      here : (m : Making) → m ≡ and_then m (rest text settings room s)
      here (going st) = sym (none_left text settings room s.number s.at s.heads st (u.stops none))
      here (halted why) = refl

      by_waiting : (w : Option Waiting) → is_waiting w ≡ false → ReachedBy w text settings room target s r → Stands room r s.standing target
      by_waiting None e q = subst (Stands room r s.standing) (here q.making ∙ q.finish) q.stands
      by_waiting (Some row) e q = absurd (false≢true (sym e))

  -- ---- a run, its chain found at this place, where the name is stored
  module _ (waits : is_waiting s.waiting ≡ true) (place : ℕ) (found : ChainFound (take (met s) r.chains) (chain_in s.waiting) place) where
    abbrev name : ℕ
    name = chain_in s.waiting

    abbrev stored : Records
    stored = stored_in r place name

    lengths_stored : SameLengths r stored
    lengths_stored = record {
      chains = length-set r.chains place name;
      residue_keys = refl;
      residue_names = refl;
      residue_marks = refl;
      atom_keys = refl;
      atom_names = refl;
      elements = refl;
      positions = refl;
      occupancies = refl;
    }

    found_stored : ChainFound (take (met s) stored.chains) name place
    found_stored = subst (λ (l : List ℕ). ChainFound l name place) (sym (met_stay r.chains (met s) name place found)) found

    reached_stored : Reached text settings room target s r → Reached text settings room target s stored
    reached_stored = go s.waiting waits
      where
        go : (w : Option Waiting) → is_waiting w ≡ true → ReachedBy w text settings room target s r → ReachedBy w text settings room target s stored
        go None e q = absurd (false≢true e)
        go (Some row) e q = record {
          st = q.st;
          going = q.going;
          holds = stored_held r room s.standing.held q.st name place found q.holds;
          rows = q.rows;
          numbered = q.numbered;
          finite = q.finite;
          finish = q.finish;
        }

    module _ (to : Stage) (after : Records) (t : TakesRun text settings room place s to stored after) where
      pub turn : UnderWay text settings room first target to after
      turn = record {
        inside = t.inside u.inside;
        stops = t.stops waits;
        lengths = lengths_then (lengths_then u.lengths lengths_stored) t.lengths;
        reached = λ w. t.reached u.inside waits found_stored (set-set r.chains place name name) target (reached_stored (u.reached w));
      }

      pub fewer : left text to < left text s
      fewer = t.fewer waits
