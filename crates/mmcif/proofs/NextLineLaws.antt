-- A line is taken: what it asks for is done to what is held, or its row waits; and the lines behind it still make what they made.
use Prim.{Unit, tt}
use mathlib.Core.Path.{◌≡◌, refl, sym, ap, ◌∙◌, subst}
use mathlib.Core.List.{List, ◌∷◌}
use Prim.Native.Nat.{ℕ, suc, ◌-◌, ◌^◌, ◌≤◌, ◌<◌}
use native.Mathlib.Omega.{arith}
use lib.ListN.{length, take, drop}
use borrow.Author.Tests.{lt-ltb}
use Rattle.std.specs.Prelude.{Option, Some, None, Result}
use Rattle.lines.specs.Lines.{lines_of, LineAt}
use Rattle.lines.specs.declared.lines.Line.{Line}
use Rattle.rows.specs.declared.rules.Site.{Site}
use Rattle.rows.specs.declared.settings.Settings.{Settings}
use Rattle.line_states.specs.States.{moved_by}
use Rattle.line_states.specs.declared.heads.Heads.{Heads}
use Rattle.model.specs.Fold.{State, step}
use Rattle.model.specs.Taken.{skipped}
use Rattle.model.specs.declared.room.Room.{Room}
use Rattle.refusals.specs.Reasons.{at}
use Rattle.refusals.specs.declared.reasons.Refusal.{Refusal}
use Rattle.building.specs.Holds.{Records}
use Rattle.acts.specs.Acts.{Asked, GoesOn}
use Rattle.acts.specs.Making.{Making, going, halted, done, and_then, made}
use Rattle.acts.specs.Standing.{Stands, FiniteIn, passed_at}
use Rattle.acts.specs.declared.act.Act.{Act}
use Rattle.acts.specs.declared.act.Act.TheVariants.{Pass, Skip, Keep, Refuse}
use Rattle.acts.proofs.ActLaws.{passed_stands}
use Rattle.acts.proofs.MadeByRows.{done_goes}
use Rattle.mmcif.specs.declared.plans.Plan.{Plan}
use Rattle.mmcif.specs.declared.stages.Stage.{Stage}
use Rattle.mmcif.specs.declared.stages.Waiting.{Waiting}
use Rattle.mmcif.specs.Acts.{line_act, acts_from}
use Rattle.mmcif.specs.Plans.{plan_of}
use Rattle.mmcif.specs.Stages.{onward_to, number_after, met, Inside, rest, Placed, Between, Reached}
use Rattle.mmcif.proofs.LineActs.{short_enough, act_finite}
use Rattle.mmcif.proofs.PlanLaws.{plan_act, plan_heads}

number_after_lem : (n : ℕ) → n < 2 ^ 64 - 1 → number_after n ≡ suc n
unfolding number_after
number_after_lem n h = rw (lt-ltb n 18446744073709551615 (omega arith))

first_then : (settings : Settings) (room : Room) (number : ℕ) (heads : Heads) (st : State) (line : List ℕ) (lines : List (List ℕ))
    → made room st (acts_from settings number heads (line ∷ lines))
    ≡ and_then (done room st (record { line = number; act = line_act settings heads line })) (λ s. made room s (acts_from settings (suc number) (moved_by heads line).heads lines))
unfolding made acts_from
first_then settings room number heads st line lines = refl

-- what waits after a line of this act
abbrev pub waiting_by : ℕ → Act → Option Waiting
waiting_by number Pass = None
waiting_by number Skip = None
waiting_by number (Keep s) = Some (record { line = number; site = s })
waiting_by number (Refuse why) = None

-- none does where the act keeps no site
pub none_kept : (number : ℕ) (act : Act) → ((s : Site) → act ≡ Keep s → ⊥) → waiting_by number act ≡ None
none_kept number Pass other = refl
none_kept number Skip other = refl
none_kept number (Keep s) other = absurd (other s refl)
none_kept number (Refuse why) other = refl

module _ (text : List ℕ) (settings : Settings) (from : Stage) (few : suc (length text) < 2 ^ 64) (more : from.at < length text) (line : Line) (l : LineAt text from.at line) where
  abbrev bytes : List ℕ
  bytes = take (line.end - from.at) (drop from.at text)

  abbrev plan : Plan
  plan = plan_of settings from.heads bytes

  abbrev asked : Act → Asked
  asked act = record { line = from.number; act = act }

  abbrev passed : Act → Result (Unit {0}) Refusal
  passed act = (passed_at from.number from.standing.held act).halt

  abbrev place_by : Act → ℕ
  place_by act = onward_to (passed act) line.next (length text)

  -- the stage after a line of this act
  abbrev pub stage_with : Act → Stage
  stage_with act = record {
    at = place_by act;
    number = number_after from.number;
    heads = plan.heads;
    standing = passed_at from.number from.standing.held act;
    waiting = waiting_by from.number act;
  }

  -- ---- the next place lies further on in the text
  pub next_moves : (act : Act) → (from.at < place_by act) × (place_by act ≤ length text)
  next_moves Pass = (omega (arith, l.moves), omega (arith, l.inside))
  next_moves Skip = (omega (arith, l.moves), omega (arith, l.inside))
  next_moves (Keep s) = (omega (arith, l.moves), omega (arith, l.inside))
  next_moves (Refuse why) = (omega arith, omega arith)

  -- no chain is met
  pub none_met : (act : Act) → met (stage_with act) ≡ met from
  none_met Pass = refl
  none_met Skip = refl
  none_met (Keep s) = refl
  none_met (Refuse why) = refl

  at_next : (act : Act) → GoesOn act → place_by act ≡ line.next
  at_next Pass g = refl
  at_next Skip g = refl
  at_next (Keep s) g = refl
  at_next (Refuse why) g = absurd g

  module _ (i : Inside text from) where
    next_number : number_after from.number ≡ suc from.number
    next_number = number_after_lem from.number (omega (arith, i.1))

    pub next_inside : (act : Act) → Inside text (stage_with act)
    next_inside act = let m = next_moves act in (m.1, omega (arith, m.0, i.1, next_number))

    -- ---- what is to be reached stays
    module _ (room : Room) (target : Making) (r : Records) where
      abbrev behind : State → Making
      behind st = made room st (acts_from settings (suc from.number) (moved_by from.heads bytes).heads (lines_of (drop line.next text)))

      same_rest : (st : State) (act : Act) → line_act settings from.heads bytes ≡ act → (m : Making) → done room st (asked act) ≡ m → and_then m (rest text settings room (stage_with act)) ≡ and_then m behind
      same_rest st act e (going s) d =
          let goes = done_goes room st (asked act) s d in
          let short = short_enough settings from.heads bytes (subst GoesOn (sym e) goes) in
          let heads : plan.heads ≡ (moved_by from.heads bytes).heads = plan_heads settings from.heads bytes short in
          let place = at_next act goes in
          λ j. made room s (acts_from settings (next_number j) (heads j) (lines_of (drop (place j) text)))
      same_rest st act e (halted why) d = refl

      finish_with : (st : State) (act : Act) → line_act settings from.heads bytes ≡ act → rest text settings room from st ≡ target → and_then (done room st (asked act)) (rest text settings room (stage_with act)) ≡ target
      finish_with st act e finish =
          same_rest st act e (done room st (asked act)) refl
          ∙ ap (λ (a : Act). and_then (done room st (asked a)) behind) (sym e)
          ∙ sym (first_then settings room from.number from.heads st bytes (lines_of (drop line.next text)))
          ∙ ap (λ (lines : List (List ℕ)). made room st (acts_from settings from.number from.heads lines)) (sym l.lines)
          ∙ finish

      reached_with : (m : Making) → Stands room r from.standing m → Placed text from m → and_then m (rest text settings room from) ≡ target
          → (act : Act) → line_act settings from.heads bytes ≡ act → Reached text settings room target (stage_with act) r
      unfolding step
      reached_with (halted why) stands placed finish act e = absurd (omega arith)
      reached_with (going st) stands placed finish Pass e = record {
        making = going st;
        stands = passed_stands r room from.number from.standing.held Pass tt st stands.1 (omega (arith, i.1));
        placed = omega (arith, next_number);
        finish = finish_with st Pass e finish;
      }
      reached_with (going st) stands placed finish Skip e = record {
        making = going (step st skipped);
        stands = passed_stands r room from.number from.standing.held Skip tt st stands.1 (omega (arith, i.1));
        placed = omega (arith, next_number);
        finish = finish_with st Skip e finish;
      }
      reached_with (going st) stands placed finish (Keep s) e = record {
        st = st;
        going = refl;
        holds = stands.1;
        rows = placed;
        numbered = omega (arith, next_number);
        finite = subst FiniteIn e (act_finite settings from.heads bytes);
        finish = finish_with st (Keep s) e finish;
      }
      reached_with (going st) stands placed finish (Refuse why) e = record {
        making = halted (at from.number why);
        stands = refl;
        placed = refl;
        finish = finish_with st (Refuse why) e finish;
      }

      pub next_reached : (act : Act) → plan.act ≡ act → Between text settings room target from r → Reached text settings room target (stage_with act) r
      next_reached act e b = reached_with b.making b.stands b.placed b.finish act (sym (plan_act settings from.heads bytes) ∙ e)
