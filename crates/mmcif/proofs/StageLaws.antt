-- From stage to stage: lines are taken while none waits, up to the row that waits or to the end; a row that waits is put in, and lines are taken again.
use Prim.{Unit}
use mathlib.Core.Path.{◌≡◌, refl, sym, ap, ◌∙◌, subst}
use mathlib.Core.Bool.{true, false≢true}
use mathlib.Core.List.{List}
use Prim.Native.Nat.{ℕ, suc, ◌+◌, ◌-◌, ◌^◌, ◌≤◌, ◌<◌}
use native.Mathlib.Omega.{arith}
use lib.ListN.{length, take, drop}
use Rattle.std.specs.Prelude.{Option, Some, None, Result, Ok, Err}
use Rattle.refusals.specs.declared.reasons.Refusal.{Refusal}
use Rattle.lines.specs.Lines.{LineAt}
use Rattle.lines.specs.declared.lines.Line.{Line}
use Rattle.rows.specs.declared.rules.Site.{Site}
use Rattle.rows.specs.declared.settings.Settings.{Settings}
use Rattle.model.specs.Lists.{count}
use Rattle.model.specs.declared.room.Room.{Room}
use Rattle.building.specs.Holds.{Records}
use Rattle.acts.specs.Making.{Making, going, halted, done, and_then}
use Rattle.acts.specs.Standing.{Stands, Acts}
use Rattle.acts.specs.declared.act.Act.{Act}
use Rattle.acts.specs.declared.act.Act.TheVariants.{Keep}
use Rattle.acts.specs.declared.doing.Standing.{Standing}
use Rattle.acts.proofs.RowsGrow.{RowsWithin, rows_grow}
use Rattle.mmcif.specs.declared.stages.Stage.{Stage}
use Rattle.mmcif.specs.declared.stages.Waiting.{Waiting}
use Rattle.mmcif.specs.Plans.{plan_of}
use Rattle.mmcif.specs.Stages.{onward_to, is_waiting, stage_at, met, Inside, rest, Placed, Between, Before, ReachedBy, Reached, GoesOnTo}
use Rattle.mmcif.proofs.NextLineLaws.{waiting_by, stage_with, next_moves, none_met, next_inside, next_reached}

at_most_one : (w : Option Waiting) → count (is_waiting w) ≤ 1
at_most_one None = omega arith
at_most_one (Some row) = omega arith

module _ (text : List ℕ) (settings : Settings) where
  -- so far, with none that waits
  pub record OnTheWay (from s : Stage) : Type 0 where
    pub fewer : length text - s.at ≤ length text - from.at
    pub chains : met s ≡ met from
    pub inside : Inside text from → Inside text s
    pub reached : Inside text from → (room : Room) (target : Making) (r : Records) → Between text settings room target from r → Between text settings room target s r

  pub sets_out : (s : Stage) → OnTheWay s s
  sets_out s = record { fewer = omega arith; chains = refl; inside = λ i. i; reached = λ i room target r b. b }

  module _ (few : suc (length text) < 2 ^ 64) (from s : Stage) (w : OnTheWay from s) (more : s.at < length text) (line : Line) (l : LineAt text s.at line) (act : Act)
      (e : (plan_of settings s.heads (take (line.end - s.at) (drop s.at text))).act ≡ act) where
    abbrev next : Stage
    next = stage_with text settings s few more line l act

    moves : (s.at < next.at) × (next.at ≤ length text)
    moves = next_moves text settings s few more line l act

    reached_next : Inside text from → (room : Room) (target : Making) (r : Records) → Between text settings room target from r → Reached text settings room target next r
    reached_next i room target r b = next_reached text settings s few more line l (w.inside i) room target r act e (w.reached i room target r b)

    pub further_on : length text - next.at < length text - s.at
    further_on = omega (arith, moves.0, more)

    -- a line whose row does not wait
    pub one_line : waiting_by s.number act ≡ None → OnTheWay from next
    one_line none = record {
      fewer = omega (arith, further_on, w.fewer);
      chains = none_met text settings s few more line l act ∙ w.chains;
      inside = λ i. next_inside text settings s few more line l (w.inside i) act;
      reached = λ i room target r b. subst (λ (x : Option Waiting). ReachedBy x text settings room target next r) none (reached_next i room target r b);
    }

    -- a line whose row does
    pub row_met : is_waiting (waiting_by s.number act) ≡ true → GoesOnTo text settings from next
    row_met waits = record {
      stops = λ none. absurd (false≢true (sym none ∙ waits));
      fewer = omega (arith, moves.0, moves.1, w.fewer, at_most_one (waiting_by s.number act));
      chains = none_met text settings s few more line l act ∙ w.chains;
      inside = λ i. next_inside text settings s few more line l (w.inside i) act;
      reached = reached_next;
    }

  -- no line is left
  pub at_end_lem : (from s : Stage) → OnTheWay from s → s.waiting ≡ None → length text ≤ s.at → GoesOnTo text settings from s
  at_end_lem from s w none e = record {
    stops = λ h. e;
    fewer = omega (arith, w.fewer, ap (λ (x : Option Waiting). count (is_waiting x)) none);
    chains = w.chains;
    inside = w.inside;
    reached = λ i room target r b. subst (λ (x : Option Waiting). ReachedBy x text settings room target s r) (sym none) (w.reached i room target r b);
  }

  -- ---- the row that waits
  module _ (from : Stage) (kept : Standing) where
    -- the row put in, before the next line
    abbrev pub between : Stage
    between = stage_at (onward_to kept.halt from.at (length text)) from.number from.heads kept

    pub at_between : (halt : Result (Unit {0}) Refusal) → length text - onward_to halt from.at (length text) ≤ length text - from.at
    at_between (Ok u) = omega arith
    at_between (Err why) = omega arith

    pub inside_between : Inside text from → Inside text between
    inside_between i = go kept.halt
      where
        go : (halt : Result (Unit {0}) Refusal) → (onward_to halt from.at (length text) ≤ length text) × (from.number ≤ onward_to halt from.at (length text) + 1)
        go (Ok u) = i
        go (Err why) = (omega arith, omega (arith, i.0, i.1))

    module _ (room : Room) (r after : Records) (line : ℕ) (site : Site) (acts : Acts r room from.standing.held (record { line = line; act = Keep site }) kept after)
        (i : Inside text from) (few : suc (length text) < 2 ^ 64) (target : Making) (b : Before text settings room target line site from r) where
      abbrev here : Making
      here = done room b.st (record { line = line; act = Keep site })

      stands : Stands room after kept here
      stands = acts.stands b.st b.holds (omega (arith, b.rows, b.numbered, i.0, i.1)) b.finite

      placed_by : (m : Making) → Stands room after kept m → RowsWithin (suc b.st.rows) m → Placed text between m
      placed_by (going st) s grown = omega (arith, b.rows, b.numbered)
      placed_by (halted why) s grown = ap (λ (halt : Result (Unit {0}) Refusal). onward_to halt from.at (length text)) s

      same_rest : (m : Making) → Stands room after kept m → and_then m (rest text settings room between) ≡ and_then m (rest text settings room from)
      same_rest (going st) s = ap (λ (halt : Result (Unit {0}) Refusal). rest text settings room (stage_at (onward_to halt from.at (length text)) from.number from.heads kept) st) s.0
      same_rest (halted why) s = refl

      pub row_put : Between text settings room target between after
      row_put = record {
        making = here;
        stands = stands;
        placed = placed_by here stands (rows_grow room b.st line (Keep site));
        finish = same_rest here stands ∙ b.finish;
      }
