-- How the code goes from row to row: a stage, what it stands for, and what is promised of each step. All lines together make the target, and a stage stands for having come so far.
use Prim.{Unit, tt}
use Rattle.std.specs.Prelude.{◌≡◌, Bool, true, false, cond, List, ℕ, suc, ◌+◌, ◌-◌, ◌≤◌, ◌<◌, eqb, ltb, length, take, drop, set, Option, Some, None, Result, Ok, Err}
use Rattle.refusals.specs.declared.reasons.Refusal.{Refusal}
use Rattle.lines.specs.Lines.{lines_of}
use Rattle.rows.specs.declared.rules.Site.{Site}
use Rattle.rows.specs.declared.settings.Settings.{Settings}
use Rattle.line_states.specs.Heads.{start_heads}
use Rattle.line_states.specs.declared.heads.Heads.{Heads}
use Rattle.model.specs.Fold.{State}
use Rattle.model.specs.Lists.{count}
use Rattle.model.specs.Proper.{Finite}
use Rattle.model.specs.declared.room.Room.{Room}
use Rattle.building.specs.Gaps.{none_held, HoldsApart}
use Rattle.building.specs.Holds.{Records, SameLengths}
use Rattle.building.specs.Slices.{ChainFound}
use Rattle.acts.specs.Making.{Making, going, halted, done, and_then, made}
use Rattle.acts.specs.Standing.{Stands, Keeps}
use Rattle.acts.specs.declared.act.Act.TheVariants.{Keep}
use Rattle.acts.specs.declared.doing.Standing.{Standing}
use Rattle.mmcif.specs.declared.stages.Stage.{Stage}
use Rattle.mmcif.specs.declared.stages.Waiting.{Waiting}
use Rattle.mmcif.specs.Acts.{acts_from}

-- ---- the parts of a stage

-- a refusal ends the text
abbrev pub onward_to : Result (Unit {0}) Refusal → ℕ → ℕ → ℕ
onward_to (Ok u) next size = next
onward_to (Err why) next size = size

-- up to the greatest number that there is
unfoldable pub number_after : ℕ → ℕ
number_after number = cond (ltb number 18446744073709551615) (suc number) number

abbrev pub chain_in : Option Waiting → ℕ
chain_in None = 0
chain_in (Some row) = row.site.chain

abbrev pub is_waiting : Option Waiting → Bool
is_waiting None = false
is_waiting (Some row) = true

-- a row of this chain
abbrev pub is_of : Option Waiting → ℕ → Bool
is_of None name = false
is_of (Some row) name = eqb row.site.chain name

-- the chain of the run that begins with it
abbrev pub run_of : Option Waiting → Option ℕ
run_of None = None
run_of (Some row) = Some row.site.chain

-- with which a run goes on, if there is one
abbrev pub is_own : Option ℕ → Option Waiting → Bool
is_own (Some name) w = is_of w name
is_own None w = false

-- where no row waits
abbrev pub stage_at : ℕ → ℕ → Heads → Standing → Stage
stage_at at number heads standing = record { at = at; number = number; heads = heads; standing = standing; waiting = None }

-- the same place, with none that waits
abbrev pub between_rows : Stage → Stage
between_rows s = stage_at s.at s.number s.heads s.standing

abbrev pub first_stage : Result (Unit {0}) Refusal → ℕ → Stage
first_stage halt size = stage_at (onward_to halt 0 size) 1 start_heads (record { held = none_held; halt = halt })

-- how many chains were met
abbrev pub met : Stage → ℕ
met s = s.standing.held.counts.chains

-- how much of the text is left, with the row that waits
abbrev pub left : List ℕ → Stage → ℕ
left text s = length text - s.at + count (is_waiting s.waiting)

-- ---- what a stage stands for

-- the place is in the text, and no more lines than bytes have been taken
abbrev pub Inside : List ℕ → Stage → Type 0
Inside text s = (s.at ≤ length text) × (s.number ≤ s.at + 1)

-- what the lines behind it make
abbrev pub rest : List ℕ → Settings → Room → Stage → State → Making
rest text settings room s st = made room st (acts_from settings s.number s.heads (lines_of (drop s.at text)))

-- a line is at most one row, and a refusal has ended the text
abbrev pub Placed : List ℕ → Stage → Making → Type 0
Placed text s (going st) = st.rows < s.number
Placed text s (halted why) = s.at ≡ length text

-- no row waits
pub record Between (text : List ℕ) (settings : Settings) (room : Room) (target : Making) (s : Stage) (r : Records) : Type 0 where
  pub making : Making
  pub stands : Stands room r s.standing making
  pub placed : Placed text s making
  pub finish : and_then making (rest text settings room s) ≡ target

-- the row of this line waits
pub record Before (text : List ℕ) (settings : Settings) (room : Room) (target : Making) (line : ℕ) (site : Site) (s : Stage) (r : Records) : Type 0 where
  pub st : State
  pub going : s.standing.halt ≡ Ok tt
  pub holds : HoldsApart r room s.standing.held st
  pub rows : st.rows < line
  pub numbered : line < s.number
  pub finite : Finite site.occupancy
  pub finish : and_then (done room st (record { line = line; act = Keep site })) (rest text settings room s) ≡ target

abbrev pub ReachedBy : Option Waiting → List ℕ → Settings → Room → Making → Stage → Records → Type 0
ReachedBy None text settings room target s r = Between text settings room target s r
ReachedBy (Some row) text settings room target s r = Before text settings room target row.line row.site s r

abbrev pub Reached : List ℕ → Settings → Room → Making → Stage → Records → Type 0
Reached text settings room target s r = ReachedBy s.waiting text settings room target s r

-- ---- the steps

-- up to the next row, or to the end
pub record GoesOnTo (text : List ℕ) (settings : Settings) (from to : Stage) : Type 0 where
  pub stops : is_waiting to.waiting ≡ false → length text ≤ to.at
  pub fewer : left text to ≤ length text - from.at
  pub chains : met to ≡ met from
  pub inside : Inside text from → Inside text to
  pub reached : Inside text from → (room : Room) (target : Making) (r : Records) → Between text settings room target from r → Reached text settings room target to r

-- the row that waits put in, its chain found at this place; nothing where none waits
abbrev pub PutBy : Option Waiting → Room → ℕ → Stage → Standing → Records → Records → Type 0
PutBy None room place from kept r after = kept ≡ from.standing
PutBy (Some row) room place from kept r after = ChainFound (take (met from) r.chains) row.site.chain place → Keeps r room row.line from.standing.held row.site kept after

pub record PutsWaiting (room : Room) (place : ℕ) (from : Stage) (kept : Standing) (r after : Records) : Type 0 where
  pub lengths : SameLengths r after
  pub puts : PutBy from.waiting room place from kept r after

-- the row that waits and all that follow on it in its chain, whose name stands at the place already
pub record TakesRun (text : List ℕ) (settings : Settings) (room : Room) (place : ℕ) (from to : Stage) (r after : Records) : Type 0 where
  pub lengths : SameLengths r after
  pub stops : is_waiting from.waiting ≡ true → is_waiting to.waiting ≡ false → length text ≤ to.at
  pub fewer : is_waiting from.waiting ≡ true → left text to < left text from
  pub inside : Inside text from → Inside text to
  pub reached : Inside text from → is_waiting from.waiting ≡ true → ChainFound (take (met from) r.chains) (chain_in from.waiting) place → set r.chains place (chain_in from.waiting) ≡ r.chains
      → (target : Making) → Reached text settings room target from r → Reached text settings room target to after

-- a run, or up to the first row where none waits
pub record Walks (text : List ℕ) (settings : Settings) (room : Room) (place : ℕ) (from to : Stage) (r after : Records) : Type 0 where
  pub run : TakesRun text settings room place from to r after
  pub first : is_waiting from.waiting ≡ false
      → GoesOnTo text settings (stage_at (onward_to from.standing.halt from.at (length text)) from.number from.heads from.standing) to
