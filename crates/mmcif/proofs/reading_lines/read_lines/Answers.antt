-- Rows under way: one turn takes a run, its chain found and its name stored, and after the last the target is reached.
use mathlib.Core.Path.{◌≡◌, sym, ap, ◌∙◌, subst}
use mathlib.Core.Bool.{true}
use mathlib.Core.List.{List}
use Prim.Native.Nat.{ℕ, ◌<◌}
use lib.ListN.{take, set}
use Rattle.std.proofs.Common.{rules}
use Rattle.std.specs.Prelude.{Some}
use Rattle.rows.specs.declared.settings.Settings.{Settings}
use Rattle.model.specs.declared.room.Room.{Room}
use Rattle.building.specs.Holds.{Records, records_now}
use Rattle.building.specs.Slices.{ChainFound}
use Rattle.building.proofs.ChainsStored.{stored_in}
use Rattle.acts.specs.Making.{Making}
use Rattle.mmcif.specs.declared.stages.Stage.{Stage}
use Rattle.mmcif.specs.declared.stages.Waiting.{Waiting}
use Rattle.mmcif.specs.Stages.{chain_in, is_waiting, left, met, TakesRun}
use Rattle.mmcif.proofs.UnderWay.{UnderWay, begins, ends, turn, fewer}
use Rattle.mmcif.proofs.reading_lines.read_lines.Goals as goal

-- ---- a run, its chain found by its name and that stored
module _ {text : List ℕ} {settings : Settings} {room : Room} {first : Records} {target : Making} {s : Stage} {r : Records} (u : UnderWay text settings room first target s r)
    (row : Waiting) (is : s.waiting ≡ Some row) (place : ℕ) (found : ChainFound (take (met s) r.chains) row.site.chain place)
    (chains : List ℕ) (stored : chains ≡ set r.chains place row.site.chain) (to : Stage) (after : List ℕ → Records)
    (takes : TakesRun text settings room place s to (stored_in r place (chain_in s.waiting)) (after (set r.chains place (chain_in s.waiting)))) where
  waits : is_waiting s.waiting ≡ true
  waits = ap is_waiting is

  named : row.site.chain ≡ chain_in s.waiting
  named = sym (ap chain_in is)

  found_here : ChainFound (take (met s) r.chains) (chain_in s.waiting) place
  found_here = subst (λ (n : ℕ). ChainFound (take (met s) r.chains) n place) named found

  taken : TakesRun text settings room place s to (stored_in r place (chain_in s.waiting)) (after chains)
  taken =
      subst (λ (l : List ℕ). TakesRun text settings room place s to (stored_in r place (chain_in s.waiting)) (after l)) (sym (stored ∙ ap (set r.chains place) named)) takes

  less_left : left text to < left text s
  less_left = fewer u waits place found_here to (after chains) taken

  one_run : UnderWay text settings room first target to (after chains)
  one_run = turn u waits place found_here to (after chains) taken

pub loop-stage-init : goal.loop-stage-init
loop-stage-init c = (search rules, search rules, λ target u. u)

pub loop-stage-smaller : goal.loop-stage-smaller
loop-stage-smaller c =
    let a = c.args in
    let l = c.take_run-stage.new in
    less_left (c.loop-stage.invariant.2 _ (begins a.text.now a.settings a.room _ a.halt c.first_row-stage.result c.first_row-stage.ensures))
    c.in-Some.row c.in-Some.is c.chain_place-place.result c.chain_place-place.ensures c.store.new.slice c.store.ensures c.take_run-stage.result
    (λ chains. records_now chains l.residues l.atoms) (c.take_run-stage.ensures.takes _)

pub loop-stage-preserved : goal.loop-stage-preserved
loop-stage-preserved c =
    let l = c.take_run-stage.new in (
      search rules,
      search rules,
      λ target u.
          one_run (c.loop-stage.invariant.2 target u)
          c.in-Some.row c.in-Some.is c.chain_place-place.result c.chain_place-place.ensures c.store.new.slice c.store.ensures c.take_run-stage.result
          (λ chains. records_now chains l.residues l.atoms) (c.take_run-stage.ensures.takes _),
    )

pub returns-clause-passes : goal.returns-clause-passes
returns-clause-passes c =
    let a = c.args in
    ends (c.loop-stage.invariant.2 _ (begins a.text.now a.settings a.room _ a.halt c.first_row-stage.result c.first_row-stage.ensures)) (ap is_waiting c.in_default.is)
