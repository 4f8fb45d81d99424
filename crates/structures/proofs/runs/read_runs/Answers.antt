-- Rows under way: one turn takes a run, its chain found among the records and its name stored, and after the last the target is reached.
use mathlib.Core.Path.{◌≡◌, refl, sym, ap, ◌∙◌, subst}
use mathlib.Core.Bool.{true}
use mathlib.Core.List.{List}
use Prim.Native.Nat.{ℕ, ◌<◌}
use lib.ListN.{take, set}
use Rattle.std.proofs.Common.{rules}
use Rattle.std.specs.Prelude.{Some}
use Rattle.rows.specs.declared.settings.Settings.{Settings}
use Rattle.field_slices.proofs.MapLaws.{map_set}
use Rattle.model.specs.declared.room.Room.{Room}
use Rattle.building.specs.Holds.{Records, records_of, records_now}
use Rattle.building.specs.Slices.{ChainFound}
use Rattle.acts.specs.Making.{Making}
use Rattle.mmcif.specs.declared.stages.Stage.{Stage}
use Rattle.mmcif.specs.declared.stages.Waiting.{Waiting}
use Rattle.mmcif.specs.Stages.{chain_in, is_waiting, left, met, TakesRun}
use Rattle.mmcif.proofs.UnderWay.{UnderWay, begins, ends, turn, fewer}
use Rattle.chains.specs.declared.chain.Chain.{Chain}
use Rattle.chains.specs.Names.{chain_of, names_in}
use Rattle.structures.proofs.runs.read_runs.Goals as goal

-- the same records with other chain names
abbrev with_names : Records → List ℕ → Records
with_names r names = records_of names r.residue_keys r.residue_names r.residue_marks r.atom_keys r.atom_names r.elements r.positions r.occupancies

-- ---- a turn: the chain is found at its place, and its run taken
module _ {text : List ℕ} {settings : Settings} {room : Room} {first : Records} {target : Making} {s : Stage} {r : Records} (u : UnderWay text settings room first target s r)
    (chains : List Chain) (same : r.chains ≡ names_in chains) (row : Waiting) (is : s.waiting ≡ Some row) (place : ℕ)
    (found : ChainFound (take (met s) (names_in chains)) row.site.chain place) (after : List Chain) (stored : after ≡ set chains place (chain_of row.site.chain)) (to : Stage)
    (then : List ℕ → Records) (takes : (names : List ℕ) → TakesRun text settings room place s to (with_names r names) (then names)) where
  waits : is_waiting s.waiting ≡ true
  waits = ap is_waiting is

  named : row.site.chain ≡ chain_in s.waiting
  named = sym (ap chain_in is)

  found_here : ChainFound (take (met s) r.chains) (chain_in s.waiting) place
  found_here =
      subst (λ (l : List ℕ). ChainFound (take (met s) l) (chain_in s.waiting) place) (sym same)
      (subst (λ (n : ℕ). ChainFound (take (met s) (names_in chains)) n place) named found)

  names : names_in after ≡ set r.chains place (chain_in s.waiting)
  names =
      ap names_in stored ∙ map_set (λ (c : Chain). c.name) chains place (chain_of row.site.chain)
      ∙ ap (λ (l : List ℕ). set l place row.site.chain) (sym same) ∙ ap (set r.chains place) named

  taken : TakesRun text settings room place s to (with_names r (set r.chains place (chain_in s.waiting))) (then (names_in after))
  taken =
      subst (λ (l : List ℕ). TakesRun text settings room place s to (with_names r (set r.chains place (chain_in s.waiting))) (then l)) (sym names)
      (takes (set r.chains place (chain_in s.waiting)))

  less_left : left text to < left text s
  less_left = fewer u waits place found_here to (then (names_in after)) taken

  one_run : UnderWay text settings room first target to (then (names_in after))
  one_run = turn u waits place found_here to (then (names_in after)) taken

pub loop-stage-init : goal.loop-stage-init
loop-stage-init c =
    let a = c.args in record {
      same_residues = search rules;
      same_atoms = search rules;
      under_way = begins a.text.now a.settings a.room _ a.halt c.first_row-stage.result c.first_row-stage.ensures;
    }

pub loop-stage-smaller : goal.loop-stage-smaller
loop-stage-smaller c =
    let l = c.take_run-stage.new in
    less_left c.loop-stage.invariant.under_way c.loop-stage.chains refl c.in-Some.row c.in-Some.is c.place_in-place.result c.place_in-place.ensures.0
    c.place_in-place.new.chains c.place_in-place.ensures.1 c.take_run-stage.result
    (λ names. records_now names l.residues l.atoms) c.take_run-stage.ensures.takes

pub loop-stage-preserved : goal.loop-stage-preserved
loop-stage-preserved c =
    let l = c.take_run-stage.new in record {
      same_residues = search rules;
      same_atoms = search rules;
      under_way =
          one_run c.loop-stage.invariant.under_way c.loop-stage.chains refl c.in-Some.row c.in-Some.is c.place_in-place.result c.place_in-place.ensures.0
          c.place_in-place.new.chains c.place_in-place.ensures.1 c.take_run-stage.result
          (λ names. records_now names l.residues l.atoms) c.take_run-stage.ensures.takes;
    }

pub returns-clause-passes : goal.returns-clause-passes
returns-clause-passes c = ends c.loop-stage.invariant.under_way (ap is_waiting c.in_default.is)
