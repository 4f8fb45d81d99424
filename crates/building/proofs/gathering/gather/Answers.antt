-- Both kinds to the front; the chains stand there.
use mathlib.Core.Path.{refl}
use Rattle.building.specs.Holds.{records_now}
use Rattle.building.proofs.GatheringLaws.{all_gathered}
use Rattle.building.proofs.gathering.gather.Goals as goal

pub returns : goal.returns
returns c =
    let a = c.args in
    let residues = c.gather_residues in
    let atoms = c.gather_atoms in
    record {
      same = residues.ensures.same;
      same_atoms = atoms.ensures.same;
      gathers = λ chains.
          all_gathered (records_now chains a.residues.now a.atoms.now) a.held (records_now chains residues.new.residues atoms.new.atoms) refl residues.ensures.gathered atoms.ensures.gathered;
    }
