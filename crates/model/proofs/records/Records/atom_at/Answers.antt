-- Each field is its slice's entry.
use mathlib.Core.Path.{ap, ◌∙◌}
use Rattle.model.specs.Lent.{point_of}
use Rattle.model.specs.TakenOut.{atom_out}
use Rattle.model.proofs.records.Records.atom_at.Goals as goal

pub returns : goal.returns
unfolding atom_out
returns c =
    let position = c.point_of.ensures ∙ ap point_of c.entry_at-4.ensures in
    λ i. record {
      key = c.entry_at.ensures i;
      name = c.entry_at-2.ensures i;
      element = c.entry_at-3.ensures i;
      position = position i;
      occupancy = c.entry_at-5.ensures i;
    }
