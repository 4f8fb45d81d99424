-- The counts of a reading, each as a count over the rows.
use Rattle.std.specs.Prelude.{◌≡◌, List, ◌+◌, length}
use Rattle.model.specs.Records.{Model}
use Rattle.model.specs.Rules.{outdone_in, assumed_in}
use Rattle.model.specs.Taken.{Taken, sites, skipped_in}
use Rattle.building.specs.declared.sites.Counts.{Counts}

pub record CountedOver (taken : List Taken) (m : Model) (counts : Counts) : Type 0 where
  pub rows : counts.rows ≡ length taken
  pub skipped : counts.skipped ≡ skipped_in taken
  -- unskipped, not the kept row of their atom
  pub outdone : counts.outdone ≡ outdone_in (sites taken)
  -- unskipped, with an occupancy that was assumed
  pub assumed : counts.assumed ≡ assumed_in (sites taken)
  -- and those of the model
  pub chains : counts.chains ≡ length m.chains
  pub residues : counts.residues ≡ length m.residues
  pub atoms : counts.atoms ≡ length m.atoms
  pub sum : counts.rows ≡ counts.skipped + counts.outdone + counts.atoms
