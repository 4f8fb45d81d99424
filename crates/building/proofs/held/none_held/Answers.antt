-- No record of either kind.
use Rattle.building.proofs.held.none_held.Goals as goal

pub returns : goal.returns
returns c = λ i. record {
  counts = record { chains = 0; residues = 0; atoms = 0; rows = 0; skipped = 0; outdone = 0; assumed = 0 };
  residues = c.no_store.ensures i;
  atoms = c.no_store-2.ensures i;
}
