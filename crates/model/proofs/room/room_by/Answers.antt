-- One minimum for chains, and for residues and atoms the least of the slices' lengths against the size.
use mathlib.Core.Path.{ap, ◌∙◌}
use Prim.Native.Nat.{min}
use Rattle.model.proofs.room.room_by.Goals as goal

pub returns : goal.returns
returns c =
    let residues = c.min-2.ensures ∙ ap (min 65536) c.smallest-residues.ensures in
    let atoms = c.min-3.ensures ∙ ap (min 1048576) c.smallest-atoms.ensures in
    λ i. record { chains = c.min.ensures i; residues = residues i; atoms = atoms i }
