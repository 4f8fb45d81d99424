use mathlib.Core.Path.{◌≡◌}
use lib.ListN.{get_or}
use Rattle.field_slices.specs.Clearing.{zero_point}
use Rattle.model.specs.Lent.{list_from}
use Rattle.ascii.specs.Lists.{every}
use Rattle.wellformed.specs.Slices.{entries, is_atom_well}
use Rattle.wellformed.proofs.FromLaws.{rest}
use Rattle.wellformed.proofs.atoms.are_atoms_well.Given as goal

abbrev pub invariant-loop-i : goal.invariant-loop-i
invariant-loop-i l = every (λ k. is_atom_well (entries l.records.atom_names.now k) (entries l.records.elements.now k) (get_or l.records.positions.now k zero_point)) (list_from (λ k. k) 0 l.n) ≡ every (λ k. is_atom_well (entries l.records.atom_names.now k) (entries l.records.elements.now k) (get_or l.records.positions.now k zero_point)) (rest (λ k. k) l.n l.i)
