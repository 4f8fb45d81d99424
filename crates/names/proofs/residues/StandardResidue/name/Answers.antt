-- The table holds the name of each number's residue, packed.
use mathlib.Core.Path.{◌∙◌, ap, subst, sym}
use mathlib.Core.List.{map}
use Prim.Native.Nat.{ℕ, ◌<◌}
use lib.ListN.{get_or}
use Rattle.names.specs.Packing.{packed_in}
use Rattle.names.specs.Residues.{standard_residues, residues, residue_name}
use Rattle.names.proofs.ResiduesByNumber.{number_below, shown_in, shown_by_number}
use Rattle.names.proofs.residues.StandardResidue.name.Goals as goal

pub bounds-i : goal.bounds-i
bounds-i c = subst (λ (n : ℕ). n < 32) (sym c.code-i.ensures) (number_below c.args.self)

pub returns : goal.returns
unfolding standard_residues residues residue_name packed_in
returns c = ap (λ (n : ℕ). get_or (map shown_in residues) n 0) c.code-i.ensures ∙ shown_by_number c.args.self
