-- The table holds the residues of the numbers from 1 on; 0 and the numbers past the table have none.
use mathlib.Core.Path.{◌≡◌, ◌∙◌}
use native.Mathlib.Omega.{arith}
use Rattle.names.specs.Residues.{standard_residues, residues, residue_of}
use Rattle.names.specs.declared.residues.TheConstants.{RESIDUES}
use Rattle.names.proofs.TablesByTest.{looked_up_from_one}
use Rattle.names.proofs.residues.StandardResidue.of_code.Goals as goal

pub returns-in_err-place : goal.returns-in_err-place
unfolding standard_residues residues residue_of
returns-in_err-place c = let none : c.args.code ≡ 0 = grind arith in rw (c.from_residual.ensures, none)

pub returns : goal.returns
unfolding standard_residues residues residue_of
returns c = c.copied.ensures ∙ looked_up_from_one RESIDUES c.args.code c.in_ok-place.place _ c.in_ok-place.ensures c.get.ensures.lookup
