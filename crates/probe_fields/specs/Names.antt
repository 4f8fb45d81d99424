-- What a name is resolved to, in two numbers: the standard residue's code and the packed canonical name, both 0 where there are none.
use Rattle.std.specs.Prelude.{ℕ, Option, Some, None}
use Rattle.names.specs.declared.table.Resolved.{Resolved}
use Rattle.names.specs.Residues.{residue_code}

abbrev pub code_of : Option Resolved → ℕ
code_of (Some found) = residue_code found.residue
code_of None = 0

abbrev pub canonical_of : Option Resolved → ℕ
canonical_of (Some found) = found.name
canonical_of None = 0
