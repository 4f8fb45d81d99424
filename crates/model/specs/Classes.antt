-- What a residue is by its name. Resolved: Standard. Else not HETATM: refused. Else one distinct atom: Ion; more: Hetero.
use Rattle.std.specs.Prelude.{Bool, true, false, not, ◌&&◌, cond, List, ℕ, eqb, length, Option, None, Some}
use Rattle.names.specs.Categories.{category_code}
use Rattle.names.specs.Residues.{residue_code}
use Rattle.names.specs.Table.{resolve_of}
use Rattle.names.specs.declared.residues.ResidueCategory.{ResidueCategory}
use Rattle.names.specs.declared.residues.ResidueCategory.TheVariants.{Hetero, Ion}
use Rattle.names.specs.declared.table.Resolved.{Resolved}
use Rattle.model.specs.declared.classes.Class.{Class}
use Rattle.model.specs.Fold.{Residue}
use Rattle.model.specs.Lists.{filter}
use Rattle.model.specs.Records.{AtomRecord}

-- the residue of a key has one distinct atom
unfoldable pub is_lone : List AtomRecord → ℕ → Bool
is_lone atoms key = eqb (length (filter (λ a. eqb a.key key) atoms)) 1

-- where the name is not resolved
abbrev pub other_category : Bool → ResidueCategory
other_category lone = cond lone Ion Hetero

-- a resolved name is taken, with its standard code; another one stays, without a code
abbrev pub class_by : Option Resolved → ℕ → Bool → Class
class_by (Some to) name lone = record { name = to.name; code = residue_code to.residue; category = category_code ResidueCategory.Standard }
class_by None name lone = record { name = name; code = 0; category = category_code (other_category lone) }

unfoldable pub class_of : ℕ → Bool → Class
class_of name lone = class_by (resolve_of name) name lone

abbrev pub is_resolved : Option Resolved → Bool
is_resolved (Some to) = true
is_resolved None = false

-- neither resolved nor HETATM
unfoldable pub is_unknown : Residue → Bool
is_unknown r = not (is_resolved (resolve_of r.name)) && not r.hetatm
