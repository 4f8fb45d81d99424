-- The categories of residues, the number that stands for each in a lent record, and the name that it is shown by.
use Rattle.std.specs.Prelude.{ℕ, List, [], ◌∷◌, map, get_or, Option, Some, None}
use Rattle.ascii.specs.Bytes.{bytes}
use Rattle.names.specs.declared.residues.ResidueCategory.{ResidueCategory}
use Rattle.names.specs.declared.residues.ResidueCategory.TheVariants.{Standard, Hetero, Ion}

abbrev pub category_code : ResidueCategory → ℕ
category_code Standard = 1
category_code Hetero = 2
category_code Ion = 3

abbrev pub category_name : ResidueCategory → List ℕ
category_name Standard = bytes "Standard Residue"
category_name Hetero = bytes "Hetero Residue"
category_name Ion = bytes "Ion"

-- in the order of their numbers, from 1 on
unfoldable pub residue_categories : List ResidueCategory
residue_categories = Standard ∷ Hetero ∷ Ion ∷ []

-- the categories of the numbers from 0 on, of which 0 has none
unfoldable pub categories : List (Option ResidueCategory)
categories = None ∷ map Some residue_categories

-- the category of a number; past the list there is none
unfoldable pub category_of : ℕ → Option ResidueCategory
category_of n = get_or categories n None
