-- Demand 3 over acts: two texts ask for the same but for one part, whose acts are the same in another order, whatever their lines.
use Rattle.std.specs.Prelude.{◌≡◌, Bool}
use mathlib.Core.List.{List, ◌++◌, map, Permᴰ}
use Rattle.rows.specs.declared.rules.Site.{Site}
use Rattle.model.specs.Alike.{is_of}
use Rattle.model.specs.Lists.{filter, any}
use Rattle.model.specs.Rules.{same_residue, first_met, first_of}
use Rattle.model.specs.Taken.{sites}
use Rattle.acts.specs.Acts.{Asked, row_in, rows_in}
use Rattle.acts.specs.declared.act.Act.{Act}

abbrev pub acts_in : List Asked → List Act
acts_in acts = map (λ a. a.act) acts

pub record ActsReordered (a b : List Asked) : Type 0 where
  pub before : List Act
  pub part : List Act
  pub reordered : List Act
  pub after : List Act
  pub one : acts_in a ≡ before ++ (part ++ after)
  pub other : acts_in b ≡ before ++ (reordered ++ after)
  pub order : Permᴰ part reordered

-- the act is an unskipped row of the atom of s
abbrev pub keeps_of : Site → Act → Bool
keeps_of s act = any (is_of s) (row_in act)

-- ---- "chains first met in the same order"

abbrev pub ChainsMetAlike : List Site → List Site → Type 0
ChainsMetAlike l m = first_met l ≡ first_met m

-- ---- "each residue's first unskipped row bearing the same residue name and HETATM mark"

abbrev pub ResiduesBeginAlike : List Site → List Site → Type 0
ResiduesBeginAlike l m = (s : Site) → first_of (filter (same_residue s) l) ≡ first_of (filter (same_residue s) m)

-- ---- and "rows of one atom keeping their order"

pub record ActsDiffer (a b : List Asked) : Type 0 where
  pub acts : ActsReordered a b
  pub atoms : (s : Site) → filter (keeps_of s) acts.part ≡ filter (keeps_of s) acts.reordered
  pub chains : ChainsMetAlike (sites (rows_in a)) (sites (rows_in b))
  pub residues : ResiduesBeginAlike (sites (rows_in a)) (sites (rows_in b))
