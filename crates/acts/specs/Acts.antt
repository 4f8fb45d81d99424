-- What a text asks for: a list of acts, each with the number of its line. Which they are, a format says of its text and the settings alone; there is no room and no
-- model in it.
use Prim.{Unit}
use Rattle.std.specs.Prelude.{List, [], ◌∷◌, ◌++◌, ℕ}
use Rattle.model.specs.Lists.{All}
use Rattle.model.specs.Taken.{Taken, skipped, site}
use Rattle.acts.specs.declared.act.Act.{Act}
use Rattle.acts.specs.declared.act.Act.TheVariants.{Pass, Skip, Keep, Refuse}

pub record Asked : Type 0 where
  pub line : ℕ
  pub act : Act

-- ---- the rows: those that are kept or skipped

abbrev pub row_in : Act → List Taken
row_in Pass = []
row_in Skip = skipped ∷ []
row_in (Keep s) = site s ∷ []
row_in (Refuse why) = []

unfoldable pub rows_in : List Asked → List Taken
rows_in [] = []
rows_in (a ∷ acts) = row_in a.act ++ rows_in acts

-- ---- no refusal

abbrev pub GoesOn : Act → Type 0
GoesOn Pass = Unit {0}
GoesOn Skip = Unit {0}
GoesOn (Keep s) = Unit {0}
GoesOn (Refuse why) = ⊥

abbrev pub AllGoOn : List Asked → Type 0
AllGoOn acts = All (λ a. GoesOn a.act) acts
