-- Demand 3's two texts: they differ only in the order of the atom rows of one loop.
use Rattle.std.specs.Prelude.{◌≡◌, Bool, true, ℕ, ◌≤◌, length}
use mathlib.Core.List.{List, ◌++◌, Permᴰ}
use Rattle.ascii.specs.Lists.{every}
use Rattle.lines.specs.Lines.{lines_of}
use Rattle.rows.specs.declared.columns.Columns.{Columns}
use Rattle.rows.specs.declared.rules.Site.{Site}
use Rattle.rows.specs.declared.settings.Settings.{Settings}
use Rattle.line_states.specs.Heads.{start_heads}
use Rattle.model.specs.Alike.{is_of}
use Rattle.model.specs.Lists.{filter, any}
use Rattle.model.specs.Taken.{sites}
use Rattle.readings.specs.Order.{ChainsMetAlike, ResiduesBeginAlike}
use Rattle.readings.specs.Reading.{largest}
use Rattle.mmcif.specs.Acts.{heads_after}
use Rattle.mmcif.specs.Rows.{rows_of}
use Rattle.row_order.specs.Loops.{stands_among_rows, awaits_rows, given_by, given_in}

-- ---- "two texts .. differ only in the order of the atom rows of one loop"

pub record Reordered (t u : List ℕ) : Type 0 where
  -- the lines are the same but for those where the rows of one loop stand
  pub before : List (List ℕ)
  pub loop : List (List ℕ)
  pub reordered : List (List ℕ)
  pub after : List (List ℕ)
  pub one : lines_of t ≡ before ++ (loop ++ after)
  pub other : lines_of u ≡ before ++ (reordered ++ after)
  -- it is an atom loop, of which each line is a row or passed over
  pub opened : awaits_rows (heads_after start_heads before) ≡ true
  pub among : every stands_among_rows loop ≡ true
  -- and these are the same lines in another order
  pub order : Permᴰ loop reordered
  -- lines of one text may end in 10 and those of the other in 13 10, so that one may be longer
  pub size : length t ≤ largest
  pub other_size : length u ≤ largest

-- the columns of that loop
abbrev pub columns_in : {t u : List ℕ} → Reordered t u → Columns
columns_in r = (heads_after start_heads r.before).columns

-- ---- "rows of one atom keeping their order"

-- the line is an unskipped row of the atom of s, in a loop of these columns
abbrev pub is_row_of : Settings → Columns → Site → List ℕ → Bool
is_row_of settings columns s line = any (is_of s) (given_by settings columns line)

abbrev pub AtomsKeepOrder : Settings → {t u : List ℕ} → Reordered t u → Type 0
AtomsKeepOrder settings r = (s : Site) → filter (is_row_of settings (columns_in r) s) r.loop ≡ filter (is_row_of settings (columns_in r) s) r.reordered

-- ---- demand 3's two texts: "chains first met in the same order", "each residue's first unskipped row bearing the same residue name and HETATM mark", as they are met in
-- the whole of each

pub record DifferInOrder (settings : Settings) (t u : List ℕ) : Type 0 where
  pub texts : Reordered t u
  pub atoms : AtomsKeepOrder settings texts
  pub chains : ChainsMetAlike (sites (rows_of settings t)) (sites (rows_of settings u))
  pub residues : ResiduesBeginAlike (sites (rows_of settings t)) (sites (rows_of settings u))

-- ---- the same with chains and residues as they are met in the loop, which asks for more

abbrev pub loop_rows : Settings → {t u : List ℕ} → Reordered t u → List Site
loop_rows settings r = sites (given_in settings (columns_in r) r.loop)

abbrev pub reordered_rows : Settings → {t u : List ℕ} → Reordered t u → List Site
reordered_rows settings r = sites (given_in settings (columns_in r) r.reordered)

pub record DifferInLoop (settings : Settings) (t u : List ℕ) : Type 0 where
  pub texts : Reordered t u
  pub atoms : AtomsKeepOrder settings texts
  pub chains : ChainsMetAlike (loop_rows settings texts) (reordered_rows settings texts)
  pub residues : ResiduesBeginAlike (loop_rows settings texts) (reordered_rows settings texts)
