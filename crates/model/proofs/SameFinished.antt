-- Demand 3 to its end: rows that are alike give the same finished model, or the same unknown residue, since they leave the same state.
use mathlib.Core.Path.{◌≡◌, ap}
use mathlib.Core.List.{List, map}
use Rattle.model.specs.Alike.{Alike, AlikeLines}
use Rattle.model.specs.Finished.{finished_of}
use Rattle.model.specs.Fold.{model_of}
use Rattle.model.specs.Lists.{All}
use Rattle.model.specs.Proper.{Proper}
use Rattle.model.specs.Taken.{Taken, sites}
use Rattle.model.proofs.OrderOfLines.{rows_alike}
use Rattle.model.proofs.OrderOfRows.{same_model}

pub same_finished : (l₁ l₂ : List Taken) → Alike l₁ l₂ → All Proper (sites l₁) → finished_of (model_of l₁) ≡ finished_of (model_of l₂)
same_finished l₁ l₂ a p = ap finished_of (same_model l₁ l₂ a p)

pub same_finished_lines : {Line : Type 0} (row_of : Line → Taken) (t u : List Line) → AlikeLines row_of t u → All Proper (sites (map row_of t))
    → finished_of (model_of (map row_of t)) ≡ finished_of (model_of (map row_of u))
same_finished_lines row_of t u a p = same_finished (map row_of t) (map row_of u) (rows_alike row_of t u a) p
