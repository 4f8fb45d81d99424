-- What it is to be read alike.
use Prim.{Unit}
use Rattle.std.specs.Prelude.{◌≡◌, List, ℕ, Result, Ok, Err}
use Rattle.rows.specs.declared.settings.Settings.{Settings}
use Rattle.model.specs.Fold.{model_of}
use Rattle.model.specs.Lent.{Lent, holding}
use Rattle.model.specs.Records.{Model}
use Rattle.model.specs.declared.room.Room.{Room}
use Rattle.readings.specs.Ends.{AfterAllLines, ToTheEnd}
use Rattle.refusals.specs.declared.reasons.Refusal.{Refusal}
use Rattle.building.specs.declared.sites.Counts.{Counts}
use Rattle.mmcif.specs.Rows.{rows_of}
use Rattle.reader.specs.Reading.{read_of}

-- "so is the other, and both give the same model and counts, or refuse the same unknown residue": it is told by its place, and the residues are the same
pub record ReadAlike (settings : Settings) (room : Room) (t u : List ℕ) : Type 0 where
  pub end : ToTheEnd (read_of settings room u)
  pub reading : read_of settings room t ≡ read_of settings room u
  pub residues : (model_of (rows_of settings t)).residues ≡ (model_of (rows_of settings u)).residues

-- ---- the same of what is answered and left in the slices

abbrev pub AnsweredAtTheEnd : Result Counts Refusal → Type 0
AnsweredAtTheEnd (Ok counts) = Unit {0}
AnsweredAtTheEnd (Err why) = AfterAllLines why

-- both hold the same model, the empty one after a refusal
pub record HoldAlike (l after k afterwards : Lent) : Type 0 where
  pub model : Model
  pub one : after ≡ holding l model
  pub other : afterwards ≡ holding k model
