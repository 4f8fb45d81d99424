-- What a row gives that is not refused: it is skipped, or says something of one atom.
use Rattle.std.specs.Prelude.{List, [], ◌∷◌, ℕ, suc, Result, Ok, Err, None, Some}
use Rattle.std.specs.Prelude as prelude
use Rattle.refusals.specs.declared.reasons.Reason.{Reason}
use Rattle.std.proofs.Math.Option.{Option, none, some}
use Rattle.rows.specs.declared.rules.Site.{Site}

pub data Taken : Type 0 where
  skipped : Taken
  site : Site → Taken

abbrev pub taken_of : Result (prelude.Option Site) Reason → Option Taken
taken_of (Err why) = none
taken_of (Ok None) = some skipped
taken_of (Ok (Some s)) = some (site s)

-- the unskipped rows
unfoldable pub sites : List Taken → List Site
sites [] = []
sites (skipped ∷ l) = sites l
sites (site s ∷ l) = s ∷ sites l

-- how many rows are skipped
unfoldable pub skipped_in : List Taken → ℕ
skipped_in [] = 0
skipped_in (skipped ∷ l) = suc (skipped_in l)
skipped_in (site s ∷ l) = skipped_in l
