-- What a reading answers, as a caller in another language gets it: ten numbers.
use Rattle.std.specs.Prelude.{◌≡◌, List, [], ◌∷◌, ℕ, Result, Ok, Err}
use Rattle.std.proofs.lemmas.List.Edits.{sets}
use Rattle.refusals.specs.Reasons.{number_of, detail_of}
use Rattle.rows.specs.Settings.{assuming}
use Rattle.building.specs.declared.sites.Counts.{Counts}
use Rattle.model.specs.Lent.{Lent, room_of}
use Rattle.readings.specs.Reading.{answer_of, left_by}
use Rattle.reader.specs.Reading.{read_of}
use Rattle.refusals.specs.declared.reasons.Refusal.{Refusal}

abbrev pub number_in : Result Counts Refusal → ℕ
number_in (Ok counts) = 0
number_in (Err why) = number_of why.reason

abbrev pub line_in : Result Counts Refusal → ℕ
line_in (Ok counts) = 0
line_in (Err why) = why.line

abbrev pub detail_in : Result Counts Refusal → ℕ
detail_in (Ok counts) = 0
detail_in (Err why) = detail_of why.reason

abbrev pub counts_in : Result Counts Refusal → Counts
counts_in (Ok counts) = counts
counts_in (Err why) = record { chains = 0; residues = 0; atoms = 0; rows = 0; skipped = 0; outdone = 0; assumed = 0 }

abbrev pub numbers_of : Result Counts Refusal → List ℕ
numbers_of answer =
    let counts = counts_in answer in
    number_in answer ∷ line_in answer ∷ detail_in answer ∷ counts.chains ∷ counts.residues ∷ counts.atoms ∷ counts.rows ∷ counts.skipped
    ∷ counts.outdone ∷ counts.assumed ∷ []

-- the numbers go to the front of their slice, as far as it reaches
abbrev pub ReadInto : Lent → List ℕ → List ℕ → List ℕ → Lent → Type 0
ReadInto l text before numbers after =
    let reading = read_of assuming (room_of l) text in
    (numbers ≡ sets before 0 (numbers_of (answer_of reading))) × (after ≡ left_by l reading)
