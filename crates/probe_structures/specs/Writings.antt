-- What a writing answers, as a caller in another language gets it: three numbers.
use Rattle.std.specs.Prelude.{◌≡◌, List, [], ◌∷◌, ℕ, length, Result, Ok, Err}
use Rattle.std.proofs.lemmas.List.Edits.{sets}
use Rattle.refusals.specs.Reasons.{number_of, detail_of}
use Rattle.model.specs.Lent.{Lent}
use Rattle.writer.specs.Writing.{write_of, answer_of, left_by}
use Rattle.refusals.specs.declared.reasons.Reason.{Reason}

abbrev pub number_in : Result ℕ Reason → ℕ
number_in (Ok n) = 0
number_in (Err why) = number_of why

abbrev pub detail_in : Result ℕ Reason → ℕ
detail_in (Ok n) = 0
detail_in (Err why) = detail_of why

abbrev pub written_in : Result ℕ Reason → ℕ
written_in (Ok n) = n
written_in (Err why) = 0

abbrev pub numbers_of : Result ℕ Reason → List ℕ
numbers_of answer = number_in answer ∷ detail_in answer ∷ written_in answer ∷ []

-- the numbers go to the front of their slice, as far as it reaches
abbrev pub WrittenInto : Lent → ℕ → ℕ → ℕ → List ℕ → List ℕ → List ℕ → List ℕ → Type 0
WrittenInto l chains residues atoms out before after numbers =
    let writing = write_of l (record { chains = chains; residues = residues; atoms = atoms }) (length out) in
    (numbers ≡ sets before 0 (numbers_of (answer_of writing))) × (after ≡ left_by out writing)
