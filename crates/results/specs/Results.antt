-- What the host call answers: a number, and seven 32-bit little-endian numbers in a lent result of 28 bytes.
use Rattle.std.specs.Prelude.{Bool, cond, List, [], ◌∷◌, ◌++◌, ℕ, ◌/◌, ◌%◌, ◌^◌, eqb, length, Result, Ok, Err}
use Rattle.refusals.specs.Reasons.{number_of, detail_of}
use Rattle.refusals.specs.declared.reasons.Refusal.{Refusal}
use Rattle.results.specs.declared.answers.Served.{Served}

-- "the refusal number, or 0"
abbrev pub status_in : Result Served Refusal → ℕ
status_in (Ok served) = 0
status_in (Err why) = number_of why.reason

-- "line, detail, bytes written, rows, skipped, outdone, assumed; after a refusal the last five are 0"
abbrev pub numbers_in : Result Served Refusal → List ℕ
numbers_in (Ok served) =
    0 ∷ 0 ∷ served.written ∷ served.counts.rows ∷ served.counts.skipped ∷ served.counts.outdone ∷ served.counts.assumed ∷ []
numbers_in (Err why) = why.line ∷ detail_of why.reason ∷ 0 ∷ 0 ∷ 0 ∷ 0 ∷ 0 ∷ []

-- four bytes, the lowest first
abbrev pub little_endian : ℕ → List ℕ
little_endian n = n % 256 ∷ n / 2 ^ 8 % 256 ∷ n / 2 ^ 16 % 256 ∷ n / 2 ^ 24 % 256 ∷ []

unfoldable pub bytes_of : List ℕ → List ℕ
bytes_of [] = []
bytes_of (n ∷ numbers) = little_endian n ++ bytes_of numbers

-- "result not 28 bytes; .. nothing changed"
abbrev pub is_whole : List ℕ → Bool
is_whole result = eqb (length result) 28

unfoldable pub told_in : List ℕ → Result Served Refusal → List ℕ
told_in result answer = cond (is_whole result) (bytes_of (numbers_in answer)) result
