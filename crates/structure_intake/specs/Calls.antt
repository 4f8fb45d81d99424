-- What the host call does: it answers a number, and tells seven more in a lent result of 28 bytes.
use Rattle.std.specs.Prelude.{◌≡◌, cond, List, ℕ, eqb, length}
use Rattle.rows.specs.Settings.{assuming}
use Rattle.model.specs.Lent.{Lent, room_of}
use Rattle.results.specs.Results.{status_in, numbers_in, bytes_of, is_whole}
use Rattle.service.specs.Serving.{Serving, own_room, serve_of, answer_of, left_in, written_to}

-- ---- "result not 28 bytes; before all others, nothing changed"

-- how many of the chain records a call writes, by the length of its result
abbrev pub renewed_in : ℕ → ℕ → ℕ
renewed_in size chains = cond (eqb size 28) chains 0

abbrev pub bad_result : ℕ
bad_result = 26

-- what a call answers, and what it leaves in the records, the buffer and the result
unfoldable pub status_by : List ℕ → Serving → ℕ
status_by result serving = cond (is_whole result) (status_in (answer_of serving)) bad_result

unfoldable pub records_by : Lent → List ℕ → Serving → Lent
records_by l result serving = cond (is_whole result) (left_in l serving) l

unfoldable pub buffer_by : List ℕ → List ℕ → Serving → List ℕ
buffer_by out result serving = cond (is_whole result) (written_to out serving) out

unfoldable pub result_by : List ℕ → Serving → List ℕ
result_by result serving = cond (is_whole result) (bytes_of (numbers_in (answer_of serving))) result

pub record Calls (l : Lent) (text out result : List ℕ) (status : ℕ) (after : Lent) (bytes numbers : List ℕ) : Type 0 where
  pub answered : status ≡ status_by result (serve_of assuming (room_of l) (length out) text)
  pub left : after ≡ records_by l result (serve_of assuming (room_of l) (length out) text)
  pub written : bytes ≡ buffer_by out result (serve_of assuming (room_of l) (length out) text)
  pub told : numbers ≡ result_by result (serve_of assuming (room_of l) (length out) text)

-- with records of its own
pub record CallsOwn (text out result : List ℕ) (status : ℕ) (bytes numbers : List ℕ) : Type 0 where
  pub answered : status ≡ status_by result (serve_of assuming own_room (length out) text)
  pub written : bytes ≡ buffer_by out result (serve_of assuming own_room (length out) text)
  pub told : numbers ≡ result_by result (serve_of assuming own_room (length out) text)
