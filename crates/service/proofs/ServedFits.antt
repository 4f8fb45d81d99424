-- What is served fits the buffer: a text that does not is refused by 14.
use mathlib.Core.Path.{◌≡◌, refl, sym, ap, ◌∙◌}
use mathlib.Core.Bool.{Bool, true, false, cond}
use mathlib.Core.List.{List}
use Prim.Native.Nat.{ℕ, ◌≤◌}
use native.Mathlib.Omega.{arith}
use lib.Dec.{leb}
use lib.ListN.{length}
use borrow.Author.Tests.{leb-true}
use Rattle.std.specs.Prelude.{Option, Some, None, Result, Ok, Err}
use Rattle.refusals.specs.declared.reasons.Reason.TheVariants.{OutputTooShort}
use Rattle.refusals.specs.declared.reasons.Refusal.{Refusal}
use Rattle.rows.specs.declared.settings.Settings.{Settings}
use Rattle.building.specs.declared.sites.Counts.{Counts}
use Rattle.model.specs.Records.{Model}
use Rattle.model.specs.declared.room.Room.{Room}
use Rattle.results.specs.declared.answers.Served.{Served}
use Rattle.readings.specs.Reading as readings
use Rattle.readings.specs.Reading.{Reading, read}
use Rattle.reader.specs.Reading.{read_of}
use Rattle.writer.specs.Text.{text_of}
use Rattle.writer.specs.Unwritable.{unwritable_in}
use Rattle.writer.specs.Writing as writer
use Rattle.writer.specs.Writing.{written, written_but}
use Rattle.service.specs.Serving.{by_writing, by_reading, own_room, serve_of, answer_of, ServesOwn}

module _ (size n : ℕ) (counts : Counts) where
  abbrev Is : Result Served Refusal → Type 0
  Is answer = answer ≡ Ok (record { written = n; counts = counts })

  written_in : Result Served Refusal → ℕ
  written_in (Ok s) = s.written
  written_in (Err why) = 0

  by_size : (m : Model) (c : Counts) (t : Bool) → (t ≡ true → length (text_of m) ≤ size)
      → Is (answer_of (by_writing m c (cond t (written (text_of m)) (writer.refused (OutputTooShort (length (text_of m))))))) → n ≤ size
  unfolding text_of written_in
  by_size m c true h e = let same : length (text_of m) ≡ n = ap written_in e in omega (arith, h refl)
  by_size m c false h e = let z : ◌≡◌ {A = ℕ} 0 1 = cc in absurd (omega arith)

  by_atom : (m : Model) (c : Counts) (id : Option ℕ) → Is (answer_of (by_writing m c (written_but id size m))) → n ≤ size
  by_atom m c None e = by_size m c (leb (length (text_of m)) size) (leb-true (length (text_of m)) size) e
  by_atom m c (Some id) e = let z : ◌≡◌ {A = ℕ} 0 1 = cc in absurd (omega arith)

  -- ---- the theorem
  pub served_fits : (settings : Settings) (room : Room) (text : List ℕ) → answer_of (serve_of settings room size text) ≡ Ok (record { written = n; counts = counts }) → n ≤ size
  unfolding serve_of
  served_fits settings room text e = go (read_of settings room text) e
    where
      go : (r : Reading) → Is (answer_of (by_reading size r)) → n ≤ size
      go (read m c) e = by_atom m c (unwritable_in m) e
      go (readings.refused why) e = let z : ◌≡◌ {A = ℕ} 0 1 = cc in absurd (omega arith)

pub own_fits : {settings : Settings} {text out bytes : List ℕ} {answer : Result Served Refusal} → ServesOwn settings text out answer bytes → (n : ℕ) (counts : Counts) → answer ≡ Ok (record { written = n; counts = counts }) → n ≤ length out
own_fits {settings} {text} {out} s n counts e = served_fits (length out) n counts settings own_room text (sym s.answered ∙ e)
