-- The seven numbers are below 2 ^ 32, so that the four bytes of each tell it whole: lines and rows by the length of the text that was read, what is written by the
-- length of the longest text.
use Prim.{Unit, tt}
use mathlib.Core.Path.{◌≡◌, refl, subst}
use mathlib.Core.Bool.{Bool, true, false, cond}
use mathlib.Core.List.{List, [], ◌∷◌}
use Prim.Native.Nat.{ℕ, suc, ◌+◌, ◌^◌, ◌≤◌, ◌<◌}
use native.Mathlib.Omega.{arith}
use lib.Dec.{leb}
use lib.ListN.{length, replicate, length-replicate}
use Rattle.std.specs.Prelude.{Option, Some, None}
use Rattle.refusals.specs.declared.reasons.Reason.TheVariants.{OutputTooShort}
use Rattle.rows.specs.declared.settings.Settings.{Settings}
use Rattle.field_slices.specs.Clearing.{zero_float, zero_point}
use Rattle.building.specs.declared.sites.Counts.{Counts}
use Rattle.model.specs.Lent.{Lent, lent_of, room_of, holding}
use Rattle.model.specs.Lists.{All}
use Rattle.model.specs.Records.{AtomRecord, Model}
use Rattle.model.specs.declared.room.Room.{Room}
use Rattle.model.proofs.HeldModelIsRead.{held_model_is_read}
use Rattle.results.specs.Results.{numbers_in, bytes_of}
use Rattle.results.proofs.BytesTell.{numbers_told, bytes_tell}
use Rattle.readings.specs.Reading as readings
use Rattle.readings.specs.Reading.{Reading, read}
use Rattle.reader.specs.Reading.{read_of}
use Rattle.readings.proofs.SlicesOfOneSize.{room_within}
use Rattle.writer.specs.Text.{text_of}
use Rattle.writer.specs.Unwritable.{is_unwritable, first_unwritable, unwritable_in}
use Rattle.writer.specs.Writing as writer
use Rattle.writer.specs.Writing.{written, written_but}
use Rattle.writer.proofs.TextIsShort.{text_short}
use Rattle.service.specs.Serving.{by_writing, by_reading, own_room, serve_of, answer_of}
use Rattle.structure_intake.proofs.CountsAreSmall.{counts_are_small}
use Rattle.service.proofs.OwnRoom.{own_room_lem}
use Rattle.structure_intake.proofs.RefusalsAreSmall.{refusals_are_small}
use Rattle.service.proofs.WrittenAsRead.{within, well_held}

abbrev Small : ℕ → Type 0
Small n = n < 2 ^ 32

-- ---- what is written
abbrev Below : ℕ → Option ℕ → Type 0
Below n None = Unit {0}
Below n (Some id) = id < n

unwritable_within : (m : Model) (id n : ℕ) (atoms : List AtomRecord) → id + length atoms ≤ n → Below n (first_unwritable m id atoms)
unfolding first_unwritable
unwritable_within m id n [] h = tt
unwritable_within m id n (a ∷ atoms) h = go (is_unwritable m a) (unwritable_within m (suc id) n atoms (omega arith))
  where
    go : (t : Bool) → Below n (first_unwritable m (suc id) atoms) → Below n (cond t (Some id) (first_unwritable m (suc id) atoms))
    go true w = omega arith
    go false w = w

module _ (settings : Settings) (l : Lent) (size : ℕ) (text : List ℕ) where
  abbrev AllSmall : Reading → Type 0
  AllSmall reading = All Small (numbers_in (answer_of (by_reading size reading)))

  written_small : (m : Model) (counts : Counts) → read_of settings (room_of l) text ≡ read m counts → AllSmall (read m counts)
  written_small m counts e = by_atom (unwritable_in m) (unwritable_within m 1 (2 ^ 32) m.atoms (omega (arith, (within settings l text m counts e).2, (room_within l).sizes.2)))
    where
      many : (counts.rows < 2 ^ 32) × (counts.skipped < 2 ^ 32) × (counts.outdone < 2 ^ 32) × (counts.assumed < 2 ^ 32)
      many = counts_are_small settings (room_of l) text m counts e

      short : Small (length (text_of m))
      short = subst (λ (x : Model). Small (length (text_of x))) (held_model_is_read l m) (text_short (holding l m) _ (well_held settings l text m counts e))

      by_size : (t : Bool) → All Small (numbers_in (answer_of (by_writing m counts (cond t (written (text_of m)) (writer.refused (OutputTooShort (length (text_of m))))))))
      by_size true = (omega arith, (omega arith, (short, (many.0, (many.1, (many.2, (many.3, tt)))))))
      by_size false = (omega arith, (short, (omega arith, (omega arith, (omega arith, (omega arith, (omega arith, tt)))))))

      by_atom : (id : Option ℕ) → Below (2 ^ 32) id → All Small (numbers_in (answer_of (by_writing m counts (written_but id size m))))
      by_atom None h = by_size (leb (length (text_of m)) size)
      by_atom (Some id) h = (omega arith, (h, (omega arith, (omega arith, (omega arith, (omega arith, (omega arith, tt)))))))

  -- ---- the theorem
  pub numbers_fit : All (λ b. b < 256) text → All (λ n. n < 2 ^ 32) (numbers_in (answer_of (serve_of settings (room_of l) size text)))
  unfolding serve_of
  numbers_fit bytes = go (read_of settings (room_of l) text) refl
    where
      go : (r : Reading) → read_of settings (room_of l) text ≡ r → AllSmall r
      go (read m counts) e = written_small m counts e
      go (readings.refused why) e =
          let (line, detail) = refusals_are_small settings l text bytes why e in
          (line, (detail, (omega arith, (omega arith, (omega arith, (omega arith, (omega arith, tt)))))))

  -- so that the result tells them
  pub result_tells : All (λ b. b < 256) text → let numbers = numbers_in (answer_of (serve_of settings (room_of l) size text)) in numbers_told (bytes_of numbers) ≡ numbers
  result_tells bytes = bytes_tell (numbers_in (answer_of (serve_of settings (room_of l) size text))) (numbers_fit bytes)

-- ---- and with records of its own
abbrev zeros : ℕ → List ℕ
zeros n = replicate n 0

many_zeros : (n : ℕ) → length (zeros n) ≡ n
many_zeros n = length-replicate n 0

abbrev own_records : Lent
own_records =
    let residues = zeros 512 in
    let atoms = zeros 1024 in
    lent_of (zeros 64) residues residues residues residues residues atoms atoms atoms (replicate 1024 zero_point) (replicate 1024 zero_float)

own_records_room : room_of own_records ≡ own_room
own_records_room =
    let residues = many_zeros 512 in
    let atoms = many_zeros 1024 in
    own_room_lem own_records (many_zeros 64) residues residues residues residues residues atoms atoms atoms (length-replicate 1024 zero_point) (length-replicate 1024 zero_float)

module _ (settings : Settings) (size : ℕ) (text : List ℕ) (bytes : All (λ b. b < 256) text) where
  pub own_numbers_fit : All (λ n. n < 2 ^ 32) (numbers_in (answer_of (serve_of settings own_room size text)))
  own_numbers_fit = subst (λ (r : Room). All (λ n. n < 2 ^ 32) (numbers_in (answer_of (serve_of settings r size text)))) own_records_room (numbers_fit settings own_records size text bytes)

  pub own_result_tells : let numbers = numbers_in (answer_of (serve_of settings own_room size text)) in numbers_told (bytes_of numbers) ≡ numbers
  own_result_tells = bytes_tell (numbers_in (answer_of (serve_of settings own_room size text))) own_numbers_fit
