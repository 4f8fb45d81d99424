-- What is read is written: it is well formed, and the records that had the room for it hold it, so that the writer finds it there and never refuses it by 12.
use mathlib.Core.Path.{◌≡◌, sym, ap, ◌∙◌}
use mathlib.Core.Bool.{true, ◌&&◌}
use mathlib.Core.List.{List, map}
use Prim.Native.Nat.{ℕ, ◌≤◌}
use native.Mathlib.Omega.{arith}
use lib.Dec.{leb}
use lib.ListN.{length, length-map}
use borrow.Author.Tests.{le-leb}
use Rattle.rows.specs.declared.settings.Settings.{Settings}
use Rattle.building.specs.Holds.{sizes_of}
use Rattle.building.specs.declared.sites.Counts.{Counts}
use Rattle.model.specs.Finished.{atom_record, classified, positioned}
use Rattle.model.specs.Lent.{Lent, room_of, holding, sizes_in}
use Rattle.model.specs.Records.{Model}
use Rattle.model.specs.WellFormed.{counts_fit, well_formed_in}
use Rattle.model.specs.declared.room.Room.{Room}
use Rattle.model.proofs.HeldModelIsRead.{held_model_is_read, well_formed_there}
use Rattle.model.proofs.ListLaws.{both}
use Rattle.readings.specs.Reading.{read}
use Rattle.reader.specs.Reading.{read_of}
use Rattle.reader.proofs.ReadByTheRows.{model_of_rows}
use Rattle.reader.proofs.ReadIsWellFormed.{read_is_well_formed}
use Rattle.reader.proofs.RefusalsAreExact.{otherwise_read}
use Rattle.writer.specs.Writing.{writing_of, write_of}
use Rattle.writer.proofs.WritingLaws.{well_formed_lem}

module _ (settings : Settings) (l : Lent) (text : List ℕ) (m : Model) (counts : Counts) (e : read_of settings (room_of l) text ≡ read m counts) where
  -- the counts are the model's
  abbrev Counted : Type 0
  Counted = (counts.chains ≡ length m.chains) × (counts.residues ≡ length m.residues) × (counts.atoms ≡ length m.atoms)

  pub counted : Counted
  counted =
      let (st, r, u, m-is, counts_are) = (otherwise_read settings (room_of l) text m counts).0 e in
      let atoms = map atom_record st.atoms in
      let residues = map (classified atoms) st.residues in (
        ap (λ (c : Counts). c.chains) counts_are ∙ sym (ap (λ (x : Model). length x.chains) m-is),
        ap (λ (c : Counts). c.residues) counts_are
            ∙ sym (ap (λ (x : Model). length x.residues) m-is ∙ length-map residues (positioned residues) ∙ length-map st.residues (classified atoms)),
        ap (λ (c : Counts). c.atoms) counts_are ∙ sym (ap (λ (x : Model). length x.atoms) m-is ∙ length-map st.atoms atom_record),
      )

  -- and there was room for it
  pub within : (length m.chains ≤ (room_of l).chains) × (length m.residues ≤ (room_of l).residues) × (length m.atoms ≤ (room_of l).atoms)
  within =
      let (st, r, u, m-is, counts_are) = (otherwise_read settings (room_of l) text m counts).0 e in
      let fits = (model_of_rows settings (room_of l) text st r).1 in
      let (chains, residues, atoms) = counted in (
        omega (arith, fits.chains, chains, ap (λ (c : Counts). c.chains) counts_are),
        omega (arith, fits.residues, residues, ap (λ (c : Counts). c.residues) counts_are),
        omega (arith, fits.atoms, atoms, ap (λ (c : Counts). c.atoms) counts_are),
      )

  fit : counts_fit l (sizes_in m) ≡ true
  unfolding counts_fit
  fit =
      let chains = leb (length m.chains) (room_of l).chains in
      let residues = leb (length m.residues) (room_of l).residues in
      let atoms = leb (length m.atoms) (room_of l).atoms in
      both (chains && residues) atoms (both chains residues (le-leb _ _ within.0) (le-leb _ _ within.1)) (le-leb _ _ within.2)

  pub well_held : well_formed_in (holding l m) (sizes_in m) ≡ true
  well_held = well_formed_there l m fit ∙ read_is_well_formed settings (room_of l) text m counts e

  sizes_are : sizes_of counts ≡ sizes_in m
  sizes_are = λ i. record { chains = counted.0 i; residues = counted.1 i; atoms = counted.2 i }

  pub well_counted : well_formed_in (holding l m) (sizes_of counts) ≡ true
  well_counted = ap (well_formed_in (holding l m)) sizes_are ∙ well_held

  -- ---- the theorem
  pub written_as_read : (out : List ℕ) → write_of (holding l m) (sizes_of counts) (length out) ≡ writing_of (length out) m
  written_as_read out =
      ap (λ (sizes : Room). write_of (holding l m) sizes (length out)) sizes_are
      ∙ sym (well_formed_lem out (holding l m) (sizes_in m) well_held)
      ∙ ap (writing_of (length out)) (held_model_is_read l m)
