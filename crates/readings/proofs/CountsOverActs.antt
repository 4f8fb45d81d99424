-- The counts of what is read are counts over the rows among the acts, by the rules of the model; finishing makes nothing more or fewer.
use mathlib.Core.Path.{◌≡◌, sym, ap, ◌∙◌, subst}
use mathlib.Core.List.{List, map}
use Prim.Native.Nat.{ℕ, ◌+◌}
use lib.ListN.{length, length-map}
use Rattle.model.specs.Finished.{atom_record, classified, positioned, model_from}
use Rattle.model.specs.Fold.{State}
use Rattle.model.specs.Lists.{All}
use Rattle.model.specs.Records.{Model}
use Rattle.model.specs.Sound.{Sound}
use Rattle.model.specs.Taken.{sites}
use Rattle.model.specs.declared.room.Room.{Room}
use Rattle.building.specs.declared.sites.Counts.{Counts}
use Rattle.acts.specs.Acts.{Asked, rows_in}
use Rattle.readings.specs.Counts.{CountedOver}
use Rattle.readings.specs.Reading.{read, reading_of}
use Rattle.readings.proofs.ReadByTheRows.{read_by_the_rows}
use Rattle.readings.proofs.RefusalsAreExact.{otherwise_read}

atoms_finished : (st : State) → length (model_from st).atoms ≡ length st.atoms
atoms_finished st = length-map st.atoms atom_record

residues_finished : (st : State) → length (model_from st).residues ≡ length st.residues
residues_finished st =
    let classes = map (classified (model_from st).atoms) st.residues in
    length-map classes (positioned classes) ∙ length-map st.residues (classified (model_from st).atoms)

-- ---- the theorem
pub counts_over_acts : (room : Room) (text : List ℕ) (acts : List Asked) → All Sound (sites (rows_in acts)) → (m : Model) (counts : Counts) → reading_of room text acts ≡ read m counts
    → CountedOver (rows_in acts) m counts
counts_over_acts room text acts sound m counts e =
    let (st, into, u, m-is, counts_are) = (otherwise_read room text acts m counts).0 e in
    let h = read_by_the_rows room text acts sound m counts e in
    record {
      rows = ap (λ (c : Counts). c.rows) h.1 ∙ h.2.rows;
      skipped = ap (λ (c : Counts). c.skipped) h.1 ∙ h.2.skipped;
      outdone = ap (λ (c : Counts). c.outdone) h.1 ∙ h.2.outdone;
      assumed = ap (λ (c : Counts). c.assumed) h.1 ∙ h.2.assumed;
      chains = ap (λ (c : Counts). c.chains) counts_are ∙ ap (λ (x : Model). length x.chains) (sym m-is);
      residues = ap (λ (c : Counts). c.residues) counts_are ∙ sym (residues_finished st) ∙ ap (λ (x : Model). length x.residues) (sym m-is);
      atoms = ap (λ (c : Counts). c.atoms) counts_are ∙ sym (atoms_finished st) ∙ ap (λ (x : Model). length x.atoms) (sym m-is);
      sum = subst (λ (c : Counts). c.rows ≡ c.skipped + c.outdone + c.atoms) (sym h.1) h.2.sum;
    }
