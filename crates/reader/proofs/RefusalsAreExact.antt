-- Each refusal is given exactly when document 01's table says so: what holds of every format, with the lines that ask for the acts.
use mathlib.Core.Path.{◌≡◌}
use mathlib.Core.Logic.{◌↔◌}
use mathlib.Core.List.{List}
use mathlib.Core.Option.{none, some}
use Prim.Native.Nat.{ℕ, ◌≤◌, ◌<◌}
use native.Mathlib.Omega.{arith}
use lib.ListN.{length}
use Rattle.std.specs.Prelude.{Some}
use Rattle.lines.specs.Domain.{outside_of}
use Rattle.lines.specs.Lines.{lines_of}
use Rattle.refusals.specs.Reasons.{at, number_of}
use Rattle.refusals.specs.declared.reasons.Reason.TheVariants.{TextTooLong, OutsideDomain, UnknownResidue}
use Rattle.refusals.specs.declared.reasons.Refusal.{Refusal}
use Rattle.rows.specs.declared.settings.Settings.{Settings}
use Rattle.line_states.specs.Heads.{start_heads}
use Rattle.model.specs.Finished.{unknown_in, model_from}
use Rattle.model.specs.Fold.{State}
use Rattle.model.specs.Records.{Model}
use Rattle.model.specs.declared.room.Room.{Room}
use Rattle.building.specs.declared.sites.Counts.{Counts}
use Rattle.acts.specs.Acts.{Asked}
use Rattle.readings.specs.Ends.{Admitted, AllForThemselves}
use Rattle.readings.specs.Reading.{largest, read, refused, counts_of}
use Rattle.readings.proofs.RefusalsAreExact as exact
use Rattle.mmcif.specs.Acts.{acts_of}
use Rattle.reader.specs.Exact.{FirstToEarn, ReadInto}
use Rattle.reader.specs.Reading.{read_of}
use Rattle.reader.proofs.LinesEarn.{first_to_earn, acts_for_themselves, of_line_lem}

module _ (settings : Settings) (room : Room) (text : List ℕ) where
  abbrev acts : List Asked
  acts = acts_of settings text

  so : AllForThemselves acts
  so = acts_for_themselves settings 1 start_heads (lines_of text)

  -- ---- 1
  pub text_too_long : (read_of settings room text ≡ refused (at 0 TextTooLong)) ↔ (largest < length text)
  text_too_long = exact.text_too_long room text acts so

  -- ---- 2
  pub outside_domain : (line byte : ℕ) → (read_of settings room text ≡ refused (at line (OutsideDomain byte))) ↔ ((length text ≤ largest) × (outside_of text ≡ Some (record { line = line; byte = byte })))
  outside_domain = exact.outside_domain room text acts so

  -- ---- 3 to 10
  pub refused_line : (why : Refusal) → 3 ≤ number_of why.reason → number_of why.reason ≤ 10 → (read_of settings room text ≡ refused why) ↔ (Admitted text × FirstToEarn settings room (lines_of text) why)
  refused_line why low high =
      let given = exact.act_refused room text acts why (low, λ q. omega arith) in
      let lines = first_to_earn settings room (lines_of text) why in
      (λ e. let h = given.0 e in (h.0, lines.0 h.1), λ h. given.1 (h.0, lines.1 h.1))

  -- ---- 11
  pub unknown_residue : (place : ℕ) → (read_of settings room text ≡ refused (at 0 (UnknownResidue place))) ↔ ((st : State) × ReadInto settings room text st × (unknown_in st.residues ≡ some place))
  unknown_residue = exact.unknown_residue room text acts so

  -- ---- otherwise it is read
  pub otherwise_read : (m : Model) (counts : Counts) → (read_of settings room text ≡ read m counts)
      ↔ ((st : State) × ReadInto settings room text st × (unknown_in st.residues ≡ none) × (m ≡ model_from st) × (counts ≡ counts_of st))
  otherwise_read = exact.otherwise_read room text acts

  -- ---- how a refused reading ends: each has one of these
  pub data RefusedSo : Refusal → Type 0 where
    long : largest < length text → RefusedSo (at 0 TextTooLong)
    outside : {line byte : ℕ} → length text ≤ largest → outside_of text ≡ Some (record { line = line; byte = byte }) → RefusedSo (at line (OutsideDomain byte))
    of_line : {why : Refusal} → Admitted text → FirstToEarn settings room (lines_of text) why → RefusedSo why
    unknown : {st : State} {place : ℕ} → ReadInto settings room text st → unknown_in st.residues ≡ some place → RefusedSo (at 0 (UnknownResidue place))

  pub refused_so : (why : Refusal) → read_of settings room text ≡ refused why → RefusedSo why
  refused_so why e = go why (exact.ends_at room text acts _ e)
    where
      go : (why : Refusal) → exact.Ends room text acts (refused why) → RefusedSo why
      go why (exact.long h) = long h
      go why (exact.outside h o) = outside h o
      go why (exact.of_act a f) = of_line a ((first_to_earn settings room (lines_of text) why).0 f)
      go why (exact.unknown i u) = unknown i u

  -- ---- 1 to 11
  pub read_numbers : (why : Refusal) → read_of settings room text ≡ refused why → number_of why.reason ≤ 11
  read_numbers why e = go why (refused_so why e)
    where
      go : (why : Refusal) → RefusedSo why → number_of why.reason ≤ 11
      go why (long h) = omega arith
      go why (outside h o) = omega arith
      go why (of_line a f) = omega (arith, of_line_lem f.earns)
      go why (unknown i u) = omega arith
