-- The walks' answers are those of the finished model, and the slices are cleared from its counts on, or throughout; so are the chains where another clears
-- them by the answer. No walk makes a slice longer or shorter.
use mathlib.Core.Path.{◌≡◌, refl, ap, ◌∙◌}
use mathlib.Core.List.{[]}
use Prim.Native.Nat.{ℕ}
use lib.ListN.{length}
use Rattle.field_slices.specs.Clearing.{cleared}
use Rattle.model.specs.Lent.{Lent, lent_of}
use Rattle.model.specs.LentNow.{lent_now}
use Rattle.finishing.specs.Clearing.{cleared_from}
use Rattle.finishing.specs.Filling.{filled}
use Rattle.finishing.specs.Positioning.{position_at}
use Rattle.finishing.specs.Sizes.{SameSizes}
use Rattle.finishing.proofs.ClearingLaws.{cleared_sizes}
use Rattle.finishing.proofs.FillingLaws.{length_filled}
use Rattle.finishing.proofs.FinishingLaws.{walked, chains_kept_lem, model_ends}
use Rattle.finishing.proofs.finished.finish_model.Goals as goal

pub returns-clause-ends : goal.returns-clause-ends
returns-clause-ends c =
    let first = c.args.residues.now in
    let atoms = c.args.atoms.now in
    let n = c.args.counts.residues in
    let u = c.classify_residues-unknown in
    let w = u.ensures.classified in
    let between = u.new.residues in
    let then = c.position_residues.new.residues in
    let p = c.position_residues.ensures in
    let placed = p.positions ∙ (λ j. filled (position_at (w.keys j) between.codes.now n) n (w.positions j)) in
    let after = c.clear_records.new in
    λ names.
    let l : Lent = lent_now names first atoms in
    let here : lent_now names then atoms ≡ walked l between.names.now between.codes.now between.categories.now then.positions.now = λ j. lent_of names ((p.others.keys ∙ w.keys) j) (p.others.names j) (p.others.codes j) (p.others.categories j) then.positions.now
    atoms.keys.now atoms.names.now atoms.elements.now atoms.positions.now atoms.occupancies.now in
    model_ends l c.args.counts u.result between.names.now between.codes.now between.categories.now w.classified then.positions.now placed
    (record {
      chains = refl;
      residue_keys = refl;
      residue_names = w.long.0;
      residue_codes = w.long.1;
      residue_categories = w.long.2;
      residue_positions = ap length placed ∙ length_filled (position_at first.keys.now between.codes.now n) n first.positions.now;
      atom_keys = refl;
      atom_names = refl;
      elements = refl;
      positions = refl;
      occupancies = refl;
    })
    c.kept_by.result c.kept_by.ensures
    _ (ap (λ (m : ℕ). lent_now (cleared 0 m names) after.residues after.atoms) (chains_kept_lem u.result c.args.counts c.kept_by.ensures c.finish_by.ensures)
    ∙ c.clear_records.ensures.zeros names ∙ ap (λ (x : Lent). cleared_from x c.kept_by.result) here)
    _ c.finish_by.ensures

pub returns-clause-lengths : goal.returns-clause-lengths
returns-clause-lengths c =
    let w = c.classify_residues-unknown.ensures.classified in
    let p = c.position_residues.ensures in
    let then = c.position_residues.new.residues in
    let atoms = c.args.atoms.now in
    let after = c.clear_records.new in
    let z : SameSizes then atoms after.residues after.atoms = cleared_sizes [] _ c.kept_by.result then after.residues atoms after.atoms (c.clear_records.ensures.zeros []) in (
      z.0 ∙ ap length (p.others.keys ∙ w.keys),
      z.1 ∙ ap length p.others.names ∙ w.long.0,
      z.2 ∙ ap length p.others.codes ∙ w.long.1,
      z.3 ∙ ap length p.others.categories ∙ w.long.2,
      z.4 ∙ ap length p.positions ∙ length_filled _ c.args.counts.residues _ ∙ ap length w.positions,
      z.5,
      z.6,
      z.7,
      z.8,
      z.9,
    )
