-- One count to a call.
use mathlib.Core.Path.{ap, ◌∙◌}
use mathlib.Core.Bool.{Bool}
use Rattle.building.specs.Sites.{one_more}
use Rattle.building.proofs.sites.counts_with.Goals as goal

pub returns : goal.returns
returns c =
    let k = c.args.counts in
    let residues = c.one_more-2.ensures ∙ ap (λ (b : Bool). one_more b k.residues) c.is_err.ensures.value in
    let atoms = c.one_more-3.ensures ∙ ap (λ (b : Bool). one_more b k.atoms) c.is_err-2.ensures.value in
    let outdone = c.one_more-5.ensures ∙ ap (λ (b : Bool). one_more b k.outdone) c.is_ok.ensures.value in
    λ i. record {
      chains = c.one_more.ensures i;
      residues = residues i;
      atoms = atoms i;
      rows = c.one_more-4.ensures i;
      skipped = k.skipped;
      outdone = outdone i;
      assumed = c.one_more-6.ensures i;
    }
