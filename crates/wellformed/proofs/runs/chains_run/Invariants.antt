use mathlib.Core.Path.{◌≡◌}
use Rattle.model.specs.Keys.{chain_part}
use Rattle.model.specs.Lent.{list_from}
use Rattle.model.specs.WellFormed.{same_list, runs_of}
use Rattle.wellformed.specs.Slices.{entries}
use Rattle.wellformed.proofs.FromLaws.{rest}
use Rattle.wellformed.proofs.runs.chains_run.Given as goal

abbrev pub invariant-loop-i : goal.invariant-loop-i
invariant-loop-i l =
    same_list (runs_of (list_from (λ k. chain_part (entries l.residue_keys k)) 0 l.residue_count)) (list_from (λ k. k) 0 l.chain_count)
    ≡ same_list (runs_of (rest (λ k. chain_part (entries l.residue_keys k)) l.residue_count l.from)) (rest (λ k. k) l.chain_count l.i)
