-- What the writer answers is served; on its refusal all records are cleared.
use mathlib.Core.Path.{◌≡◌, ap, ◌∙◌, subst}
use mathlib.Core.Bool.{true}
use mathlib.Core.List.{List}
use Prim.Native.Nat.{ℕ}
use lib.ListN.{length}
use Rattle.std.specs.Prelude.{Result}
use Rattle.refusals.specs.declared.reasons.Reason.{Reason}
use Rattle.building.specs.Holds.{sizes_of}
use Rattle.building.specs.declared.sites.Counts.{Counts}
use Rattle.model.specs.Lent.{Lent}
use Rattle.model.specs.LentNow.{lent_now}
use Rattle.model.specs.WellFormed.{well_formed_in}
use Rattle.model.specs.declared.room.Room.{Room}
use Rattle.writer.specs.Writing.{write_of, Wrote}
use Rattle.finishing.proofs.ClearingLaws.{none_left}
use Rattle.service.proofs.ServingLaws.{put_out, put_nothing}
use Rattle.service.proofs.serving.write_out.Goals as goal

-- what was lent on is what stands there
wrote_there :
    (counts : Counts) {l entry : Lent} {sizes : Room} {out bytes : List ℕ} {r : Result ℕ Reason} → l ≡ entry → sizes ≡ sizes_of counts → well_formed_in entry (sizes_of counts) ≡ true
    → (well_formed_in l sizes ≡ true → Wrote out (write_of l sizes (length out)) r bytes) → Wrote out (write_of entry sizes (length out)) r bytes
wrote_there counts {l} {entry} {sizes} {out} {bytes} {r} same n well w =
    subst (λ (x : Lent). Wrote out (write_of x sizes (length out)) r bytes) same (w ((λ j. well_formed_in (same j) (n j)) ∙ well))

pub returns-in-Ok-clause-writes : goal.returns-in-Ok-clause-writes
returns-in-Ok-clause-writes c =
    let a = c.args in
    let n = c.sizes_of.ensures in
    let w = wrote_there a.counts c.of_lent-records.ensures n c.requires c.write_well_formed.ensures in
    put_out (lent_now a.chains.now a.residues.now a.atoms.now) a.counts a.out.now _ n _ _ w _ c.in-Ok.is

pub returns-in-Err-clause-writes : goal.returns-in-Err-clause-writes
returns-in-Err-clause-writes c =
    let a = c.args in
    let n = c.sizes_of.ensures in
    let k = c.clear_records.new in
    let w = wrote_there a.counts c.of_lent-records.ensures n c.requires c.write_well_formed.ensures in
    let entry : Lent = lent_now a.chains.now a.residues.now a.atoms.now in
    let after : List ℕ → Lent = λ chains. lent_now chains k.residues k.atoms in
    put_nothing entry a.counts a.out.now _ n _ _ w _ _ c.in-Err.is
    (ap after c.clear_from.ensures ∙ none_left entry after c.no_records.ensures (c.clear_records.ensures.zeros a.chains.now))
