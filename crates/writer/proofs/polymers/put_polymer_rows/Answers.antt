-- The rows are put residue after residue.
use mathlib.Core.Path.{◌≡◌, sym, ap, ◌∙◌, subst}
use mathlib.Core.List.{List}
use Prim.Native.Nat.{ℕ, ◌+◌}
use native.Mathlib.Omega.{arith}
use Rattle.names.specs.Places.{ascends}
use Rattle.model.specs.Lent.{lent_in, residue_in}
use Rattle.model.specs.Keys.{chain_part}
use Rattle.model.specs.Records.{ResidueRecord}
use Rattle.model.specs.TakenOut.{residue_out}
use Rattle.model.specs.declared.taken_out.Residue.{Residue}
use Rattle.row_texts.specs.Emitted.{Emitted}
use Rattle.row_texts.proofs.EmittedLaws.{then}
use Rattle.wellformed.proofs.SliceLaws.{map_from}
use Rattle.writer.proofs.NothingEmitted.{nothing}
use Rattle.writer.proofs.PolymerRows.{PolymersTold, polymers_begin, polymers_go, polymers_end}
use Rattle.writer.proofs.polymers.put_polymer_rows.Goals as goal

pub loop-i-init : goal.loop-i-init
loop-i-init c = polymers_begin _ _ (nothing _ _)

pub number_after-number-requires : goal.number_after-number-requires
number_after-number-requires c = omega (arith, c.loop-i.invariant.counted, c.loop-i-test.true)

-- the chain of the key is the residue's
same_chain : (r : ResidueRecord) {residue : Residue} {key chain : ℕ} → residue ≡ residue_out r → chain ≡ chain_part key → key ≡ r.key → residue.chain ≡ chain
unfolding residue_out
same_chain r is of key = ap (λ (r : Residue). r.chain) is ∙ sym (of ∙ ap chain_part key)

pub put_polymer-place-requires : goal.put_polymer-place-requires
unfolding residue_out
put_polymer-place-requires c =
    omega (arith, same_chain _ c.residue_at-residue.ensures c.chain_part-chain.ensures c.entry_at.ensures)

pub loop-i-preserved : goal.loop-i-preserved
loop-i-preserved c =
    let l = c.loop-i in
    let put = c.put_polymer-place in
    let Told : List ℕ → Type 0 = λ t. Emitted c.args.out.now c.args.at t put.result put.new.out in
    subst (PolymersTold (residue_in (lent_in c.args.records)) c.args.n Told (l.i + 1) c.number_after-number.result)
    (same_chain _ c.residue_at-residue.ensures c.chain_part-chain.ensures c.entry_at.ensures)
    (polymers_go _ _ c.loop-i-test.true l.invariant c.residue_at-residue.ensures c.number_after-number.ensures
    (λ t told. then told (λ _. put.ensures) c.well_formed.0.0))

pub returns : goal.returns
returns c =
    let a = c.args in
    let at = residue_in (lent_in a.records) in
    λ up. polymers_end at a.n c.loop-i-test.false c.loop-i.invariant (ap ascends (map_from (λ r. r.key) at 0 a.n) ∙ up)
