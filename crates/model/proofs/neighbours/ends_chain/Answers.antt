-- Residues that are no polymer's are passed and change nothing, so what is left from index i on gives the answer.
use mathlib.Core.Path.{refl, sym, ap, ◌∙◌}
use mathlib.Core.Bool.{not}
use Prim.Native.Nat.{ℕ}
use native.Mathlib.Omega.{arith}
use native.Mathlib.Numerals.{add-one}
use lib.Dec.{eqb}
use Rattle.model.proofs.WalkTurns.{ends_at_end, ends_here, ends_behind}
use Rattle.model.proofs.neighbours.ends_chain.Goals as goal

pub loop-i-init : goal.loop-i-init
loop-i-init c = refl

pub returns-then-is_polymer : goal.returns-then-is_polymer
returns-then-is_polymer c =
    let a = c.args in
    ap (λ (x : ℕ). not (eqb x a.place)) c.chain_part.ensures
    ∙ sym (c.loop-i.invariant ∙ ends_here a.place a.keys.now a.codes.now a.n c.loop-i.i (omega arith) (sym c.is_polymer.ensures ∙ c.if-is_polymer.true))

pub loop-i-preserved : goal.loop-i-preserved
loop-i-preserved c =
    let a = c.args in
    rw add-one (c.loop-i.invariant ∙ ends_behind a.place a.keys.now a.codes.now a.n c.loop-i.i (omega arith) (sym c.is_polymer.ensures ∙ c.if-is_polymer.false))

pub returns : goal.returns
returns c =
    let a = c.args in
    sym (c.loop-i.invariant ∙ ends_at_end a.place a.keys.now a.codes.now a.n c.loop-i.i (omega arith))
