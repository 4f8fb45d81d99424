-- All of them differ exactly where those from index i on do.
use mathlib.Core.Path.{sym, ◌∙◌}
use lib.ListN.{get_or}
use Prim.Native.Nat.{◌+◌}
use Rattle.wellformed.proofs.ChainLaws.{contained, differ_on, differ_fails, differ_end}
use Rattle.wellformed.proofs.chains.names_differ.Goals as goal

pub loop-i-preserved : goal.loop-i-preserved
loop-i-preserved c =
    let l = c.args.chains.now in
    let i = c.loop-i.i in
    c.loop-i.invariant ∙ differ_on l i c.loop-i-test.true (sym (c.contains.ensures.value ∙ contained (get_or l i 0) l (i + 1)) ∙ c.if-contains.false)

pub returns-then-contains : goal.returns-then-contains
returns-then-contains c =
    let l = c.args.chains.now in
    let i = c.loop-i.i in
    sym (c.loop-i.invariant ∙ differ_fails l i c.loop-i-test.true (sym (c.contains.ensures.value ∙ contained (get_or l i 0) l (i + 1)) ∙ c.if-contains.true))

pub returns : goal.returns
returns c = sym (c.loop-i.invariant ∙ differ_end c.args.chains.now c.loop-i.i c.loop-i-test.false)
