-- A turn gives record i its name; past the last turn all records have theirs that there are.
use Rattle.std.proofs.Common.{◌≡◌, length, ap, sym, ◌∙◌, arith, min}
use lib.ListN.{set, get_or}
use Rattle.chains.specs.Names.{named, chain_of}
use Rattle.chains.proofs.NameLaws.{named_none, named_turn, named_all}
use Rattle.chains.proofs.chain_names.store_names.Goals as goal

pub loop-i-init : goal.loop-i-init
loop-i-init c = sym (named_none c.args.chains.now c.args.names.now)

pub loop-i-preserved : goal.loop-i-preserved
loop-i-preserved c =
    let chains = c.args.chains.now in
    let names = c.args.names.now in
    let i = c.loop-i.i in
    ap (λ n. set c.loop-i.chains i (chain_of n)) c.entry_at.ensures ∙ ap (λ l. set l i (chain_of (get_or names i 0))) c.loop-i.invariant ∙ named_turn chains names i (omega arith)

pub returns : goal.returns
returns c =
    let chains = c.args.chains.now in
    let names = c.args.names.now in
    let all : c.loop-i.i ≡ min c.args.count (length chains) = omega arith in
    c.loop-i.invariant ∙ ap (named chains names) all ∙ named_all chains names c.args.count
