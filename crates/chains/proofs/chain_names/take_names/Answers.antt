-- A turn reads the name of record i and puts it in the place of name i; past the last turn all are taken that there is room for.
use Rattle.std.proofs.Common.{◌≡◌, length, ap, sym, ◌∙◌, arith, min}
use lib.ListN.{set, get_or}
use Rattle.chains.specs.Names.{chain_of}
use Rattle.chains.proofs.NameLaws.{taking, taking_none, taking_turn, taking_all}
use Rattle.chains.proofs.chain_names.take_names.Goals as goal

pub loop-i-init : goal.loop-i-init
loop-i-init c = sym (taking_none c.args.chains.now c.args.names.now)

pub loop-i-preserved : goal.loop-i-preserved
loop-i-preserved c =
    let chains = c.args.chains.now in
    let i = c.loop-i.i in
    ap (λ l. set l i (get_or chains i (chain_of 0)).name) c.loop-i.invariant ∙ taking_turn chains c.args.names.now i (omega arith) (omega arith)

pub returns : goal.returns
returns c =
    let chains = c.args.chains.now in
    let names = c.args.names.now in
    let all : c.loop-i.i ≡ min (length chains) 4096 = omega arith in
    c.loop-i.invariant ∙ ap (taking chains names) all ∙ taking_all chains names (omega arith)
