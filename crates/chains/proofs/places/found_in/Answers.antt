-- A place that is looked at is one of the first so many records; where none of them has the name it stands nowhere.
use Rattle.std.proofs.Common.{◌≡◌, length, take, sym, ◌∙◌, subst, arith}
use Rattle.building.specs.Slices.{ChainFound}
use Rattle.chains.specs.Names.{names_in}
use Rattle.chains.proofs.PlaceLaws.{Missed, none_found, length_first, inside, found_there, missed_there}
use Rattle.chains.proofs.places.found_in.Goals as goal

pub offset_bounds-chains-i : goal.offset_bounds-chains-i
offset_bounds-chains-i c =
    let h = inside c.args.chains.now c.args.many c.args.last c.min-count.result c.loop-k.k c.round-i.result c.min-count.ensures (omega arith) c.round-i.ensures in
    omega arith

pub bounds-chains-i : goal.bounds-chains-i
bounds-chains-i c = inside c.args.chains.now c.args.many c.args.last c.min-count.result c.loop-k.k c.round-i.result c.min-count.ensures (omega arith) c.round-i.ensures

pub returns-then-chains-i : goal.returns-then-chains-i
returns-then-chains-i c =
    let a = c.args in
    found_there a.chains.now a.many a.last c.min-count.result c.loop-k.k c.round-i.result c.min-count.ensures (omega arith) c.round-i.ensures a.name c.if-chains-i.true

pub loop-k-preserved : goal.loop-k-preserved
loop-k-preserved c =
    let a = c.args in
    missed_there a.chains.now a.many a.last c.min-count.result c.loop-k.k c.round-i.result c.min-count.ensures (omega arith) c.round-i.ensures a.name c.loop-k.invariant c.if-chains-i.false

pub returns : goal.returns
returns c =
    let a = c.args in
    let first = take a.many (names_in a.chains.now) in
    let all : length first ≡ c.min-count.result = length_first a.many a.chains.now ∙ sym c.min-count.ensures in
    let end : c.loop-k.k ≡ length first = omega arith in
    subst (ChainFound first a.name) all (none_found first a.name a.last (subst (Missed first a.name a.last) end c.loop-k.invariant))
