-- Each return is one case of `token_in`.
use Rattle.tokens.proofs.PartLaws.{token_none, place_none, token_cut, places_crossed, token_some}
use Rattle.tokens.proofs.split.part_of.Goals as goal

pub returns-then-n-k : goal.returns-then-n-k
returns-then-n-k c =
    let a = c.args in
    token_none a.cell.now a.places.now a.n a.k c.if-n-k.true

pub returns-then-places-k : goal.returns-then-places-k
returns-then-places-k c =
    let a = c.args in
    place_none a.cell.now a.places.now a.n a.k c.if-n-k.false c.if-places-k.true

pub returns-then-cell-end : goal.returns-then-cell-end
returns-then-cell-end c =
    let a = c.args in
    token_cut a.cell.now a.places.now a.n a.k c.if-n-k.false _ c.if-cell-end.true c.rest_of.ensures

pub returns-then-end-start : goal.returns-then-end-start
returns-then-end-start c =
    let a = c.args in
    places_crossed a.cell.now a.places.now a.n a.k c.if-n-k.false c.if-end-start.true

pub returns : goal.returns
returns c =
    let a = c.args in
    token_some a.cell.now a.places.now a.n a.k c.if-n-k.false c.if-end-start.false c.if-cell-end.false
