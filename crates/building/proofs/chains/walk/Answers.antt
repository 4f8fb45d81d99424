-- What is left of the walk from index i on gives the answer, with the i chains before it.
use mathlib.Core.Path.{◌≡◌, refl, sym, ◌∙◌}
use Prim.Native.Nat.{◌≤◌, ◌<◌}
use native.Mathlib.Numerals.{add-one}
use native.Mathlib.Omega.{arith}
use lib.ListN.{length, take, get_or}
use lib.Seq.{length-take-le, get_or-take}
use Rattle.building.proofs.ChainLaws.{walk_there, walk_on, walk_end}
use Rattle.building.proofs.chains.walk.Goals as goal

pub loop-i-init : goal.loop-i-init
loop-i-init c = refl

pub returns-then-chains-i : goal.returns-then-chains-i
returns-then-chains-i c =
    let a = c.args in
    let i = c.loop-i.i in
    let h : i < length (take a.n a.chains.now) = rw (length-take-le a.n a.chains.now c.requires.0) c.loop-i-test.true in
    let e : get_or (take a.n a.chains.now) i 0 ≡ a.name = get_or-take a.n a.chains.now i 0 c.loop-i-test.true ∙ c.if-chains-i.true in
    omega (arith, c.loop-i.invariant, walk_there a.name (take a.n a.chains.now) i h e)

pub loop-i-preserved : goal.loop-i-preserved
loop-i-preserved c =
    let a = c.args in
    let i = c.loop-i.i in
    let l = take a.n a.chains.now in
    let t : i < a.n = c.loop-i-test.true in
    let h : i < length l = rw (length-take-le a.n a.chains.now c.requires.0) t in
    let e : (get_or l i 0 ≡ a.name → ⊥) = λ q. c.if-chains-i.false (sym (get_or-take a.n a.chains.now i 0 t) ∙ q) in
    rw add-one (omega (arith, c.loop-i.invariant, walk_on a.name l i h e))

pub returns : goal.returns
returns c =
    let a = c.args in
    let i = c.loop-i.i in
    let l = take a.n a.chains.now in
    let h : length l ≤ i = rw (length-take-le a.n a.chains.now c.requires.0) c.loop-i-test.false in
    omega (arith, c.loop-i.auto.i-end, c.requires.1, c.loop-i.invariant, c.loop-i-test.false, walk_end a.name l i h)
