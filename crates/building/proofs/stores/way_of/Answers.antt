-- A store that lies in the room has no count that the machine cannot hold, so each test is one of what the areas have and leaves room for one more.
use mathlib.Core.Path.{sym, ◌∙◌}
use native.Mathlib.Omega.{arith}
use Prim.Native.Nat.{◌-◌}
use borrow.Author.Tests.{ltb-true}
use Rattle.building.proofs.stores.way_of.Goals as goal

pub returns-then-not-is_far : goal.returns-then-not-is_far
returns-then-not-is_far c = λ room l small.
    let pocket = c.entries_of-many.ensures (omega (arith, l.fits, l.ordered, l.inside, small)) in
    let main = c.entries_of.ensures (omega (arith, l.fits, l.ordered, l.inside, small)) in
    omega (arith, c.if-saturating_sub-many.false, c.saturating_sub.ensures, pocket, main)

pub returns-then-has_room : goal.returns-then-has_room
returns-then-has_room c = λ room l small.
    let pocket = c.entries_of-many.ensures (omega (arith, l.fits, l.ordered, l.inside, small)) in
    let main = c.entries_of.ensures (omega (arith, l.fits, l.ordered, l.inside, small)) in
    let area = c.args.store.pocket in (
      omega (arith, c.if-saturating_sub-many.false, c.saturating_sub.ensures, pocket, main),
      omega (arith, pocket, ltb-true c.entries_of-many.result (area.to - area.from) (sym c.has_room.ensures ∙ c.if-has_room.true)),
    )
