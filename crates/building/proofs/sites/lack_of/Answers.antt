-- Each test is one of the definition, in its order.
use mathlib.Core.Path.{◌≡◌, sym, ap, ◌∙◌}
use mathlib.Core.Bool.{Bool}
use Prim.Native.Nat.{ℕ}
use Rattle.model.specs.Room.{no_room}
use Rattle.building.proofs.CountLaws.{lacks_chain, lacks_residue, lacks_atom, lacks_none}
use Rattle.building.proofs.sites.lack_of.Goals as goal

-- what lacks room, as the tests say it
said : {x y t : Bool} → x ≡ y → x ≡ t → y ≡ t
said f e = sym f ∙ e

-- the same of what may be new
said_new : {x n y t : Bool} (room many : ℕ) → x ≡ no_room n room many → n ≡ y → x ≡ t → no_room y room many ≡ t
said_new room many f g e = sym (f ∙ ap (λ (b : Bool). no_room b room many) g) ∙ e

pub returns-then-has_no_room : goal.returns-then-has_no_room
returns-then-has_no_room c = let a = c.args in sym (lacks_chain a.room a.counts a.places (said c.has_no_room.ensures c.if-has_no_room.true))

pub returns-then-has_no_room-2 : goal.returns-then-has_no_room-2
returns-then-has_no_room-2 c =
    let a = c.args in
    sym
    (lacks_residue a.room a.counts a.places (said c.has_no_room.ensures c.if-has_no_room.false)
    (said_new _ _ c.has_no_room-2.ensures c.is_err.ensures.value c.if-has_no_room-2.true))

pub returns-then-has_no_room-3 : goal.returns-then-has_no_room-3
returns-then-has_no_room-3 c =
    let a = c.args in
    sym
    (lacks_atom a.room a.counts a.places (said c.has_no_room.ensures c.if-has_no_room.false)
    (said_new _ _ c.has_no_room-2.ensures c.is_err.ensures.value c.if-has_no_room-2.false)
    (said_new _ _ c.has_no_room-3.ensures c.is_err-2.ensures.value c.if-has_no_room-3.true))

pub returns : goal.returns
returns c =
    let a = c.args in
    sym
    (lacks_none a.room a.counts a.places (said c.has_no_room.ensures c.if-has_no_room.false)
    (said_new _ _ c.has_no_room-2.ensures c.is_err.ensures.value c.if-has_no_room-2.false)
    (said_new _ _ c.has_no_room-3.ensures c.is_err-2.ensures.value c.if-has_no_room-3.false))
