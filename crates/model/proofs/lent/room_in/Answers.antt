-- The lengths of the slices give it, and there are as many chains as names.
use mathlib.Core.Path.{sym, ap, ◌∙◌}
use Prim.Native.Nat.{ℕ}
use lib.ListN.{length}
use Rattle.model.specs.declared.room.Room.{Room}
use Rattle.model.specs.Lent.{room_by, room_of}
use Rattle.model.proofs.lent.room_in.Goals as goal

pub returns : goal.returns
unfolding room_of
returns c =
    let r = c.args.residues.now in
    let a = c.args.atoms.now in
    let room : ℕ → Room = λ n.
    room_by
    n
    (length r.keys.now)
    (length r.names.now)
    (length r.codes.now)
    (length r.categories.now)
    (length r.positions.now)
    (length a.keys.now)
    (length a.names.now)
    (length a.elements.now)
    (length a.positions.now)
    (length a.occupancies.now) in
    λ names many. c.room_by.ensures ∙ ap room (sym many)
