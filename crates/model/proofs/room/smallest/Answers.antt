-- One minimum to a call.
use mathlib.Core.Path.{ap, ◌∙◌}
use Prim.Native.Nat.{min}
use Rattle.model.proofs.room.smallest.Goals as goal

pub returns : goal.returns
returns c =
    let a = c.args in
    c.min-4.ensures
    ∙ ap (min a.a) (c.min-3.ensures ∙ ap (min a.b) (c.min-2.ensures ∙ ap (min a.c) c.min.ensures))
