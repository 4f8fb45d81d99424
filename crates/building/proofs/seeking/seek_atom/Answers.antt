-- By its key and its name, first in main and then in the pocket.
use mathlib.Core.Path.{◌≡◌, sym, ◌∙◌}
use native.Mathlib.Omega.{arith}
use lib.ListN.{length}
use Rattle.field_slices.specs.Places.{pairs}
use Rattle.field_slices.proofs.OrderLaws.{by_both}
use Rattle.gapped_slices.specs.Areas.{many, entries_in}
use Rattle.building.proofs.SeekLaws.{in_main, in_pocket, none_in_pocket, length_both, none_of_both}
use Rattle.building.proofs.seeking.seek_atom.Goals as goal

pub returns-in-Ok : goal.returns-in-Ok
returns-in-Ok c =
    let a = c.args in
    λ lies also under beside.
    in_main by_both (0, 0) (a.key, a.name) (pairs (entries_in a.store.main a.atoms.now.keys.now) (entries_in a.store.main a.atoms.now.names.now)) (pairs (entries_in a.store.pocket a.atoms.now.keys.now) (entries_in a.store.pocket a.atoms.now.names.now)) a.store c.in-Ok.i (c.in-Ok.ensures lies also) (length_both a.store.main a.atoms.now.keys.now a.atoms.now.names.now lies also) c.stand.result (c.stand.ensures (length a.atoms.now.keys.now) lies)

pub returns-then-entries_of-eq0 : goal.returns-then-entries_of-eq0
returns-then-entries_of-eq0 c =
    let a = c.args in
    λ lies also under beside.
    let none : many a.store.pocket ≡ 0 = sym (c.entries_of.ensures (omega (arith, under.inside, under.fits))) ∙ c.if-entries_of-eq0.true in
    none_in_pocket by_both (0, 0) (a.key, a.name) (pairs (entries_in a.store.main a.atoms.now.keys.now) (entries_in a.store.main a.atoms.now.names.now)) (pairs (entries_in a.store.pocket a.atoms.now.keys.now) (entries_in a.store.pocket a.atoms.now.names.now)) a.store c.in-Err.at (c.in-Err.ensures lies also) (none_of_both a.store.pocket a.atoms.now.keys.now a.atoms.now.names.now none)

pub returns-in-Ok-atom_spot : goal.returns-in-Ok-atom_spot
returns-in-Ok-atom_spot c =
    let a = c.args in
    λ lies also under beside.
    in_pocket by_both (0, 0) (a.key, a.name) (pairs (entries_in a.store.main a.atoms.now.keys.now) (entries_in a.store.main a.atoms.now.names.now)) (pairs (entries_in a.store.pocket a.atoms.now.keys.now) (entries_in a.store.pocket a.atoms.now.names.now)) a.store c.in-Err.at c.in-Ok-atom_spot.i (c.in-Err.ensures lies also) (c.in-Ok-atom_spot.ensures under beside) (length_both a.store.pocket a.atoms.now.keys.now a.atoms.now.names.now under beside) c.stand-in-Ok-atom_spot.result
    (c.stand-in-Ok-atom_spot.ensures (length a.atoms.now.keys.now) under)
