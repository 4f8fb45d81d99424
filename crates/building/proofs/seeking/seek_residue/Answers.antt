-- By its key alone, first in main and then in the pocket.
use mathlib.Core.Path.{◌≡◌, sym, ◌∙◌}
use native.Mathlib.Omega.{arith}
use lib.ListN.{length}
use Rattle.field_slices.proofs.OrderLaws.{numbers}
use Rattle.gapped_slices.specs.Areas.{many, entries_in}
use Rattle.gapped_slices.proofs.AreaLaws.{length_entries}
use Rattle.building.proofs.AreaFields.{none_in}
use Rattle.building.proofs.SeekLaws.{in_main, in_pocket, none_in_pocket}
use Rattle.building.proofs.seeking.seek_residue.Goals as goal

pub returns-in-Ok : goal.returns-in-Ok
returns-in-Ok c =
    let a = c.args in
    λ lies under.
    in_main numbers 0 a.key (entries_in a.store.main a.residues.now.keys.now) (entries_in a.store.pocket a.residues.now.keys.now) a.store c.in-Ok.i (c.in-Ok.ensures lies) (length_entries a.store.main a.residues.now.keys.now lies) c.stand.result (c.stand.ensures (length a.residues.now.keys.now) lies)

pub returns-then-entries_of-eq0 : goal.returns-then-entries_of-eq0
returns-then-entries_of-eq0 c =
    let a = c.args in
    λ lies under.
    let none : many a.store.pocket ≡ 0 = sym (c.entries_of.ensures (omega (arith, under.inside, under.fits))) ∙ c.if-entries_of-eq0.true in
    none_in_pocket numbers 0 a.key (entries_in a.store.main a.residues.now.keys.now) (entries_in a.store.pocket a.residues.now.keys.now) a.store c.in-Err.at (c.in-Err.ensures lies) (none_in a.store.pocket a.residues.now.keys.now none)

pub returns-in-Ok-residue_spot : goal.returns-in-Ok-residue_spot
returns-in-Ok-residue_spot c =
    let a = c.args in
    λ lies under.
    in_pocket numbers 0 a.key (entries_in a.store.main a.residues.now.keys.now) (entries_in a.store.pocket a.residues.now.keys.now) a.store c.in-Err.at c.in-Ok-residue_spot.i (c.in-Err.ensures lies) (c.in-Ok-residue_spot.ensures under) (length_entries a.store.pocket a.residues.now.keys.now under) c.stand-in-Ok-residue_spot.result
    (c.stand-in-Ok-residue_spot.ensures (length a.residues.now.keys.now) under)
