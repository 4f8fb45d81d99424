-- What every site is: its numbers fit their types, and its occupancy is finite.
use Prim.{Unit}
use Rattle.std.specs.Prelude.{◌^◌, ◌<◌, Float}
use Rattle.std.specs.Float.{nan, inf, fin}
use Rattle.rows.specs.declared.rules.Site.{Site}

abbrev pub Finite : Float → Type 0
Finite nan = ⊥
Finite (inf negative) = ⊥
Finite (fin negative m e) = Unit {0}

pub record Proper (s : Site) : Type 0 where
  pub sequence : s.sequence < 2 ^ 32
  pub code : s.insertion_code < 2 ^ 8
  pub atom : s.atom < 2 ^ 64
  pub occupancy : Finite s.occupancy
