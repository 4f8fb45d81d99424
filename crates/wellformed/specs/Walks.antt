-- The residues tested in one walk: their classes, while the atoms are passed, and their positions, while the chains are.
use Rattle.std.specs.Prelude.{Bool, true, ◌&&◌, List, [], ◌∷◌, map, ℕ, ◌+◌, eqb, drop}
use Rattle.model.specs.declared.classes.Class.{Class}
use Rattle.model.specs.Classes.{class_of}
use Rattle.model.specs.Neighbours.{lessers, alone_in, met_with, position_between}

-- ---- classes

abbrev pub same_class : Class → Class → Bool
same_class c d = eqb c.name d.name && eqb c.code d.code && eqb c.category d.category

-- a class is as ruled, where it is known whether the residue has one atom
abbrev pub is_classed : Class → Bool → Bool
is_classed c lone = same_class c (class_of c.name lone)

-- each residue, by its key and its class, has its atoms among those from an index on
unfoldable pub classed_from : List ℕ → ℕ → List (ℕ × Class) → Bool
classed_from atoms from [] = true
classed_from atoms from (r ∷ l) =
    let at = from + lessers r.0 (drop from atoms) in
    is_classed r.1 (alone_in r.0 (drop at atoms)) && classed_from atoms at l

-- ---- positions

pub record Standing : Type 0 where
  pub key : ℕ
  pub code : ℕ
  pub position : ℕ

unfoldable pub stands_from : ℕ → List Standing → Bool
stands_from met [] = true
stands_from met (r ∷ l) =
    eqb r.position (position_between met r.key r.code (map (λ t. (t.key, t.code)) l))
    && stands_from (met_with met r.key r.code) l
