-- A residue put into an area of its slices is there in each field, and all that is in another area stays.
use mathlib.Core.Path.{◌≡◌, refl, ◌∙◌}
use mathlib.Core.List.{[]}
use mathlib.Core.Logic.{◌⊎◌}
use Prim.Native.Nat.{ℕ, ◌-◌, ◌≤◌, ◌<◌}
use native.Mathlib.Omega.{arith}
use lib.ListN.{length}
use Rattle.field_slices.specs.Insertion.{ins}
use Rattle.gapped_slices.specs.Areas.{many, one_more_at, MovedIn}
use Rattle.gapped_slices.specs.declared.areas.Area.{Area}
use Rattle.gapped_slices.proofs.AreaLaws.{entries_elsewhere}
use Rattle.model.specs.Fold.{Residue}
use Rattle.model.specs.Lists.{count}
use Rattle.model.specs.Map.{Entry, Map}
use Rattle.building.specs.declared.residues.ResidueEntry.{ResidueEntry}
use Rattle.building.specs.Kinds.{ResidueSlices, IsResidue, ResiduesIn, ResiduesFirst, ResiduesLong, ResiduesSame, PutsResidue}
use Rattle.building.specs.Stores.{Kept}
use Rattle.building.proofs.AreaFields.{field_entered, none_in, wider_in, all_first}

module _ (r after : ResidueSlices) (a : Area) (at : ℕ) (e : ResidueEntry) (puts : PutsResidue a at e r after) where
  pub residues_put_same : ResiduesSame r after
  residues_put_same = record { keys = puts.keys.elsewhere.long; names = puts.names.elsewhere.long; marks = puts.marks.elsewhere.long }

  pub residue_entered : (room : ℕ) → ResiduesLong r room → a.from ≤ a.to → a.to ≤ room → many a < a.to - a.from → at ≤ many a → (v : Residue) → IsResidue e v
      → (m : Map Residue) → ResiduesIn r a m → ResiduesIn after (one_more_at a at) (ins at (record { key = e.key; value = v }) m)
  residue_entered room long ordered inside more low v own m h =
      let x : Entry Residue = record { key = e.key; value = v } in
      record {
        keys_held = field_entered (λ (e : Entry Residue). e.key) a at x m r.keys after.keys ordered (omega (arith, long.keys)) more low puts.keys refl h.keys_held;
        names_held = field_entered (λ (e : Entry Residue). e.value.name) a at x m r.names after.names ordered (omega (arith, long.names)) more low puts.names own.name h.names_held;
        marks_held = field_entered (λ (e : Entry Residue). count e.value.hetatm) a at x m r.marks after.marks ordered (omega (arith, long.marks)) more low puts.marks own.mark h.marks_held;
      }

  pub residue_elsewhere : (b : Area) → (b.to ≤ a.from) ⊎ (a.to ≤ b.from) → b.from ≤ b.to → (m : Map Residue) → ResiduesIn r b m → ResiduesIn after b m
  residue_elsewhere b side ordered m h = record {
    keys_held = entries_elsewhere a b r.keys after.keys puts.keys.elsewhere side ordered ∙ h.keys_held;
    names_held = entries_elsewhere a b r.names after.names puts.names.elsewhere side ordered ∙ h.names_held;
    marks_held = entries_elsewhere a b r.marks after.marks puts.marks.elsewhere side ordered ∙ h.marks_held;
  }

-- ---- an area with none, and main widened
pub no_residues : (r : ResidueSlices) (a : Area) → many a ≡ 0 → ResiduesIn r a []
no_residues r a e = record { keys_held = none_in a r.keys e; names_held = none_in a r.names e; marks_held = none_in a r.marks e }

pub residues_wider : (r : ResidueSlices) (room : ℕ) → ResiduesLong r room → (a : Area) → a.from ≡ 0 → many a ≡ a.to → (to : ℕ) → a.to ≤ to → to ≤ room
    → (m : Map Residue) → ResiduesIn r a m → ResiduesIn r (record { from = 0; to = to; front = many a; behind = 0 }) m
residues_wider r room long a start full to h k m i = record {
  keys_held = wider_in a r.keys start full (omega (arith, long.keys)) to h ∙ i.keys_held;
  names_held = wider_in a r.names start full (omega (arith, long.names)) to h ∙ i.names_held;
  marks_held = wider_in a r.marks start full (omega (arith, long.marks)) to h ∙ i.marks_held;
}

-- ---- all of them at the front
pub residues_first : (r after : ResidueSlices) (room : ℕ) → ResiduesLong r room → (a : Area) (n : ℕ) → n ≡ many a → a.from ≡ 0 → many a ≤ a.to → a.to ≤ room → (m : Map Residue) → Kept (ResiduesIn r) a m
    → MovedIn a n r.keys after.keys → MovedIn a n r.names after.names → MovedIn a n r.marks after.marks → ResiduesFirst after m
residues_first r after room long a n e start low inside m kept ks ns ms = record {
  many = refl;
  ascending = kept.ascending;
  keys_held = all_first a n (length m) r.keys after.keys e kept.many start low (omega (arith, long.keys)) ks ∙ kept.fields.keys_held;
  names_held = all_first a n (length m) r.names after.names e kept.many start low (omega (arith, long.names)) ns ∙ kept.fields.names_held;
  marks_held = all_first a n (length m) r.marks after.marks e kept.many start low (omega (arith, long.marks)) ms ∙ kept.fields.marks_held;
}
