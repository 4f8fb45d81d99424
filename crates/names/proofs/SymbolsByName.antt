-- A text that packing does not keep is no symbol.
use mathlib.Core.Path.{◌≡◌, refl, sym, ap, ◌∙◌}
use mathlib.Core.List.{List, [], ◌∷◌, map}
use mathlib.Core.Bool.{Bool, true, false, cond}
use Prim.Native.Nat.{ℕ, suc}
use Prim.Native.String.{String}
use lib.ListN.{get_or, drop}
use Rattle.ascii.specs.Bytes.{bytes}
use Rattle.ascii.specs.Words.{same_bytes}
use Rattle.ascii.proofs.WordLaws.{same_equal}
use Rattle.names.specs.Elements.{symbols, element_from, element_of}
use Rattle.names.specs.Packing.{packed_in, packed, unpacked_in, unpacked}

no_name : (n : ℕ) (s : List ℕ) (l : List String) → (unpacked (packed s) ≡ s → ⊥) → map (λ (t : String). unpacked (packed (bytes t))) l ≡ map bytes l → element_from n s l ≡ 0
unfolding element_from
no_name n s [] h k = refl
no_name n s (t ∷ l) h k = go (same_bytes s (bytes t)) (same_equal s (bytes t)) (no_name (suc n) s l h (ap (drop 1) k))
  where
    go : (u : Bool) → (u ≡ true → s ≡ bytes t) → element_from (suc n) s l ≡ 0 → cond u n (element_from (suc n) s l) ≡ 0
    go true e f = absurd (h (ap (λ (x : List ℕ). unpacked (packed x)) (e refl) ∙ ap (λ (m : List (List ℕ)). get_or m 0 []) k ∙ sym (e refl)))
    go false e f = f

pub element_none : (s : List ℕ) → (unpacked (packed s) ≡ s → ⊥) → element_of s ≡ 0
unfolding symbols element_of packed_in unpacked_in
element_none s h = no_name 0 s symbols h refl
