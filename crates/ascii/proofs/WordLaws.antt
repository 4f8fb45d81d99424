-- The library's comparisons are `starts_with` and `same_bytes`, byte by byte; the second is exactly equality.
use mathlib.Core.Path.{◌≡◌, refl, sym, ap, ◌∙◌}
use mathlib.Core.List.{List, [], ◌∷◌}
use mathlib.Core.Bool.{Bool, true, false, ◌&&◌, and-false, false≢true}
use Prim.Native.Nat.{ℕ, suc}
use lib.Dec.{eqb}
use lib.ListN.{length, take}
use borrow.Author.Tests.{eq-eqb, ne_eqb, eqb-true}
use lib.Pointwise.{pointwise}
use Rattle.ascii.specs.Words.{starts_with, same_bytes}

-- ---- one text begins with another
starts_none : (s : List ℕ) → starts_with s [] ≡ true
unfolding starts_with
starts_none [] = refl
starts_none (b ∷ s) = refl

eqb_sym : (b c : ℕ) → eqb b c ≡ eqb c b
eqb_sym b c = go (eqb b c) refl
  where
    go : (t : Bool) → eqb b c ≡ t → t ≡ eqb c b
    go true e = sym (eq-eqb c b (sym (eqb-true b c e)))
    go false e = sym (ne_eqb c b (λ h. false≢true (sym e ∙ eq-eqb b c (sym h))))

-- the library's test, which compares the prefix with as much of the text
pub starts_front : (s p : List ℕ) → pointwise eqb p (take (length p) s) ≡ starts_with s p
unfolding starts_with
starts_front s [] = sym (starts_none s)
starts_front [] (c ∷ p) = refl
starts_front (b ∷ s) (c ∷ p) = rw (eqb_sym c b, starts_front s p)

-- ---- two texts are the same
pub same_pointwise : (s t : List ℕ) → pointwise eqb s t ≡ same_bytes s t
unfolding same_bytes
same_pointwise [] [] = refl
same_pointwise [] (c ∷ t) = refl
same_pointwise (b ∷ s) [] = refl
same_pointwise (b ∷ s) (c ∷ t) = ap (λ (r : Bool). eqb b c && r) (same_pointwise s t)

pub same_length : (s t : List ℕ) → (length s ≡ length t → ⊥) → same_bytes s t ≡ false
unfolding same_bytes
same_length [] [] h = absurd (h refl)
same_length [] (c ∷ t) h = refl
same_length (b ∷ s) [] h = refl
same_length (b ∷ s) (c ∷ t) h = ap (λ (r : Bool). eqb b c && r) (same_length s t (λ e. h (ap suc e))) ∙ and-false (eqb b c)

-- the test is exactly equality
pub same_self : (s : List ℕ) → same_bytes s s ≡ true
unfolding same_bytes
same_self [] = refl
same_self (b ∷ s) = ap (λ (t : Bool). t && same_bytes s s) (eq-eqb b b refl) ∙ same_self s

pub same_equal : (s t : List ℕ) → same_bytes s t ≡ true → s ≡ t
unfolding same_bytes
same_equal [] [] e = refl
same_equal [] (c ∷ t) e = absurd (false≢true e)
same_equal (b ∷ s) [] e = absurd (false≢true e)
same_equal (b ∷ s) (c ∷ t) e = both (eqb b c) refl e (same_equal s t)
  where
    both : (u : Bool) → eqb b c ≡ u → (u && same_bytes s t) ≡ true → (same_bytes s t ≡ true → s ≡ t) → b ∷ s ≡ c ∷ t
    both true h f tails =
        let heads : b ≡ c = eqb-true b c h in
        let rests : s ≡ t = tails f in
        cc
    both false h f tails = absurd (false≢true f)
