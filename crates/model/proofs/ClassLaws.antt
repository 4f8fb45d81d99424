-- Lists that agree class by class: where a number tells the classes of a list apart, what holds of each class holds at each number, and two lists
-- with the same members at each number have the same sum.
use mathlib.Core.Path.{◌≡◌, refl, sym, ap, ◌∙◌, subst}
use mathlib.Core.Bool.{Bool, true, false, cond}
use mathlib.Core.List.{List, [], ◌∷◌, nil≢cons, head-eq_of_cons-eq}
use Prim.Native.Nat.{ℕ, ◌+◌}
use lib.Dec.{eqb}
use lib.ListN.{length, drop}
use borrow.Author.Tests.{eqb-true, eqb-false, eq-eqb, ne_eqb}
use native.Mathlib.Omega.{arith}
use Rattle.model.specs.Lists.{filter, All, count}
use Rattle.model.proofs.ListLaws.{filter_same, filter_all}

-- those of a number
abbrev pub those : {S : Type 0} → (S → ℕ) → ℕ → List S → List S
those k x l = filter (λ s. eqb (k s) x) l

module _ {S : Type 0} (P : S → Type 0) (k : S → ℕ) (same : S → S → Bool) (tells : (s t : S) → P s → P t → eqb (k t) (k s) ≡ same s t) where
  pub those_of : (s : S) (x : ℕ) → P s → k s ≡ x → (l : List S) → All P l → those k x l ≡ filter (same s) l
  those_of s x p e l a = filter_same P (λ t. eqb (k t) x) (same s) (λ t q. ap (λ (y : ℕ). eqb (k t) y) (sym e) ∙ tells s t p q) l a

  pub by_class : {G : Type 0} (g : List S → G) (l₁ l₂ : List S) → All P l₁ → All P l₂ → ((s : S) → g (filter (same s) l₁) ≡ g (filter (same s) l₂))
      → (x : ℕ) → g (those k x l₁) ≡ g (those k x l₂)
  by_class g l₁ l₂ a b h x = go (those k x l₁) refl (those k x l₂) refl (filter_all P (λ s. eqb (k s) x) l₁ a) (filter_all P (λ s. eqb (k s) x) l₂ b)
    where
      at : (s : S) → P s × (eqb (k s) x ≡ true) → g (those k x l₁) ≡ g (those k x l₂)
      at s p = let e = eqb-true (k s) x p.1 in ap g (those_of s x p.0 e l₁ a) ∙ h s ∙ ap g (sym (those_of s x p.0 e l₂ b))

      go : (m₁ : List S) → those k x l₁ ≡ m₁ → (m₂ : List S) → those k x l₂ ≡ m₂
          → All (λ (s : S). P s × (eqb (k s) x ≡ true)) m₁ → All (λ (s : S). P s × (eqb (k s) x ≡ true)) m₂ → g (those k x l₁) ≡ g (those k x l₂)
      go [] e [] d u v = ap g (e ∙ sym d)
      go [] e (s ∷ m) d u v = at s v.0
      go (s ∷ m₁) e m₂ d u v = at s u.0

-- ---- sums
module _ {S : Type 0} where
  unfoldable pub total : (S → ℕ) → List S → ℕ
  total w [] = 0
  total w (s ∷ l) = w s + total w l

  pub total_one : (l : List S) → total (λ (s : S). 1) l ≡ length l
  unfolding total
  total_one [] = refl
  total_one (s ∷ l) = omega (arith, total_one l)

  pub total_count : (p : S → Bool) (l : List S) → total (λ (s : S). count (p s)) l ≡ length (filter p l)
  unfolding total
  total_count p [] = refl
  total_count p (s ∷ l) = go (p s) (total_count p l)
    where
      go : (b : Bool) → total (λ (s : S). count (p s)) l ≡ length (filter p l) → count b + total (λ (s : S). count (p s)) l ≡ length (cond b (s ∷ filter p l) (filter p l))
      go true e = omega arith
      go false e = omega arith

module _ {S : Type 0} (k : S → ℕ) where
  -- without the first at x
  abbrev remove : ℕ → List S → List S
  remove x [] = []
  remove x (s ∷ l) = cond (eqb (k s) x) l (s ∷ remove x l)

  remove_same : (x : ℕ) (l : List S) → those k x (remove x l) ≡ drop 1 (those k x l)
  remove_same x [] = refl
  remove_same x (s ∷ l) = go (eqb (k s) x) refl (remove_same x l)
    where
      go : (b : Bool) → eqb (k s) x ≡ b → those k x (remove x l) ≡ drop 1 (those k x l) → those k x (cond b l (s ∷ remove x l)) ≡ drop 1 (cond b (s ∷ those k x l) (those k x l))
      go true e r = refl
      go false e r = rw e r

  remove_other : (x y : ℕ) (l : List S) → (x ≡ y → ⊥) → those k y (remove x l) ≡ those k y l
  remove_other x y [] n = refl
  remove_other x y (s ∷ l) n = go (eqb (k s) x) refl (remove_other x y l n)
    where
      go : (b : Bool) → eqb (k s) x ≡ b → those k y (remove x l) ≡ those k y l → those k y (cond b l (s ∷ remove x l)) ≡ cond (eqb (k s) y) (s ∷ those k y l) (those k y l)
      go true e r = rw (ne_eqb (k s) y (λ q. n (sym (eqb-true (k s) x e) ∙ q)))
      go false e r = ap (λ (m : List S). cond (eqb (k s) y) (s ∷ m) m) r

  module _ (w : S → ℕ) where
    total_remove : (x : ℕ) (l : List S) (s : S) (m : List S) → those k x l ≡ s ∷ m → total w l ≡ w s + total w (remove x l)
    unfolding total
    total_remove x [] s m e = absurd (nil≢cons e)
    total_remove x (t ∷ l) s m e = go (eqb (k t) x) e (total_remove x l s m)
      where
        go : (b : Bool) → cond b (t ∷ those k x l) (those k x l) ≡ s ∷ m → (those k x l ≡ s ∷ m → total w l ≡ w s + total w (remove x l))
            → w t + total w l ≡ w s + total w (cond b l (t ∷ remove x l))
        go true q r = rw (head-eq_of_cons-eq q)
        go false q r = omega (arith, r q)

    pub same_total : (l₁ l₂ : List S) → ((x : ℕ) → those k x l₁ ≡ those k x l₂) → total w l₁ ≡ total w l₂
    unfolding total
    same_total [] [] h = refl
    same_total [] (t ∷ l) h = absurd (nil≢cons (h (k t) ∙ here t l))
      where
        here : (t : S) (l : List S) → those k (k t) (t ∷ l) ≡ t ∷ those k (k t) l
        here t l = rw (eq-eqb (k t) (k t) refl)
    same_total (s ∷ l) l₂ h =
        let q : those k (k s) l₂ ≡ s ∷ those k (k s) l = sym (h (k s)) ∙ rw (eq-eqb (k s) (k s) refl) in
        ap (λ (n : ℕ). w s + n) (same_total l (remove (k s) l₂) (λ x. go x (eqb (k s) x) refl (h x))) ∙ sym (total_remove (k s) l₂ s _ q)
      where
        go : (x : ℕ) (b : Bool) → eqb (k s) x ≡ b → cond b (s ∷ those k x l) (those k x l) ≡ those k x l₂ → those k x l ≡ those k x (remove (k s) l₂)
        go x true e d = ap (drop 1) d ∙ sym (subst (λ (y : ℕ). those k x (remove y l₂) ≡ drop 1 (those k x l₂)) (sym (eqb-true (k s) x e)) (remove_same x l₂))
        go x false e d = d ∙ sym (remove_other (k s) x l₂ (eqb-false (k s) x e))
