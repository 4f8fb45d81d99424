-- Tests, filters and members of lists.
use Prim.{tt}
use mathlib.Core.Path.{◌≡◌, refl, sym, ap, ◌∙◌, subst}
use mathlib.Core.Bool.{Bool, true, false, cond, ◌||◌, false≢true, or-true, or_assoc}
use mathlib.Core.Logic.{◌⊎◌, inl, inr}
use mathlib.Core.List.Memᴰ
use mathlib.Core.List.{List, [], ◌∷◌, ◌++◌, map, Memᴰ}
use Rattle.model.specs.Lists.{filter, any, All}
-- those of two tests together, for all that cite this file
pub use Rattle.ascii.proofs.TestLaws.{both, left_of, right_of}

-- ---- tests
pub same_test : (a b : Bool) → (a ≡ true → b ≡ true) → (b ≡ true → a ≡ true) → a ≡ b
same_test true b f g = sym (f refl)
same_test false true f g = g refl
same_test false false f g = refl

module _ {S : Type 0} where
  -- ---- what holds of all
  pub all_at : (P : S → Type 0) (l : List S) (s : S) → All P l → Memᴰ s l → P s
  all_at P [] s a d = absurd (Memᴰ.not-nil d)
  all_at P (t ∷ l) s a d = go (all_at P l s a.1) (Memᴰ.cases_cons d)
    where
      go : (Memᴰ s l → P s) → (s ≡ t) ⊎ Memᴰ s l → P s
      go r (inl e) = subst P (sym e) a.0
      go r (inr m) = r m

  pub all_of : (P : S → Type 0) (l : List S) → ((s : S) → Memᴰ s l → P s) → All P l
  all_of P [] h = tt
  all_of P (s ∷ l) h = (h s (Memᴰ.head refl), all_of P l (λ t m. h t (Memᴰ.tail m)))

  pub all_map : (P Q : S → Type 0) → ((s : S) → P s → Q s) → (l : List S) → All P l → All Q l
  all_map P Q f [] a = tt
  all_map P Q f (s ∷ l) a = (f s a.0, all_map P Q f l a.1)

  pub all_both : (P Q : S → Type 0) (l : List S) → All P l → All Q l → All (λ (s : S). P s × Q s) l
  all_both P Q [] a b = tt
  all_both P Q (s ∷ l) a b = ((a.0, b.0), all_both P Q l a.1 b.1)

  pub all_append : (P : S → Type 0) (l m : List S) → All P l → All P m → All P (l ++ m)
  all_append P [] m a b = b
  all_append P (s ∷ l) m a b = (a.0, all_append P l m a.1 b)

  pub all_before : (P : S → Type 0) (l m : List S) → All P (l ++ m) → All P l
  all_before P [] m a = tt
  all_before P (s ∷ l) m a = (a.0, all_before P l m a.1)

  pub all_after : (P : S → Type 0) (l m : List S) → All P (l ++ m) → All P m
  all_after P [] m a = a
  all_after P (s ∷ l) m a = all_after P l m a.1

  -- ---- what holds of some
  pub any_at : (p : S → Bool) (l : List S) (s : S) → Memᴰ s l → p s ≡ true → any p l ≡ true
  any_at p [] s d e = absurd (Memᴰ.not-nil d)
  any_at p (t ∷ l) s d e = go (λ m. any_at p l s m e) (Memᴰ.cases_cons d)
    where
      go : (Memᴰ s l → any p l ≡ true) → (s ≡ t) ⊎ Memᴰ s l → (p t || any p l) ≡ true
      go r (inl q) = ap (λ (b : Bool). b || any p l) (ap p (sym q) ∙ e)
      go r (inr m) = ap (λ (b : Bool). p t || b) (r m) ∙ or-true (p t)

  pub any_none : (p : S → Bool) (l : List S) → All (λ (s : S). p s ≡ false) l → any p l ≡ false
  any_none p [] a = refl
  any_none p (s ∷ l) a = ap (λ (b : Bool). b || any p l) a.0 ∙ any_none p l a.1

  pub any_append : (p : S → Bool) (l m : List S) → any p (l ++ m) ≡ (any p l || any p m)
  any_append p [] m = refl
  any_append p (s ∷ l) m = ap (λ (b : Bool). p s || b) (any_append p l m) ∙ sym (or_assoc (p s) (any p l) (any p m))

  -- those that fail q fail p too
  pub any_filter : (p q : S → Bool) (l : List S) → All (λ (s : S). q s ≡ false → p s ≡ false) l → any p (filter q l) ≡ any p l
  any_filter p q [] a = refl
  any_filter p q (s ∷ l) a = go (q s) a.0 (any_filter p q l a.1)
    where
      go : (b : Bool) → (b ≡ false → p s ≡ false) → any p (filter q l) ≡ any p l → any p (cond b (s ∷ filter q l) (filter q l)) ≡ (p s || any p l)
      go true f r = ap (λ (b : Bool). p s || b) r
      go false f r = r ∙ ap (λ (b : Bool). b || any p l) (sym (f refl))

  -- ---- filters
  pub filter_append : (p : S → Bool) (l m : List S) → filter p (l ++ m) ≡ filter p l ++ filter p m
  filter_append p [] m = refl
  filter_append p (s ∷ l) m = go (p s) (filter_append p l m)
    where
      go : (b : Bool) → filter p (l ++ m) ≡ filter p l ++ filter p m → cond b (s ∷ filter p (l ++ m)) (filter p (l ++ m)) ≡ cond b (s ∷ filter p l) (filter p l) ++ filter p m
      go true e = ap (λ (r : List S). s ∷ r) e
      go false e = e

  pub filter_same : (P : S → Type 0) (p q : S → Bool) → ((s : S) → P s → p s ≡ q s) → (l : List S) → All P l → filter p l ≡ filter q l
  filter_same P p q h [] a = refl
  filter_same P p q h (s ∷ l) a =
      ap (λ (t : Bool). cond t (s ∷ filter p l) (filter p l)) (h s a.0)
      ∙ ap (λ (r : List S). cond (q s) (s ∷ r) r) (filter_same P p q h l a.1)

  pub filter_all : (P : S → Type 0) (p : S → Bool) (l : List S) → All P l → All (λ (s : S). P s × (p s ≡ true)) (filter p l)
  filter_all P p [] a = tt
  filter_all P p (s ∷ l) a = go (p s) refl (filter_all P p l a.1)
    where
      go : (b : Bool) → p s ≡ b → All (λ (t : S). P t × (p t ≡ true)) (filter p l) → All (λ (t : S). P t × (p t ≡ true)) (cond b (s ∷ filter p l) (filter p l))
      go true e r = ((a.0, e), r)
      go false e r = r

  -- ---- members
  pub mem_middle : (b : List S) (s : S) (a : List S) → Memᴰ s (b ++ s ∷ a)
  mem_middle [] s a = Memᴰ.head refl
  mem_middle (t ∷ b) s a = Memᴰ.tail (mem_middle b s a)

  pub mem_filter : (p : S → Bool) (l : List S) (s : S) → Memᴰ s l → p s ≡ true → Memᴰ s (filter p l)
  mem_filter p [] s d e = d
  mem_filter p (t ∷ l) s d e = go (λ m. mem_filter p l s m e) (p t) refl (Memᴰ.cases_cons d)
    where
      go : (Memᴰ s l → Memᴰ s (filter p l)) → (b : Bool) → p t ≡ b → (s ≡ t) ⊎ Memᴰ s l → Memᴰ s (cond b (t ∷ filter p l) (filter p l))
      go r true q (inl w) = Memᴰ.head w
      go r true q (inr m) = Memᴰ.tail (r m)
      go r false q (inl w) = absurd (false≢true (sym q ∙ ap p (sym w) ∙ e))
      go r false q (inr m) = r m

  pub filter_mem : (p : S → Bool) (l : List S) (s : S) → Memᴰ s (filter p l) → Memᴰ s l × (p s ≡ true)
  filter_mem p l s d = all_at (λ (t : S). Memᴰ t l × (p t ≡ true)) (filter p l) s (filter_all (λ (t : S). Memᴰ t l) p l (all_of (λ (t : S). Memᴰ t l) l (λ t m. m))) d

-- ---- what is made of each
module _ {S U : Type 0} (f : S → U) (p : U → Bool) where
  pub any_map : (l : List S) → any p (map f l) ≡ any (λ s. p (f s)) l
  any_map [] = refl
  any_map (s ∷ l) = ap (λ (b : Bool). p (f s) || b) (any_map l)

  pub filter_map : (l : List S) → filter p (map f l) ≡ map f (filter (λ s. p (f s)) l)
  filter_map [] = refl
  filter_map (s ∷ l) = go (p (f s)) (filter_map l)
    where
      go : (b : Bool) → filter p (map f l) ≡ map f (filter (λ s. p (f s)) l)
          → cond b (f s ∷ filter p (map f l)) (filter p (map f l)) ≡ map f (cond b (s ∷ filter (λ s. p (f s)) l) (filter (λ s. p (f s)) l))
      go true e = ap (λ (m : List U). f s ∷ m) e
      go false e = e
