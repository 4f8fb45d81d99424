-- What a place says, in any order: every entry before it is below c, and c is the entry there or comes before it.
use mathlib.Core.Path.{◌≡◌, refl}
use mathlib.Core.List.{List, [], ◌∷◌}
use mathlib.Core.Bool.{Bool, true, false, cond}
use Prim.Native.Nat.{ℕ, zero, suc, ◌≤◌, ◌<◌}
use native.Mathlib.Nat.{le_of_suc-le-suc, not-suc-le-zero}
use native.Mathlib.Omega.{arith}
use lib.ListN.{length, get_or}
use Rattle.std.specs.Prelude.{Result, Ok, Err}
use Rattle.field_slices.specs.Places.{Ascending, further, place_in, FirstBelow}
use Rattle.field_slices.proofs.OrderLaws.{Order, asymmetric}

-- an entry that is there is the same whatever stands for one that is not
pub get_d_any : {A : Type 0} (l : List A) (j : ℕ) (d e : A) → j < length l → get_or l j d ≡ get_or l j e
get_d_any [] j d e h = absurd (not-suc-le-zero h)
get_d_any (x ∷ l) zero d e h = refl
get_d_any (x ∷ l) (suc j) d e h = get_d_any l j d e (le_of_suc-le-suc h)

module _ {A : Type 0} {less : A → A → Bool} (o : Order less) (d : A) where
  -- ---- a list that ascends
  leads_all : (x : A) (l : List A) → Ascending less (x ∷ l) → (q : ℕ) → q < length l → less x (get_or l q d) ≡ true
  unfolding Ascending
  leads_all x [] s q h = absurd (not-suc-le-zero h)
  leads_all x (y ∷ l) s zero h = s.0
  leads_all x (y ∷ l) s (suc q) h = o.transitive x y (get_or l q d) s.0 (leads_all y l s.1 q (le_of_suc-le-suc h))

  pub ascending_at : (l : List A) → Ascending less l → (p q : ℕ) → p < q → q < length l → less (get_or l p d) (get_or l q d) ≡ true
  unfolding Ascending
  ascending_at [] s p q h k = absurd (not-suc-le-zero k)
  ascending_at (x ∷ l) s p zero h k = absurd (not-suc-le-zero h)
  ascending_at (x ∷ l) s zero (suc q) h k = leads_all x l s q (le_of_suc-le-suc k)
  ascending_at (x ∷ l) s (suc p) (suc q) h k = ascending_at l s.1 p q (le_of_suc-le-suc h) (le_of_suc-le-suc k)

  -- ---- the walk's answer

  -- the tail of a list whose first i + 1 entries are below c
  tail_below : (c x : A) (l : List A) (i : ℕ) → FirstBelow less d c (x ∷ l) (suc i) → FirstBelow less d c l i
  tail_below c x l i b j h = b (suc j) (omega arith)

  pub place_before : (c : A) (l : List A) (i : ℕ) → i ≤ length l → FirstBelow less d c l i → (i < length l → less c (get_or l i d) ≡ true) → place_in less c l ≡ Err i
  unfolding place_in
  place_before c [] zero h b a = refl
  place_before c [] (suc i) h b a = absurd (not-suc-le-zero h)
  place_before c (x ∷ l) zero h b a = let e : less c x ≡ true = a (omega arith) in rw (asymmetric o c x e, e)
  place_before c (x ∷ l) (suc i) h b a = rw (b 0 (omega arith), place_before c l i (le_of_suc-le-suc h) (tail_below c x l i b) (λ k. a (omega arith)))

  pub place_at : (c : A) (l : List A) (i : ℕ) → i < length l → FirstBelow less d c l i → get_or l i d ≡ c → place_in less c l ≡ Ok i
  unfolding place_in
  place_at c [] i h b e = absurd (not-suc-le-zero h)
  place_at c (x ∷ l) zero h b e = rw (e, o.irreflexive c)
  place_at c (x ∷ l) (suc i) h b e = rw (b 0 (omega arith), place_at c l i (le_of_suc-le-suc h) (tail_below c x l i b) e)

  -- what the answer says: `place_before` and `place_at` read the other way
  abbrev pub Says : A → List A → Result ℕ ℕ → Type 0
  Says c l (Ok i) = (i < length l) × (FirstBelow less d c l i × (get_or l i d ≡ c))
  Says c l (Err i) = (i ≤ length l) × (FirstBelow less d c l i × (i < length l → less c (get_or l i d) ≡ true))

  pub place_says : (c : A) (l : List A) → Says c l (place_in less c l)
  unfolding place_in
  place_says c [] = (omega arith, ((λ j h. absurd (not-suc-le-zero h)), λ h. absurd (not-suc-le-zero h)))
  place_says c (x ∷ l) = go (less x c) (less c x) refl refl (place_in less c l) (place_says c l)
    where
      next : {i : ℕ} → less x c ≡ true → FirstBelow less d c l i → FirstBelow less d c (x ∷ l) (suc i)
      next e b zero h = e
      next e b (suc j) h = b j (omega arith)

      go : (t u : Bool) → less x c ≡ t → less c x ≡ u → (r : Result ℕ ℕ) → Says c l r → Says c (x ∷ l) (cond t (further r) (cond u (Err 0) (Ok 0)))
      go true u e f (Ok i) s = (omega arith, (next e s.1.0, s.1.1))
      go true u e f (Err i) s = (omega arith, (next e s.1.0, λ h. s.1.1 (omega arith)))
      go false true e f r s = (omega arith, ((λ j h. absurd (not-suc-le-zero h)), λ h. f))
      go false false e f r s = (omega arith, ((λ j h. absurd (not-suc-le-zero h)), o.same x c e f))
