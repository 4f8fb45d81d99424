-- A map in two parts stays so when a value is put into the map and into the part that may have its key, and when an entry goes from one part to the other; and where the second
-- part is empty, the first is the map. Said once, of any type of value: all of it by what is found at each key.
use Prim.{Dec, yes, no}
use mathlib.Core.Path.{◌≡◌, refl, sym, ap, ◌∙◌}
use mathlib.Core.Bool.{Bool, true, false, cond}
use mathlib.Core.Logic.{◌⊎◌, inl, inr}
use mathlib.Core.List.{[], ◌∷◌}
use mathlib.Core.Option.{Option, none, some, none-ne-some}
use Prim.Native.Nat.{ℕ, suc, ◌+◌, compare, Ordering}
use native.Mathlib.Omega.{arith}
use lib.ListN.{length}
use Rattle.numbers.proofs.Comparing.{Compared, compared}
use Rattle.model.specs.Map.{Entry, Map, find, is_none, put, Ascending}
use Rattle.model.proofs.MapLaws.{choose_less, choose_same, choose_more, find_put, find_put_other, length_put, find_low, same_map}
use Rattle.building.specs.Parted.{either_of, Parted}

-- whether two keys are one
pub same_key : (j k : ℕ) → Dec (j ≡ k)
same_key j k = go (compare j k) (compared j k)
  where
    go : (o : Ordering) → Compared o j k → Dec (j ≡ k)
    go Ordering.lt h = no (λ e. omega (arith, h, e))
    go Ordering.eq h = yes h
    go Ordering.gt h = no (λ e. omega (arith, h, e))

module _ {W : Type 0} where
  either_none : (o : Option W) → either_of o none ≡ o
  either_none none = refl
  either_none (some w) = refl

  -- ---- the two parts the other way round
  pub parted_turned : {p q m : Map W} → Parted p q m → Parted q p m
  parted_turned {p} {q} {m} d = record {
    apart = λ k. turn (find k p) (find k q) (d.apart k);
    both = λ k. d.both k ∙ swap (find k p) (find k q) (d.apart k);
    many = omega (arith, d.many);
  }
    where
      turn : (a b : Option W) → (a ≡ none) ⊎ (b ≡ none) → (b ≡ none) ⊎ (a ≡ none)
      turn a b (inl e) = inr e
      turn a b (inr e) = inl e

      swap : (a b : Option W) → (a ≡ none) ⊎ (b ≡ none) → either_of a b ≡ either_of b a
      swap none b e = sym (either_none b)
      swap (some a) b (inl e) = absurd (none-ne-some _ (sym e))
      swap (some a) b (inr e) = ap (λ (o : Option W). either_of o (some a)) (sym e)

  -- ---- a value put into the first part, and so into the map
  module _ (k : ℕ) (f : Option W → W) (p q m : Map W) (d : Parted p q m) (none_there : find k q ≡ none) where
    here : find k m ≡ find k p
    here = d.both k ∙ ap (either_of (find k p)) none_there ∙ either_none (find k p)

    pub parted_put : Parted (put k f p) q (put k f m)
    parted_put = record {
      apart = λ j. apart_at j (same_key j k);
      both = λ j. both_at j (same_key j k);
      many = longer (is_none (find k m)) (is_none (find k p)) (ap is_none here) (length_put k f m) (length_put k f p);
    }
      where
        apart_at : (j : ℕ) → Dec (j ≡ k) → (find j (put k f p) ≡ none) ⊎ (find j q ≡ none)
        apart_at j (yes e) = inr (ap (λ (x : ℕ). find x q) e ∙ none_there)
        apart_at j (no e) = other (d.apart j)
          where
            other : (find j p ≡ none) ⊎ (find j q ≡ none) → (find j (put k f p) ≡ none) ⊎ (find j q ≡ none)
            other (inl h) = inl (find_put_other k f j p e ∙ h)
            other (inr h) = inr h

        both_at : (j : ℕ) → Dec (j ≡ k) → find j (put k f m) ≡ either_of (find j (put k f p)) (find j q)
        both_at j (yes e) =
            ap (λ (x : ℕ). find x (put k f m)) e
            ∙ find_put k f m
            ∙ ap (λ (o : Option W). some (f o)) here
            ∙ ap (λ (o : Option W). either_of o (find j q)) (sym (find_put k f p) ∙ ap (λ (x : ℕ). find x (put k f p)) (sym e))
        both_at j (no e) = find_put_other k f j m e ∙ d.both j ∙ ap (λ (o : Option W). either_of o (find j q)) (sym (find_put_other k f j p e))

        longer : (b c : Bool) → b ≡ c → length (put k f m) ≡ cond b (suc (length m)) (length m) → length (put k f p) ≡ cond c (suc (length p)) (length p)
            → length (put k f m) ≡ length (put k f p) + length q
        longer true true e g h = omega (arith, g, h, d.many)
        longer false false e g h = omega (arith, g, h, d.many)
        longer true false e g h = absurd (let z : ◌≡◌ {A = ℕ} 0 1 = cc in omega arith)
        longer false true e g h = absurd (let z : ◌≡◌ {A = ℕ} 0 1 = cc in omega arith)

  -- ---- the first entry of the second part goes over to the first
  module _ (e : Entry W) (p q m : Map W) (a : Ascending (e ∷ q)) (d : Parted p (e ∷ q) m) where
    abbrev moved : Map W
    moved = put e.key (λ o. e.value) p

    at_head : find e.key (e ∷ q) ≡ some e.value
    unfolding find
    at_head = choose_same e.key e.key _ _ _ refl

    past_head : (j : ℕ) → (j ≡ e.key → ⊥) → find j (e ∷ q) ≡ find j q
    unfolding find
    past_head j n = go (compare j e.key) (compared j e.key)
      where
        go : (o : Ordering) → Compared o j e.key → find j (e ∷ q) ≡ find j q
        go Ordering.lt h = choose_less j e.key _ _ _ h ∙ sym (find_low (suc e.key) j q a.1 (omega arith))
        go Ordering.eq h = absurd (n h)
        go Ordering.gt h = choose_more j e.key _ _ _ h

    -- the first part has no such key
    pub none_yet : find e.key p ≡ none
    none_yet = go (d.apart e.key)
      where
        go : (find e.key p ≡ none) ⊎ (find e.key (e ∷ q) ≡ none) → find e.key p ≡ none
        go (inl h) = h
        go (inr h) = absurd (none-ne-some _ (sym h ∙ at_head))

    pub parted_moved : Parted moved q m
    parted_moved = record {
      apart = λ j. apart_at j (same_key j e.key);
      both = λ j. both_at j (same_key j e.key);
      many = omega (arith, d.many, length_put e.key (λ o. e.value) p ∙ ap (λ (o : Option W). cond (is_none o) (suc (length p)) (length p)) none_yet);
    }
      where
        apart_at : (j : ℕ) → Dec (j ≡ e.key) → (find j moved ≡ none) ⊎ (find j q ≡ none)
        apart_at j (yes h) = inr (find_low (suc e.key) j q a.1 (omega arith))
        apart_at j (no h) = other (d.apart j)
          where
            other : (find j p ≡ none) ⊎ (find j (e ∷ q) ≡ none) → (find j moved ≡ none) ⊎ (find j q ≡ none)
            other (inl w) = inl (find_put_other e.key (λ o. e.value) j p h ∙ w)
            other (inr w) = inr (sym (past_head j h) ∙ w)

        both_at : (j : ℕ) → Dec (j ≡ e.key) → find j m ≡ either_of (find j moved) (find j q)
        both_at j (yes h) =
            ap (λ (x : ℕ). find x m) h
            ∙ d.both e.key
            ∙ (λ i. either_of (none_yet i) (at_head i))
            ∙ ap (λ (o : Option W). either_of o (find j q)) (sym (find_put e.key (λ o. e.value) p) ∙ ap (λ (x : ℕ). find x moved) (sym h))
        both_at j (no h) = d.both j ∙ (λ i. either_of (sym (find_put_other e.key (λ o. e.value) j p h) i) (past_head j h i))

  -- ---- one part alone
  pub parted_alone : (m : Map W) → Parted m [] m
  unfolding find
  parted_alone m = record { apart = λ k. inr refl; both = λ k. sym (either_none (find k m)); many = omega arith }

  pub parted_whole : (p m : Map W) → Ascending p → Ascending m → Parted p [] m → p ≡ m
  unfolding find
  parted_whole p m a b d = same_map 0 p m a b (λ k. sym (d.both k ∙ either_none (find k p)))

  -- ---- a key that the map does not have
  pub not_in_either : (k : ℕ) (p q m : Map W) → Parted p q m → find k m ≡ none → (find k p ≡ none) × (find k q ≡ none)
  not_in_either k p q m d e = go (find k p) (find k q) (sym (d.both k) ∙ e)
    where
      go : (a b : Option W) → either_of a b ≡ none → (a ≡ none) × (b ≡ none)
      go none b h = (refl, h)
      go (some w) b h = absurd (none-ne-some _ (sym h))
