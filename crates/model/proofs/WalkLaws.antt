-- A walk over keys that do not fall: to go past the lesser ones of a key and then of a greater one is to go past those of the greater one at once;
-- and those of a key stand side by side, so that the next one tells whether there is one alone.
use Prim.{Unit, tt}
use mathlib.Core.Path.{◌≡◌, refl, sym, ap, ◌∙◌, subst}
use mathlib.Core.Bool.{Bool, true, false, not, cond, ◌||◌, false≢true}
use mathlib.Core.List.{List, [], ◌∷◌, map, map-map}
use Prim.Native.Nat.{ℕ, suc, ◌+◌, ◌^◌, ◌≤◌, ◌<◌, compare, Ordering}
use native.Mathlib.Omega.{arith}
use lib.Dec.{eqb, ltb}
use lib.ListN.{length, length-map, drop}
use borrow.Author.Tests.{ltb-true, lt-ltb, le-ltb, eq-eqb, ne_eqb}
use Rattle.numbers.proofs.Comparing.{Compared, compared}
use Rattle.names.specs.Places.{ascends}
use Rattle.model.specs.Classes.{is_lone}
use Rattle.model.specs.Finished.{key_part, atom_record}
use Rattle.model.specs.Fold.{Atom}
use Rattle.model.specs.Keys.{atom_place}
use Rattle.model.specs.Lists.{filter, any, All}
use Rattle.model.specs.Map.{Map, Ascending}
use Rattle.model.specs.Records.{AtomRecord}
use Rattle.model.specs.Neighbours.{lessers, alone_in}
use Rattle.model.proofs.AscendingLaws.{ascends_all, map_ascends}
use Rattle.model.proofs.ListLaws.{all_of, any_none, any_map, filter_map}

-- ---- past the lesser ones
pub lessers_onward : (k k' : ℕ) (l : List ℕ) → k ≤ k' → lessers k' l ≡ lessers k l + lessers k' (drop (lessers k l) l)
unfolding lessers
lessers_onward k k' [] h = refl
lessers_onward k k' (a ∷ l) h = go (ltb a k) refl (lessers_onward k k' l h)
  where
    go : (b : Bool) → ltb a k ≡ b → lessers k' l ≡ lessers k l + lessers k' (drop (lessers k l) l)
        → lessers k' (a ∷ l) ≡ cond b (suc (lessers k l)) 0 + lessers k' (drop (cond b (suc (lessers k l)) 0) (a ∷ l))
    go true e r = rw (lt-ltb a k' (omega (arith, ltb-true a k e))) (omega arith)
    go false e r = omega arith

-- ---- keys that do not fall

-- each is at least the one before it, and the first at least b
abbrev pub RisingFrom : ℕ → List ℕ → Type 0
RisingFrom b [] = Unit {0}
RisingFrom b (k ∷ l) = (b ≤ k) × RisingFrom k l

abbrev pub Rising : List ℕ → Type 0
Rising l = RisingFrom 0 l

-- where one number ascends, another one that never falls as it grows rises
module _ {S : Type 0} (P : S → Type 0) (place k : S → ℕ) (keeps : (s t : S) → P t → place s < place t → k s ≤ k t) where
  rising_after : (s : S) (l : List S) → All P l → ascends (map place (s ∷ l)) ≡ true → RisingFrom (k s) (map k l)
  rising_after s [] p a = tt
  rising_after s (t ∷ l) p a = let b = ascends_all place s (t ∷ l) a in (keeps s t p.0 b.0.0, rising_after t l p.1 b.1)

  pub rising_by : (l : List S) → All P l → ascends (map place l) ≡ true → Rising (map k l)
  rising_by [] p a = tt
  rising_by (s ∷ l) p a = (omega arith, rising_after s l p.1 a)

-- ---- one alone
module _ (k : ℕ) where
  none_above : (b : ℕ) (l : List ℕ) → k < b → RisingFrom b l → All (λ a. eqb a k ≡ false) l
  none_above b [] h r = tt
  none_above b (a ∷ l) h r = (ne_eqb a k (λ e. omega (arith, r.0)), none_above a l (omega (arith, r.0)) r.1)

  no_more : (l : List ℕ) → All (λ a. eqb a k ≡ false) l → filter (λ a. eqb a k) l ≡ []
  no_more [] a = refl
  no_more (x ∷ l) a = rw a.0 (no_more l a.1)

  here : (x : ℕ) (l : List ℕ) → x ≡ k → RisingFrom x l → alone_in k (x ∷ l) ≡ eqb (suc (length (filter (λ a. eqb a k) l))) 1
  unfolding alone_in
  here x [] e r = refl
  here x (y ∷ l) e r = go (compare k y) (compared k y)
    where
      go : (o : Ordering) → Compared o k y → not (eqb y k) ≡ eqb (suc (length (filter (λ a. eqb a k) (y ∷ l)))) 1
      go Ordering.lt h = rw (ne_eqb y k (λ d. omega arith), no_more l (none_above y l h r.1))
      go Ordering.eq h = rw (eq-eqb y k (sym h)) (sym (ne_eqb (suc (suc (length (filter (λ a. eqb a k) l)))) 1 (λ d. omega arith)))
      go Ordering.gt h = absurd (omega (arith, r.0))

  alone_from : (b : ℕ) (l : List ℕ) → RisingFrom b l → any (λ a. eqb a k) l ≡ true
      → alone_in k (drop (lessers k l) l) ≡ eqb (length (filter (λ a. eqb a k) l)) 1
  unfolding lessers
  alone_from b [] r s = absurd (false≢true s)
  alone_from b (x ∷ l) r s = go (compare x k) (compared x k) (alone_from x l r.1) s
    where
      go : (o : Ordering) → Compared o x k → (any (λ a. eqb a k) l ≡ true → alone_in k (drop (lessers k l) l) ≡ eqb (length (filter (λ a. eqb a k) l)) 1)
          → (eqb x k || any (λ a. eqb a k) l) ≡ true → alone_in k (drop (lessers k (x ∷ l)) (x ∷ l)) ≡ eqb (length (filter (λ a. eqb a k) (x ∷ l))) 1
      go Ordering.lt h f t =
          let n : eqb x k ≡ false = ne_eqb x k (λ e. omega arith) in
          rw (lt-ltb x k h, n) (f (rw n at t))
      go Ordering.eq h f t = rw (le-ltb x k (omega arith), eq-eqb x k h) (here x l h r.1)
      go Ordering.gt h f t = absurd (false≢true (sym (any_none (λ a. eqb a k) (x ∷ l) (none_above x (x ∷ l) h (omega arith, r.1))) ∙ t))

pub alone_is : (k : ℕ) (ks : List ℕ) → Rising ks → any (λ a. eqb a k) ks ≡ true
    → alone_in k (drop (lessers k ks) ks) ≡ eqb (length (filter (λ a. eqb a k) ks)) 1
alone_is k ks r s = alone_from k 0 ks r s

-- ---- atoms, by the keys of their residues
pub lone_is : (k : ℕ) (atoms : List AtomRecord) → Rising (map (λ a. a.key) atoms) → any (λ a. eqb a.key k) atoms ≡ true
    → is_lone atoms k ≡ alone_in k (drop (lessers k (map (λ a. a.key) atoms)) (map (λ a. a.key) atoms))
unfolding is_lone
lone_is k atoms r s =
    ap (λ (n : ℕ). eqb n 1) (sym (ap length (filter_map (λ a. a.key) (λ x. eqb x k) atoms) ∙ length-map (filter (λ a. eqb a.key k) atoms) (λ a. a.key)))
    ∙ sym (alone_is k (map (λ a. a.key) atoms) r (any_map (λ a. a.key) (λ x. eqb x k) atoms ∙ s))

-- their keys do not fall where their places ascend: in a map, and in records with names of at most 8 bytes
pub keys_of_entries : (m : Map Atom) → Ascending m → Rising (map (λ a. a.key) (map atom_record m))
keys_of_entries m a =
    subst Rising (sym (map-map (λ b. b.key) atom_record m))
    (rising_by (λ e. Unit) (λ e. e.key) (λ e. key_part e.key) (λ e f h l. omega arith) m (all_of (λ e. Unit) m (λ e d. tt)) (map_ascends m a))

pub keys_of_records : (atoms : List AtomRecord) → All (λ a. a.name < 2 ^ 64) atoms → ascends (map (λ a. atom_place a.key a.name) atoms) ≡ true → Rising (map (λ a. a.key) atoms)
keys_of_records atoms n a = rising_by (λ b. b.name < 2 ^ 64) (λ b. atom_place b.key b.name) (λ b. b.key) (λ b c h l. omega arith) atoms n a
