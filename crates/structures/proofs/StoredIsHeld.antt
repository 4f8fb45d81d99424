-- The names of a chain list stand in an array of 4,096, as many as fit. A model has no room for more chains, so the room is the same there; and what is
-- stored into the list are the model's names, with zeros after them, also past the array's end.
use mathlib.Core.Path.{◌≡◌, refl, sym, ap, ◌∙◌}
use mathlib.Core.List.{List, [], ◌∷◌, ◌++◌, map, append_assoc, append-nil}
use Prim.Native.Nat.{ℕ, zero, suc, ◌+◌, ◌-◌, min, ◌≤◌}
use native.Mathlib.Nat.{not-suc-le-zero, le_of_suc-le-suc, sub-zero, suc-sub-suc, zero-min, le_refl}
use native.Mathlib.Omega.{arith}
use lib.ListN.{length, take, drop, replicate, length-append, length-take, length-map, replicate-append-replicate}
use lib.Seq.{drop-length}
use Rattle.model.specs.Lent.{Lent, room_of, padded, holding}
use Rattle.model.specs.Records.{Model}
use Rattle.chains.specs.declared.chain.Chain.{Chain}
use Rattle.chains.specs.Names.{names_in, chain_of, first_of, named}
use Rattle.structures.proofs.WithChains.{with_chains, same_room}

-- ---- the first of a list that goes on with zeros
module _ {A : Type 0} (z : A) where
  take_replicate : (n k : ℕ) → n ≤ k → take n (replicate k z) ≡ replicate n z
  take_replicate zero k h = refl
  take_replicate (suc n) zero h = absurd (not-suc-le-zero h)
  take_replicate (suc n) (suc k) h = ap (λ (l : List A). z ∷ l) (take_replicate n k (le_of_suc-le-suc h))

  take_padded : (n k : ℕ) (l : List A) → n ≤ k → take n (l ++ replicate k z) ≡ padded z n (take n l)
  unfolding padded
  take_padded zero k l h = refl
  take_padded (suc n) k [] h = take_replicate (suc n) k h ∙ ap (λ (i : ℕ). replicate i z) (sym (sub-zero (suc n)))
  take_padded (suc n) k (x ∷ l) h =
      ap (λ (m : List A). x ∷ m) (take_padded n k l (omega arith)) ∙ ap (λ (i : ℕ). x ∷ (take n l ++ replicate i z)) (sym (suc-sub-suc n (length (take n l))))

  length_padded : (k : ℕ) (m : List A) → length (padded z k m) ≡ k → length m ≤ k
  unfolding padded
  length_padded k m e = let h = sym (length-append m (replicate (k - length m) z)) ∙ e in omega arith

  padded_twice : (n k : ℕ) (m : List A) → length (padded z k m) ≡ k → k ≤ n → padded z n (padded z k m) ≡ padded z n m
  unfolding padded
  padded_twice n k m e h =
      let g = length_padded k m e in
      let rest : k - length m + (n - k) ≡ n - length m = omega arith in
      ap (λ (i : ℕ). m ++ replicate (k - length m) z ++ replicate (n - i) z) e
      ∙ append_assoc m (replicate (k - length m) z) (replicate (n - k) z)
      ∙ ap (λ (l : List A). m ++ l) (replicate-append-replicate (k - length m) (n - k) z)
      ∙ ap (λ (i : ℕ). m ++ replicate i z) rest

-- where the array has a list and zeros after it, so has the chain list
first_held : (n : ℕ) (names₀ names₁ m : List ℕ) → length names₀ ≡ length names₁ → take n names₁ ≡ padded 0 (length (take n names₀)) m → first_of n names₁ ≡ padded 0 n m
unfolding first_of
first_held n names₀ names₁ m same e =
    let k = length (take n names₀) in
    let long : length (padded 0 k m) ≡ k = ap length (sym e) ∙ length-take n names₁ ∙ ap (min n) (sym same) ∙ sym (length-take n names₀) in
    take_padded 0 n n names₁ (le_refl n) ∙ ap (padded 0 n) e ∙ padded_twice 0 n k m long (omega (arith, length-take n names₀))

-- ---- the names in the records that are stored
names_of : (l : List ℕ) (rest : List Chain) → names_in (map chain_of l ++ rest) ≡ l ++ names_in rest
names_of [] rest = refl
names_of (x ∷ l) rest = ap (λ (m : List ℕ). x ∷ m) (names_of l rest)

names_stored_lem : (ys : List Chain) (names : List ℕ) → names_in (named ys names (length ys)) ≡ first_of (length ys) names
unfolding named
names_stored_lem ys names =
    let n = length ys in
    names_of (first_of (min n n) names) (drop n ys)
    ∙ ap (λ (l : List Chain). first_of (min n n) names ++ names_in l) (drop-length ys)
    ∙ append-nil (first_of (min n n) names)
    ∙ ap (λ (k : ℕ). first_of k names) (omega arith)

pub none_stored : (ys : List Chain) (names : List ℕ) → named ys names 0 ≡ ys
unfolding named first_of
none_stored ys names = ap (λ (n : ℕ). map chain_of (first_of n names) ++ ys) (zero-min (length ys))

-- ---- the room, and the model
pub room_stored : (ys : List Chain) (names : List ℕ) (l : Lent) → length names ≡ 4096 → room_of (with_chains l (take (length ys) names)) ≡ room_of (with_chains l (names_in ys))
room_stored ys names l long = same_room l (take (length ys) names) (names_in ys) (simp (length-take, length-map) (omega arith))

pub holding_stored : (ys : List Chain) (names₀ names₁ : List ℕ) (l l' : Lent) → length names₀ ≡ 4096 → length names₁ ≡ 4096
    → (m : Model) → with_chains l' (take (length ys) names₁) ≡ holding (with_chains l (take (length ys) names₀)) m
    → with_chains l' (names_in (named ys names₁ (length ys))) ≡ holding (with_chains l (names_in ys)) m
unfolding holding
holding_stored ys names₀ names₁ l l' long₀ long₁ m e =
    let chains =
    names_stored_lem ys names₁
    ∙ first_held (length ys) names₀ names₁ m.chains (long₀ ∙ sym long₁) (ap (λ (x : Lent). x.chains) e)
    ∙ ap (λ (n : ℕ). padded 0 n m.chains) (sym (length-map ys (λ c. c.name)))
    in
    λ i. record {
      chains = chains i;
      residue_keys = (e i).residue_keys;
      residue_names = (e i).residue_names;
      residue_codes = (e i).residue_codes;
      residue_categories = (e i).residue_categories;
      residue_positions = (e i).residue_positions;
      atom_keys = (e i).atom_keys;
      atom_names = (e i).atom_names;
      elements = (e i).elements;
      positions = (e i).positions;
      occupancies = (e i).occupancies;
    }
