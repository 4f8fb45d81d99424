-- A place in one of two lists, one behind the other, is one in both together where the first list ends before it, or does not.
use Prim.{Unit, tt, Dec, yes, no}
use mathlib.Core.Path.{◌≡◌, sym, ap, ◌∙◌, subst}
use mathlib.Core.List.{List, [], ◌∷◌, ◌++◌}
use mathlib.Core.Bool.{Bool, true}
use Prim.Native.Nat.{ℕ, ◌+◌, ◌-◌, ◌≤◌, ◌<◌}
use native.Mathlib.Decide.{dec_lt}
use native.Mathlib.Omega.{arith}
use lib.ListN.{length, get_or, length-append, get_or-append}
use lib.Seq.{get_or-append-add}
use Rattle.std.specs.Prelude.{Result, Ok, Err}
use Rattle.std.specs.List.Sorted.{IsSearchInRange}
use Rattle.field_slices.specs.Places.{Ascending, place_in, FirstBelow}
use Rattle.field_slices.proofs.OrderLaws.{Order}
use Rattle.field_slices.proofs.PlaceLaws.{place_before, place_at, Says, place_says}
use Rattle.gapped_slices.specs.Spots.{Spotted}

-- the entry is there, or goes before one of the first n
abbrev pub Early : ℕ → Result ℕ ℕ → Type 0
Early n (Ok i) = Unit {0}
Early n (Err i) = i < n

-- the same place, with n entries more before it
abbrev pub shifted : ℕ → Result ℕ ℕ → Result ℕ ℕ
shifted n (Ok j) = Ok (n + j)
shifted n (Err j) = Err (n + j)

-- ---- parts of a list that ascends
module _ {A : Type 0} (less : A → A → Bool) where
  ascending_first : (x y : List A) → Ascending less (x ++ y) → Ascending less x
  unfolding Ascending
  ascending_first [] y a = tt
  ascending_first (e ∷ []) y a = (tt, tt)
  ascending_first (e ∷ (g ∷ x)) y a = (a.0, ascending_first (g ∷ x) y a.1)

  ascending_second : (x y : List A) → Ascending less (x ++ y) → Ascending less y
  unfolding Ascending
  ascending_second [] y a = a
  ascending_second (e ∷ x) y a = ascending_second x y a.1

module _ {A : Type 0} {less : A → A → Bool} (o : Order less) (d c : A) where
  -- where the list ascends, the place says how its entries stand to c
  spot_says : {l : List A} (s : Result ℕ ℕ) → Spotted less l c s → Ascending less l → Says o d c l s
  spot_says {l} s f a = subst (Says o d c l) (sym (f.place a)) (place_says o d c l)

  -- ---- two lists, one behind the other
  module _ (x y : List A) where
    long : length (x ++ y) ≡ length x + length y
    long = length-append x y

    in_first : (i : ℕ) → i < length x → get_or (x ++ y) i d ≡ get_or x i d
    in_first i h = get_or-append x y d i h

    first_below : (i : ℕ) → i ≤ length x → FirstBelow less d c x i → FirstBelow less d c (x ++ y) i
    first_below i h b j k = ap (λ (z : A). less z c) (in_first j (omega arith)) ∙ b j k

    -- all of the first list, and some of the second
    both_below : (i : ℕ) → FirstBelow less d c x (length x) → FirstBelow less d c y i → FirstBelow less d c (x ++ y) (length x + i)
    both_below i a b j k = go (dec_lt j (length x))
      where
        go : Dec (j < length x) → less (get_or (x ++ y) j d) c ≡ true
        go (yes h) = ap (λ (z : A). less z c) (in_first j h) ∙ a j h
        go (no h) =
            let e : length x + (j - length x) ≡ j = omega arith in
            ap (λ (z : A). less z c) (ap (λ (m : ℕ). get_or (x ++ y) m d) (sym e) ∙ get_or-append-add x y (j - length x) d) ∙ b (j - length x) (omega arith)

    pub spot_in_first : (n : ℕ) → length x ≡ n → (s : Result ℕ ℕ) → Spotted less x c s → Early n s → Spotted less (x ++ y) c s
    spot_in_first n size s f h = record { inside = within s f.inside; place = λ a. go s (spot_says s f (ascending_first less x y a)) h }
      where
        within : (s : Result ℕ ℕ) → IsSearchInRange s (length x) → IsSearchInRange s (length (x ++ y))
        within (Ok i) k = omega (arith, k, long)
        within (Err i) k = omega (arith, k, long)

        go : (s : Result ℕ ℕ) → Says o d c x s → Early n s → s ≡ place_in less c (x ++ y)
        go (Ok i) w q = sym (place_at o d c (x ++ y) i (omega (arith, w.0, long)) (first_below i (omega (arith, w.0)) w.1.0) (in_first i w.0 ∙ w.1.1))
        go (Err i) w q =
            let k : i < length x = omega (arith, q) in
            sym (place_before o d c (x ++ y) i (omega (arith, long)) (first_below i (omega arith) w.1.0) (λ v. ap (less c) (in_first i k) ∙ w.1.1 k))

    in_second : (i : ℕ) → length x ≤ i → Spotted less x c (Err i) → (t : Result ℕ ℕ) → Spotted less y c t → Spotted less (x ++ y) c (shifted (length x) t)
    in_second i h f t g = record {
      inside = within t g.inside;
      place = λ a. go t (spot_says (Err i) f (ascending_first less x y a)) (spot_says t g (ascending_second less x y a));
    }
      where
        within : (t : Result ℕ ℕ) → IsSearchInRange t (length y) → IsSearchInRange (shifted (length x) t) (length (x ++ y))
        within (Ok j) k = omega (arith, k, long)
        within (Err j) k = omega (arith, k, long)

        go : (t : Result ℕ ℕ) → Says o d c x (Err i) → Says o d c y t → shifted (length x) t ≡ place_in less c (x ++ y)
        go (Ok j) w v =
            let all : FirstBelow less d c x (length x) = λ m k. w.1.0 m (omega (arith, h, k)) in
            sym (place_at o d c (x ++ y) (length x + j) (omega (arith, v.0, long)) (both_below j all v.1.0) (get_or-append-add x y j d ∙ v.1.1))
        go (Err j) w v =
            let all : FirstBelow less d c x (length x) = λ m k. w.1.0 m (omega (arith, h, k)) in
            sym
            (place_before o d c (x ++ y) (length x + j) (omega (arith, v.0, long)) (both_below j all v.1.0)
            (λ k. ap (less c) (get_or-append-add x y j d) ∙ v.1.1 (omega (arith, k, long))))

    pub spot_in_second : (n : ℕ) → length x ≡ n → (i : ℕ) → n ≤ i → Spotted less x c (Err i) → (t : Result ℕ ℕ) → Spotted less y c t → Spotted less (x ++ y) c (shifted n t)
    spot_in_second n e i h f t g = subst (λ (m : ℕ). Spotted less (x ++ y) c (shifted m t)) e (in_second i (omega (arith, h, e)) f t g)
