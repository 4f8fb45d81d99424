-- What a key's places in the two areas say: whether the map has it, and what a put of it leaves, in the area that has it and in the map.
use Prim.{Dec, yes, no}
use mathlib.Core.Path.{◌≡◌, refl, sym, ap, ◌∙◌, subst}
use mathlib.Core.Bool.{cond, false≢true}
use mathlib.Core.Logic.{◌⊎◌, inl, inr}
use mathlib.Core.Option.{Option, none, some, none-ne-some}
use Prim.Native.Nat.{ℕ, suc}
use native.Mathlib.Omega.{arith}
use lib.Dec.{ltb}
use lib.ListN.{length, get_or, set}
use Rattle.std.specs.Prelude.{Result, Ok, Err, is_err}
use Rattle.field_slices.specs.Places.{place_in}
use Rattle.gapped_slices.specs.Areas.{stand_of}
use Rattle.gapped_slices.specs.declared.areas.Area.{Area}
use Rattle.model.specs.Map.{Map, find, is_none, put, Ascending}
use Rattle.model.proofs.MapLaws.{find_put, find_put_other, length_put, ascending_put, same_map}
use Rattle.building.specs.declared.stores.Store.{Store}
use Rattle.building.specs.Parted.{either_of}
use Rattle.building.specs.Stores.{place_of, Kept, Apart, keys_of, sought_by}
use Rattle.building.proofs.MapPlaces.{past, there, new}
use Rattle.building.proofs.PartedLaws.{same_key, parted_turned, parted_put}

module _ {W : Type 0} (k : ℕ) (f : Option W → W) where
  -- ---- a put that leaves what is there, and one of what is not
  put_by : (g : Option W → W) (m n : Map W) → Ascending m → Ascending n → find k n ≡ some (g (find k m)) → ((j : ℕ) → (j ≡ k → ⊥) → find j n ≡ find j m) → put k g m ≡ n
  put_by g m n a b here other =
      same_map 0 (put k g m) n (ascending_put k g 0 m (omega arith) a) b (λ j. go j (same_key j k))
    where
      go : (j : ℕ) → Dec (j ≡ k) → find j (put k g m) ≡ find j n
      go j (yes e) = ap (λ (x : ℕ). find x (put k g m)) e ∙ find_put k g m ∙ sym here ∙ ap (λ (x : ℕ). find x n) (sym e)
      go j (no e) = find_put_other k g j m e ∙ sym (other j e)

  pub put_stays : (m : Map W) (v : W) → Ascending m → find k m ≡ some v → f (some v) ≡ v → put k f m ≡ m
  put_stays m v a e q = put_by f m m a a (e ∙ ap some (sym q) ∙ ap (λ (o : Option W). some (f o)) (sym e)) (λ j n. refl)

  pub put_first : (m : Map W) → Ascending m → find k m ≡ none → put k f m ≡ put k (λ o. f none) m
  put_first m a e =
      put_by f m (put k (λ o. f none) m) a (ascending_put k (λ o. f none) 0 m (omega arith) a)
      (find_put k (λ o. f none) m ∙ ap (λ (o : Option W). some (f o)) (sym e)) (λ j n. find_put_other k (λ o. f none) j m n)

  -- ---- by the places in both areas
  module _ (In : Area → Map W → Type 0) (room : ℕ) (s : Store) (m : Map W) (h : Apart In room s m) where
    abbrev in_first : Result ℕ ℕ
    in_first = place_in ltb k (keys_of h.first)

    abbrev in_second : Result ℕ ℕ
    in_second = place_in ltb k (keys_of h.second)

    found_first : (i : ℕ) → Ok i ≡ in_first → find k m ≡ some (get_or h.first i (past k f h.first)).value
    found_first i e = h.parted.both k ∙ ap (λ (o : Option W). either_of o (find k h.second)) (there k f h.first i e).found

    found_second : (i j : ℕ) → Err i ≡ in_first → Ok j ≡ in_second → find k m ≡ some (get_or h.second j (past k f h.second)).value
    found_second i j e g = h.parted.both k ∙ (λ x. either_of ((new k f h.first i e).found x) ((there k f h.second j g).found x))

    found_none : (i j : ℕ) → Err i ≡ in_first → Err j ≡ in_second → find k m ≡ none
    found_none i j e g = h.parted.both k ∙ (λ x. either_of ((new k f h.first i e).found x) ((new k f h.second j g).found x))

    pub new_says : is_err (sought_by s in_first in_second) ≡ is_none (find k m)
    new_says = go in_first in_second refl refl
      where
        go : (p q : Result ℕ ℕ) → p ≡ in_first → q ≡ in_second → is_err (sought_by s p q) ≡ is_none (find k m)
        go (Ok i) q e g = sym (ap is_none (found_first i e))
        go (Err i) (Ok j) e g = sym (ap is_none (found_second i j e g))
        go (Err i) (Err j) e g = sym (ap is_none (found_none i j e g))

    -- what stands somewhere is not new
    apart : {A : Type 0} {i j : ℕ} → ◌≡◌ {A = Result ℕ ℕ} (Ok i) (Err j) → A
    apart w = absurd (false≢true (ap (λ (r : Result ℕ ℕ). is_err r) w))

    -- a key that is new, and its index in main
    pub new_place : (at : ℕ) → Err at ≡ sought_by s in_first in_second → (find k m ≡ none) × (Err at ≡ in_first)
    new_place at e = go in_first in_second refl refl e
      where
        go : (p q : Result ℕ ℕ) → p ≡ in_first → q ≡ in_second → Err at ≡ sought_by s p q → (find k m ≡ none) × (Err at ≡ p)
        go (Ok i) q e g w = apart (sym w)
        go (Err i) (Ok j) e g w = apart (sym w)
        go (Err i) (Err j) e g w = (found_none i j e g, w)

    -- a key that was met
    pub met_value : (at : ℕ) → Ok at ≡ sought_by s in_first in_second → (v : W) × (find k m ≡ some v)
    met_value at e = go in_first in_second refl refl e
      where
        go : (p q : Result ℕ ℕ) → p ≡ in_first → q ≡ in_second → Ok at ≡ sought_by s p q → (v : W) × (find k m ≡ some v)
        go (Ok i) q e g w = (_, found_first i e)
        go (Err i) (Ok j) e g w = (_, found_second i j e g)
        go (Err i) (Err j) e g w = apart w

    -- ---- its entry replaced in the area that has it
    module _ (In' : Area → Map W → Type 0) where
      kept_as : (a : Area) (p : Map W) → Kept In a p → (i : ℕ) → Ok i ≡ place_in ltb k (keys_of p) → In' a (set p i (record { key = k; value = f (some (get_or p i (past k f p)).value) })) → Kept In' a (put k f p)
      kept_as a p kept i e fields =
          let t = there k f p i e in
          record {
            many = kept.many ∙ sym (length_put k f p ∙ ap (λ (o : Option W). cond (is_none o) (suc (length p)) (length p)) t.found);
            ascending = ascending_put k f 0 p (omega arith) kept.ascending;
            fields = subst (In' a) (sym (t.puts f)) fields;
          }

      pub replaced_main : (i : ℕ) → Ok i ≡ in_first → In' s.main (set h.first i (record { key = k; value = f (some (get_or h.first i (past k f h.first)).value) })) → In' s.pocket h.second
          → Apart In' room s (put k f m)
      replaced_main i e fields stays = record {
        lays = h.lays;
        first = put k f h.first;
        second = h.second;
        main = kept_as s.main h.first h.main i e fields;
        pocket = record { many = h.pocket.many; ascending = h.pocket.ascending; fields = stays };
        ascending = ascending_put k f 0 m (omega arith) h.ascending;
        parted = parted_put k f h.first h.second m h.parted (other (h.parted.apart k));
      }
        where
          other : (find k h.first ≡ none) ⊎ (find k h.second ≡ none) → find k h.second ≡ none
          other (inl g) = absurd (none-ne-some _ (sym g ∙ (there k f h.first i e).found))
          other (inr g) = g

      pub replaced_pocket : (i j : ℕ) → Err i ≡ in_first → Ok j ≡ in_second → In' s.pocket (set h.second j (record { key = k; value = f (some (get_or h.second j (past k f h.second)).value) }))
          → In' s.main h.first → Apart In' room s (put k f m)
      replaced_pocket i j e g fields stays = record {
        lays = h.lays;
        first = h.first;
        second = put k f h.second;
        main = record { many = h.main.many; ascending = h.main.ascending; fields = stays };
        pocket = kept_as s.pocket h.second h.pocket j g fields;
        ascending = ascending_put k f 0 m (omega arith) h.ascending;
        parted = parted_turned (parted_put k f h.second h.first m (parted_turned h.parted) (new k f h.first i e).found);
      }

    -- which of the two areas has it, and where
    abbrev pub Stands : ℕ → Result ℕ ℕ → Result ℕ ℕ → Type 0
    Stands at p q = ((i : ℕ) × (Ok i ≡ p) × (at ≡ stand_of s.main i)) ⊎ ((i : ℕ) × (j : ℕ) × (Err i ≡ p) × (Ok j ≡ q) × (at ≡ stand_of s.pocket j))

    pub met_place : (at : ℕ) → Ok at ≡ sought_by s in_first in_second → Stands at in_first in_second
    met_place at e = go in_first in_second e
      where
        go : (p q : Result ℕ ℕ) → Ok at ≡ sought_by s p q → Stands at p q
        go (Ok i) q w = inl (i, refl, ap place_of w)
        go (Err i) (Ok j) w = inr (i, j, refl, refl, ap place_of w)
        go (Err i) (Err j) w = apart w
