-- The place of a key among the keys of a map says what is found there and what a put leaves: the entries before it are below.
use Prim.{tt}
use mathlib.Core.Path.{◌≡◌, sym, ap, ◌∙◌, subst}
use mathlib.Core.Bool.{true}
use mathlib.Core.List.{List, [], ◌∷◌, map}
use mathlib.Core.Option.{Option, none, some, none-ne-some}
use Prim.Native.Nat.{ℕ, suc, ◌≤◌, ◌<◌}
use lib.Dec.{ltb}
use lib.ListN.{length, take, get_or, set, length-map, get_or-map}
use lib.Seq.{set-get_or}
use borrow.Author.Tests.{lt-ltb, ltb-true}
use Rattle.std.specs.Prelude.{Result, Ok, Err}
use Rattle.gapped_slices.specs.Spots.{Spotted}
use Rattle.field_slices.specs.Insertion.{ins}
use Rattle.field_slices.specs.Places.{Ascending, place_in}
use Rattle.field_slices.proofs.OrderLaws.{numbers}
use Rattle.field_slices.proofs.PlaceLaws.{Says, place_says}
use Rattle.field_slices.proofs.MapLaws.{map_ins, map_set}
use Rattle.model.specs.Map.{Entry, Map, find, put, AscendingFrom}
use Rattle.model.proofs.PutByIndex as index
use Rattle.building.specs.Holds.{Field}
use Rattle.building.specs.Stores.{place_of}

module _ {W : Type 0} where
  abbrev pub keys : Map W → List ℕ
  keys m = map (λ (e : Entry W). e.key) m

  pub keys_ascend : (b : ℕ) (m : Map W) → AscendingFrom b m → Ascending ltb (keys m)
  unfolding Ascending
  keys_ascend b [] a = tt
  keys_ascend b (e ∷ []) a = (tt, tt)
  keys_ascend b (e ∷ (g ∷ m)) a = (lt-ltb e.key g.key a.1.0, keys_ascend (suc e.key) (g ∷ m) a.1)

  module _ (k : ℕ) (f : Option W → W) (m : Map W) where
    -- what is read past the end
    abbrev pub past : Entry W
    past = record { key = 0; value = f none }

    pub record There (i : ℕ) : Type 0 where
      pub inside : i < length m
      pub key : (get_or m i past).key ≡ k
      pub found : find k m ≡ some (get_or m i past).value
      pub puts : (g : Option W → W) → put k g m ≡ set m i (record { key = k; value = g (some (get_or m i past).value) })
      pub stays : set m i (record { key = k; value = (get_or m i past).value }) ≡ m

    pub record New (i : ℕ) : Type 0 where
      pub inside : i ≤ length m
      pub found : find k m ≡ none
      pub puts : put k f m ≡ ins i (record { key = k; value = f none }) m

    key_at : (j : ℕ) → get_or (keys m) j 0 ≡ (get_or m j past).key
    key_at j = get_or-map (λ (e : Entry W). e.key) m j past

    said : (p : Result ℕ ℕ) → p ≡ place_in ltb k (keys m) → Says numbers 0 k (keys m) p
    said p e = subst (Says numbers 0 k (keys m)) (sym e) (place_says numbers 0 k (keys m))

    less : (i : ℕ) → ((j : ℕ) → j < i → ltb (get_or (keys m) j 0) k ≡ true) → (j : ℕ) → j < i → (get_or m j past).key < k
    less i b j h = ltb-true (get_or m j past).key k (ap (λ (x : ℕ). ltb x k) (sym (key_at j)) ∙ b j h)

    pub there : (i : ℕ) → Ok i ≡ place_in ltb k (keys m) → There i
    there i e =
        let w = said (Ok i) e in
        let h : i < length m = subst (λ (n : ℕ). i < n) (length-map m (λ (e : Entry W). e.key)) w.0 in
        let q : (get_or m i past).key ≡ k = sym (key_at i) ∙ w.1.1 in
        record {
          inside = h;
          key = q;
          found = (index.put_again past k f m i (less i w.1.0) h (sym q)).0;
          puts = λ g. (index.put_again past k g m i (less i w.1.0) h (sym q)).1;
          stays = ap (λ (x : Entry W). set m i x) (λ j. record { key = sym q j; value = (get_or m i past).value }) ∙ set-get_or m i past;
        }

    pub new : (i : ℕ) → Err i ≡ place_in ltb k (keys m) → New i
    new i e =
        let w = said (Err i) e in
        let long = length-map m (λ (e : Entry W). e.key) in
        let h : i ≤ length m = subst (λ (n : ℕ). i ≤ n) long w.0 in
        let q = index.put_new past k f m i (less i w.1.0) h
        (λ v. ltb-true k (get_or m i past).key (ap (ltb k) (sym (key_at i)) ∙ w.1.1 (subst (λ (n : ℕ). i < n) (sym long) v))) in
        record { inside = h; found = q.0; puts = q.1 }

  -- ---- a field of the entries, and of those afterwards
  module _ {A : Type 0} (field : Entry W → A) (l l' : List A) (n n' i : ℕ) (x : Entry W) (m : Map W) (e : Field field l n m) where
    pub field_ins : take n' l' ≡ ins i (field x) (take n l) → Field field l' n' (ins i x m)
    field_ins q = q ∙ ap (ins i (field x)) e ∙ sym (map_ins field i x m)

    pub field_set : take n' l' ≡ set (take n l) i (field x) → Field field l' n' (set m i x)
    field_set q = q ∙ ap (λ (t : List A). set t i (field x)) e ∙ sym (map_set field m i x)

  -- ---- a place that was looked for, of a key that is not there
  pub before_place : (k : ℕ) (w : W) (m : Map W) (s : Result ℕ ℕ) → find k m ≡ none → s ≡ place_in ltb k (keys m) → Err (place_of s) ≡ place_in ltb k (keys m)
  before_place k w m (Ok i) absent e = absurd (none-ne-some _ (sym absent ∙ (there k (λ o. w) m i e).found))
  before_place k w m (Err i) absent e = e

  -- by a look among the keys of a map
  pub looked_new : (k : ℕ) (w : W) (m : Map W) (l : List ℕ) (s : Result ℕ ℕ) → l ≡ keys m → AscendingFrom 0 m → Spotted ltb l k s → find k m ≡ none → Err (place_of s) ≡ place_in ltb k (keys m)
  looked_new k w m l s e a f absent =
      before_place k w m s absent (f.place (subst (Ascending ltb) (sym e) (keys_ascend 0 m a)) ∙ ap (λ (x : List ℕ). place_in ltb k x) e)
