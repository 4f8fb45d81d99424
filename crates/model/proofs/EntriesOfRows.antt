-- A map into which rows are put has an entry for each thing that some row names, and no other: at a key there is what the rows of that key leave, and
-- these are the rows of one thing. Such a map is the only one of its kind.
use Prim.{tt}
use mathlib.Core.Path.{◌≡◌, refl, sym, ap, ◌∙◌, subst}
use mathlib.Core.Bool.{Bool, true}
use mathlib.Core.List.Memᴰ
use mathlib.Core.List.{List, [], ◌∷◌, Memᴰ}
use mathlib.Core.Option.{Option, none, some, none-ne-some}
use Prim.Native.Nat.{ℕ}
use lib.Dec.{eqb}
use borrow.Author.Tests.{eqb-true, eq-eqb}
use Rattle.rows.specs.declared.rules.Site.{Site}
use Rattle.model.specs.Lists.{filter, All}
use Rattle.model.specs.Map.{Entry, Map, find}
use Rattle.model.specs.Rules.{Entries}
use Rattle.model.proofs.BuiltMaps.{left, build, build_ascends, find_built}
use Rattle.model.proofs.ClassLaws.{those, those_of}
use Rattle.model.proofs.ListLaws.{all_at, all_map, filter_all, mem_filter, filter_mem}
use Rattle.model.proofs.MapLaws.{same_map, found_entry, entry_found}

-- ---- the map of some rows
module _ {W : Type 0} (P : Site → Type 0) (at : Site → ℕ) (same : Site → Site → Bool) (tells : (s t : Site) → P s → P t → eqb (at t) (at s) ≡ same s t)
    (u : Site → Option W → W) (Value : List Site → W → Type 0)
    (value : (s : Site) (l : List Site) → All P (s ∷ l) → (w : W) × (left u none (s ∷ l) ≡ some w) × Value (s ∷ l) w)
    (l : List Site) (valid : All P l) where
  only : (e : Entry W) → Memᴰ e (build at u [] l) → (s : Site) × Memᴰ s l × (e.key ≡ at s)
  only e d = go (those at e.key l) refl (sym (find_built at u e.key l) ∙ entry_found 0 (build at u [] l) e (build_ascends at u [] l tt) d)
    where
      go : (m : List Site) → those at e.key l ≡ m → left u none m ≡ some e.value → (s : Site) × Memᴰ s l × (e.key ≡ at s)
      go [] q f = absurd (none-ne-some _ f)
      go (s ∷ m) q f =
          let p = filter_mem (λ t. eqb (at t) e.key) l s (subst (Memᴰ s) (sym q) (Memᴰ.head refl)) in
          (s, p.0, sym (eqb-true _ _ p.1))

  every : (s : Site) → Memᴰ s l → (w : W) × (find (at s) (build at u [] l) ≡ some w) × Value (filter (same s) l) w
  every s d =
      go (filter (same s) l) refl (subst (Memᴰ s) here (mem_filter (λ t. eqb (at t) (at s)) l s d (eq-eqb (at s) (at s) refl)))
      (all_map (λ t. P t × (same s t ≡ true)) P (λ t p. p.0) (filter (same s) l) (filter_all P (same s) l valid))
    where
      here : those at (at s) l ≡ filter (same s) l
      here = those_of P at same tells s (at s) (all_at P l s valid d) refl l valid

      go : (m : List Site) → filter (same s) l ≡ m → Memᴰ s m → All P m → (w : W) × (find (at s) (build at u [] l) ≡ some w) × Value (filter (same s) l) w
      go [] q i a = absurd (Memᴰ.not-nil i)
      go (t ∷ m) q i a =
          let v = value t m a in
          (v.0, find_built at u (at s) l ∙ ap (left u none) (here ∙ q) ∙ v.1, subst (λ (n : List Site). Value n v.0) (sym q) v.2)

  pub entries : Entries at same Value l (build at u [] l)
  entries = record { ascending = build_ascends at u [] l tt; only = only; every = every }

-- ---- there is one such map
module _ {W : Type 0} (at : Site → ℕ) (same : Site → Site → Bool) (Value : List Site → W → Type 0) (one : (l : List Site) (v w : W) → Value l v → Value l w → v ≡ w)
    (l : List Site) where
  found_too : (m n : Map W) → Entries at same Value l m → Entries at same Value l n → (k : ℕ) (v : W) → find k m ≡ some v → find k n ≡ some v
  found_too m n a b k v h =
      let s = a.only (record { key = k; value = v }) (found_entry k v m h) in
      let x = a.every s.0 s.1 in
      let y = b.every s.0 s.1 in
      ap (λ (i : ℕ). find i n) s.2 ∙ y.1 ∙ ap {B = Option W} some (one _ y.0 x.0 y.2 x.2) ∙ sym x.1 ∙ ap (λ (i : ℕ). find i m) (sym s.2) ∙ h

  pub one_map : (m n : Map W) → Entries at same Value l m → Entries at same Value l n → m ≡ n
  one_map m n a b = same_map 0 m n a.ascending b.ascending (λ k. go k (find k m) refl (find k n) refl)
    where
      go : (k : ℕ) (o : Option W) → find k m ≡ o → (p : Option W) → find k n ≡ p → find k m ≡ find k n
      go k none e none d = e ∙ sym d
      go k none e (some v) d = found_too n m b a k v d ∙ sym d
      go k (some v) e p d = e ∙ sym (found_too m n a b k v e)
