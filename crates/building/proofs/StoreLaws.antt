-- The two areas of a store have a map between them before an entry is put into either, is moved from the one to the other, or main is widened, and so they have afterwards: said once
-- for both kinds of record, by what the slices of a kind have in an area (`In` before, `In'` afterwards).
use Prim.{tt}
use mathlib.Core.Path.{◌≡◌, refl, sym, ap, ◌∙◌, subst}
use mathlib.Core.List.{[], ◌∷◌}
use mathlib.Core.Logic.{◌⊎◌, inl, inr}
use mathlib.Core.Option.{none}
use Prim.Native.Nat.{ℕ, suc, ◌-◌, ◌^◌, ◌≤◌, ◌<◌}
use native.Mathlib.Omega.{arith}
use lib.Dec.{ltb}
use lib.ListN.{length}
use Rattle.std.specs.Prelude.{Err}
use Rattle.field_slices.specs.Insertion.{ins}
use Rattle.field_slices.specs.Places.{place_in}
use Rattle.field_slices.proofs.InsertionLaws.{length_ins}
use Rattle.gapped_slices.specs.Areas.{many, Lies, one_more_at}
use Rattle.gapped_slices.specs.declared.areas.Area.{Area}
use Rattle.model.specs.Map.{Entry, Map, find, put}
use Rattle.model.proofs.MapLaws.{ascending_put}
use Rattle.building.specs.declared.stores.Store.{Store}
use Rattle.building.specs.Parted.{Parted}
use Rattle.building.specs.Stores.{no_area, no_store, held, Lays, Kept, Apart, InMain, InPocket, Widened}
use Rattle.building.proofs.MapPlaces.{keys, new}
use Rattle.building.proofs.PartedLaws.{parted_turned, parted_put, parted_alone, parted_whole, not_in_either}

-- ---- the areas lie in every slice that has the room
module _ (room : ℕ) (s : Store) (l : Lays room s) (size : ℕ) (long : room ≤ size) where
  pub lies_main : Lies s.main size
  lies_main = record {
    ordered = omega (arith, l.start);
    inside = omega (arith, l.ordered, l.inside);
    fits = omega (arith, l.start, l.fits);
  }

  pub lies_pocket : Lies s.pocket size
  lies_pocket = record {
    ordered = omega (arith, l.middle, l.ordered);
    inside = omega (arith, l.inside);
    fits = l.pocket_fits;
  }

module _ {W : Type 0} where
  -- ---- before the first
  pub apart_none : (In : Area → Map W → Type 0) (room : ℕ) → ((a : Area) → many a ≡ 0 → In a []) → Apart In room no_store []
  apart_none In room none_in =
      let kept : Kept In no_area [] = record { many = refl; ascending = tt; fields = none_in no_area refl } in
      record {
        lays = record { start = refl; middle = refl; ordered = omega arith; inside = omega arith; pocket_fits = omega arith; fits = omega arith };
        first = [];
        second = [];
        main = kept;
        pocket = kept;
        ascending = tt;
        parted = parted_alone [];
      }

  -- ---- what a function over the slices of a kind does: an entry enters an area, and another area stays
  abbrev pub Enters : (Area → Map W → Type 0) → (Area → Map W → Type 0) → ℕ → Area → ℕ → Entry W → Map W → Type 0
  Enters In In' room a at x m = a.from ≤ a.to → a.to ≤ room → many a < a.to - a.from → at ≤ many a → In a m → In' (one_more_at a at) (ins at x m)

  abbrev pub Stays : (Area → Map W → Type 0) → (Area → Map W → Type 0) → Area → Area → Map W → Type 0
  Stays In In' a b m = (b.to ≤ a.from) ⊎ (a.to ≤ b.from) → b.from ≤ b.to → In b m → In' b m

  -- ---- a new entry at its index of an area
  module _ (In In' : Area → Map W → Type 0) (a : Area) (m : Map W) (k at : ℕ) (v : W) (kept : Kept In a m) (place : Err at ≡ place_in ltb k (keys m))
      (entered : In a m → In' (one_more_at a at) (ins at (record { key = k; value = v }) m)) where
    pub within : at ≤ many a
    within = omega (arith, (new k (λ o. v) m at place).inside, kept.many)

    pub kept_with : Kept In' (one_more_at a at) (put k (λ o. v) m)
    kept_with =
        let t = new k (λ o. v) m at place in
        record {
          many = omega (arith, kept.many, within, ap length t.puts ∙ length_ins at (record { key = k; value = v }) m t.inside);
          ascending = ascending_put k (λ o. v) 0 m (omega arith) kept.ascending;
          fields = subst (In' (one_more_at a at)) (sym t.puts) (entered kept.fields);
        }

  -- ---- a new entry of the store
  module _ (In In' : Area → Map W → Type 0) (room : ℕ) (s r : Store) (m : Map W) (k at : ℕ) (v : W) (h : Apart In room s m) (none_there : find k m ≡ none) (roomy : held s < s.main.to) where
    nowhere : (find k h.first ≡ none) × (find k h.second ≡ none)
    nowhere = not_in_either k h.first h.second m h.parted none_there

    pub apart_main : Err at ≡ place_in ltb k (keys h.first) → InMain s at r
        → (In s.main h.first → In' (one_more_at s.main at) (ins at (record { key = k; value = v }) h.first)) → (In s.pocket h.second → In' s.pocket h.second)
        → Apart In' room r (put k (λ o. v) m)
    apart_main place to entered stays =
        let low = within In In' s.main h.first k at v h.main place entered in
        let same = to.main in
        let other = to.pocket in
        let l = h.lays in
        record {
          lays = record {
            start = ap (λ (a : Area). a.from) same ∙ l.start;
            middle = ap (λ (a : Area). a.from) other ∙ l.middle ∙ sym (ap (λ (a : Area). a.to) same);
            ordered = omega (arith, l.ordered, ap (λ (a : Area). a.to) same, ap (λ (a : Area). a.to) other);
            inside = omega (arith, l.inside, ap (λ (a : Area). a.to) other);
            pocket_fits = subst (λ (a : Area). many a ≤ a.to - a.from) (sym other) l.pocket_fits;
            fits = omega (arith, roomy, low, ap many same, ap many other, ap (λ (a : Area). a.to) same);
          };
          first = put k (λ o. v) h.first;
          second = h.second;
          main = subst (λ (a : Area). Kept In' a (put k (λ o. v) h.first)) (sym same) (kept_with In In' s.main h.first k at v h.main place entered);
          pocket = subst (λ (a : Area). Kept In' a h.second) (sym other) (record { many = h.pocket.many; ascending = h.pocket.ascending; fields = stays h.pocket.fields });
          ascending = ascending_put k (λ o. v) 0 m (omega arith) h.ascending;
          parted = parted_put k (λ o. v) h.first h.second m h.parted nowhere.1;
        }

    pub apart_pocket : many s.pocket < s.pocket.to - s.pocket.from → Err at ≡ place_in ltb k (keys h.second) → InPocket s at r
        → (In s.pocket h.second → In' (one_more_at s.pocket at) (ins at (record { key = k; value = v }) h.second)) → (In s.main h.first → In' s.main h.first)
        → Apart In' room r (put k (λ o. v) m)
    apart_pocket more place to entered stays =
        let low = within In In' s.pocket h.second k at v h.pocket place entered in
        let same = to.main in
        let other = to.pocket in
        let l = h.lays in
        record {
          lays = record {
            start = ap (λ (a : Area). a.from) same ∙ l.start;
            middle = ap (λ (a : Area). a.from) other ∙ l.middle ∙ sym (ap (λ (a : Area). a.to) same);
            ordered = omega (arith, l.ordered, ap (λ (a : Area). a.to) same, ap (λ (a : Area). a.to) other);
            inside = omega (arith, l.inside, ap (λ (a : Area). a.to) other);
            pocket_fits = subst (λ (a : Area). many a ≤ a.to - a.from) (sym other) (omega (arith, more, low));
            fits = omega (arith, roomy, low, ap many same, ap many other, ap (λ (a : Area). a.to) same);
          };
          first = h.first;
          second = put k (λ o. v) h.second;
          main = subst (λ (a : Area). Kept In' a h.first) (sym same) (record { many = h.main.many; ascending = h.main.ascending; fields = stays h.main.fields });
          pocket = subst (λ (a : Area). Kept In' a (put k (λ o. v) h.second)) (sym other) (kept_with In In' s.pocket h.second k at v h.pocket place entered);
          ascending = ascending_put k (λ o. v) 0 m (omega arith) h.ascending;
          parted = parted_turned (parted_put k (λ o. v) h.second h.first m (parted_turned h.parted) nowhere.0);
        }

    -- the same, with what the areas' bounds say
    small_at : (a : Area) (n : Map W) → Kept In a n → Err at ≡ place_in ltb k (keys n) → at ≤ many a
    small_at a n kept place = omega (arith, (new k (λ o. v) n at place).inside, kept.many)

    pub goes_main : room < 2 ^ 64 → Err at ≡ place_in ltb k (keys h.first) → (suc (many s.main) < 2 ^ 64 → at ≤ many s.main → InMain s at r)
        → Enters In In' room s.main at (record { key = k; value = v }) h.first → Stays In In' s.main s.pocket h.second → Apart In' room r (put k (λ o. v) m)
    goes_main small place goes enters stays =
        let l = h.lays in
        let low = small_at s.main h.first h.main place in
        apart_main place (goes (omega (arith, roomy, l.ordered, l.inside, small)) low) (enters (omega (arith, l.start)) (omega (arith, l.ordered, l.inside)) (omega (arith, l.start, roomy)) low)
        (stays (inr (omega (arith, l.middle))) (omega (arith, l.middle, l.ordered)))

    pub goes_pocket : room < 2 ^ 64 → many s.pocket < s.pocket.to - s.pocket.from → Err at ≡ place_in ltb k (keys h.second)
        → (suc (many s.pocket) < 2 ^ 64 → at ≤ many s.pocket → InPocket s at r)
        → Enters In In' room s.pocket at (record { key = k; value = v }) h.second → Stays In In' s.pocket s.main h.first → Apart In' room r (put k (λ o. v) m)
    goes_pocket small more place goes enters stays =
        let l = h.lays in
        let low = small_at s.pocket h.second h.pocket place in
        apart_pocket more place (goes (omega (arith, more, l.inside, small)) low) (enters (omega (arith, l.middle, l.ordered)) l.inside more low)
        (stays (inl (omega (arith, l.middle))) (omega (arith, l.start)))

  -- ---- the pocket empty
  module _ (In : Area → Map W → Type 0) (room : ℕ) (s : Store) (m : Map W) (h : Apart In room s m) (empty : many s.pocket ≡ 0) where
    no_second : (l : Map W) → length l ≡ 0 → l ≡ []
    no_second [] e = refl
    no_second (x ∷ l) e = absurd (omega (arith, e))

    whole : h.first ≡ m
    whole =
        let none_left = no_second h.second (omega (arith, h.pocket.many, empty)) in
        parted_whole h.first m h.main.ascending h.ascending (subst (λ (q : Map W). Parted h.first q m) none_left h.parted)

    pub main_alone : Kept In s.main m
    main_alone = subst (Kept In s.main) whole h.main

  -- ---- main widened
  module _ (In : Area → Map W → Type 0) (room : ℕ) (s r : Store) (m : Map W) (h : Apart In room s m) (empty : many s.pocket ≡ 0) (w : Widened room s r)
      (none_in : (a : Area) → many a ≡ 0 → In a [])
      (wider : many s.main ≡ s.main.to → (to : ℕ) → s.main.to ≤ to → to ≤ room → In s.main m → In (record { from = 0; to = to; front = many s.main; behind = 0 }) m) where
    main_kept : Kept In s.main m
    main_kept = main_alone In room s m h empty

    pub apart_widened : Apart In room r m
    apart_widened = record {
      lays = w.lays;
      first = m;
      second = [];
      main = by_main w.main;
      pocket = record { many = w.pocket; ascending = tt; fields = none_in r.pocket w.pocket };
      ascending = h.ascending;
      parted = parted_alone m;
    }
      where
        by_main : (r.main ≡ s.main) ⊎ ((many s.main ≡ s.main.to) × (r.main ≡ record { from = 0; to = r.main.to; front = many s.main; behind = 0 })) → Kept In r.main m
        by_main (inl e) = subst (λ (a : Area). Kept In a m) (sym e) main_kept
        by_main (inr e) = subst (λ (a : Area). Kept In a m) (sym e.1) (record {
          many = omega (arith, main_kept.many);
          ascending = h.ascending;
          fields = wider e.0 r.main.to (omega (arith, w.roomy, ap many e.1, e.0)) (omega (arith, w.lays.ordered, w.lays.inside)) main_kept.fields;
        })
