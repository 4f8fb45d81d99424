-- The pocket's entries go over into main one after the other: those that went are in main, those that did not are where they were, and together they have the map; after the last the
-- main area has it alone. Said once for both kinds of record.
use Prim.{tt}
use mathlib.Core.Path.{◌≡◌, refl, sym, ap, ◌∙◌, subst}
use mathlib.Core.List.{List, [], ◌∷◌, map}
use mathlib.Core.Logic.{inr}
use mathlib.Core.Option.{none}
use Prim.Native.Nat.{ℕ, zero, suc, ◌+◌, ◌-◌, ◌^◌, ◌≤◌, ◌<◌}
use native.Mathlib.Omega.{arith}
use lib.Dec.{ltb}
use lib.ListN.{length, drop, get_or, drop_of_length-le}
use lib.Seq.{drop-cons}
use Rattle.std.specs.Prelude.{Err}
use Rattle.field_slices.specs.Insertion.{ins}
use Rattle.field_slices.specs.Places.{place_in}
use Rattle.gapped_slices.specs.Areas.{many, Lies, one_more_at, stand_of, entries_in}
use Rattle.gapped_slices.specs.declared.areas.Area.{Area}
use Rattle.model.specs.Map.{Entry, Map, find, put, AscendingFrom, Ascending}
use Rattle.building.specs.declared.stores.Store.{Store}
use Rattle.building.specs.Parted.{Parted}
use Rattle.building.specs.Stores.{emptied_area, held, Kept, Apart}
use Rattle.building.proofs.AreaFields.{field_at}
use Rattle.building.proofs.MapPlaces.{keys, new}
use Rattle.building.proofs.PartedLaws.{none_yet, parted_moved, parted_alone, parted_whole}
use Rattle.building.proofs.StoreLaws.{lies_pocket, Enters, Stays, within, kept_with}

module _ {W : Type 0} where
  -- ---- what is left of a map that ascends
  ascending_from : (b c : ℕ) (m : Map W) → c ≤ b → AscendingFrom b m → AscendingFrom c m
  ascending_from b c [] h a = tt
  ascending_from b c (e ∷ m) h a = (omega (arith, a.0), a.1)

  ascending_drop : (k : ℕ) (m : Map W) → Ascending m → Ascending (drop k m)
  ascending_drop zero m a = a
  ascending_drop (suc k) [] a = tt
  ascending_drop (suc k) (e ∷ m) a = ascending_drop k m (ascending_from (suc e.key) 0 m (omega arith) a.1)

  -- ---- k entries of the pocket, which has q, went over into the area a
  pub record Emptying (In : Area → Map W → Type 0) (s : Store) (q m : Map W) (k : ℕ) (a : Area) : Type 0 where
    pub from : a.from ≡ s.main.from
    pub to : a.to ≡ s.main.to
    pub size : many a ≡ many s.main + k
    pub so_far : Map W
    pub main : Kept In a so_far
    pub pocket : In s.pocket q
    pub parted : Parted so_far (drop k q) m

  module _ (In : Area → Map W → Type 0) (room : ℕ) (s : Store) (m : Map W) (h : Apart In room s m) where
    pub empties_first : Emptying In s h.second m 0 s.main
    empties_first = record {
      from = refl;
      to = refl;
      size = omega arith;
      so_far = h.first;
      main = h.main;
      pocket = h.pocket.fields;
      parted = h.parted;
    }

  module _ (In In' : Area → Map W → Type 0) (s : Store) (q m : Map W) (asc : Ascending q) (k : ℕ) (low : k < length q) (d : Entry W) (a : Area) (g : Emptying In s q m k a) where
    -- the next one, of which main knows nothing yet
    abbrev pub next : Entry W
    next = get_or q k d

    here : drop k q ≡ next ∷ drop (suc k) q
    here = drop-cons q k d low

    rest_ascends : Ascending (next ∷ drop (suc k) q)
    rest_ascends = subst Ascending here (ascending_drop k q asc)

    parted_here : Parted g.so_far (next ∷ drop (suc k) q) m
    parted_here = subst (λ (l : Map W). Parted g.so_far l m) here g.parted

    pub next_new : find next.key g.so_far ≡ none
    next_new = none_yet next g.so_far (drop (suc k) q) m rest_ascends parted_here

    pub empties_next : (at : ℕ) → Err at ≡ place_in ltb next.key (keys g.so_far) → (In a g.so_far → In' (one_more_at a at) (ins at next g.so_far)) → (In s.pocket q → In' s.pocket q)
        → Emptying In' s q m (suc k) (one_more_at a at)
    empties_next at place entered stays = record {
      from = g.from;
      to = g.to;
      size = omega (arith, g.size, within In In' a g.so_far next.key at next.value g.main place entered);
      so_far = put next.key (λ o. next.value) g.so_far;
      main = kept_with In In' a g.so_far next.key at next.value g.main place entered;
      pocket = stays g.pocket;
      parted = parted_moved next g.so_far (drop (suc k) q) m rest_ascends parted_here;
    }

  -- ---- the next one, out of its slices and into main
  module _ (In₀ In In' : Area → Map W → Type 0) (room : ℕ) (s : Store) (m : Map W) (h : Apart In₀ room s m) (k : ℕ) (low : k < many s.pocket) (d : Entry W) (a : Area)
      (g : Emptying In s h.second m k a) where
    inside : k < length h.second
    inside = omega (arith, low, h.pocket.many)

    abbrev e : Entry W
    e = get_or h.second k d

    pub taken : {A : Type 0} (field : Entry W → A) (l : List A) → room ≤ length l → entries_in s.pocket l ≡ map field h.second → get_or l (stand_of s.pocket k) (field d) ≡ field e
    taken field l wide held = field_at field s.pocket k h.second d l (field d) (lies_pocket room s h.lays (length l) wide) low held

    pub not_in_main : find e.key g.so_far ≡ none
    not_in_main = next_new In In s h.second m h.pocket.ascending k inside d a g

    main_inside : (a.from ≤ a.to) × (a.to ≤ room)
    main_inside = (omega (arith, g.from, h.lays.start), omega (arith, g.to, h.lays.ordered, h.lays.inside))

    main_roomy : many a < a.to - a.from
    main_roomy = omega (arith, g.size, g.to, g.from, h.lays.start, h.lays.fits, low)

    pub lies_so_far : (size : ℕ) → room ≤ size → Lies a size
    lies_so_far size wide = record { ordered = main_inside.0; inside = omega (arith, main_inside.1, wide); fits = omega (arith, main_roomy) }

    pub goes_over : room < 2 ^ 64 → (at : ℕ) → Err at ≡ place_in ltb e.key (keys g.so_far) → (a' : Area) → (suc (many a) < 2 ^ 64 → at ≤ many a → a' ≡ one_more_at a at)
        → Enters In In' room a at e g.so_far → Stays In In' a s.pocket h.second → Emptying In' s h.second m (suc k) a'
    goes_over small at place a' grown enters stays =
        let at_low : at ≤ many a = omega (arith, (new e.key (λ o. e.value) g.so_far at place).inside, g.main.many) in
        subst (Emptying In' s h.second m (suc k)) (sym (grown (omega (arith, main_roomy, main_inside.1, small)) at_low))
        (empties_next In In' s h.second m h.pocket.ascending k inside d a g at place (enters main_inside.0 main_inside.1 main_roomy at_low)
        (stays (inr (omega (arith, g.to, h.lays.middle))) (omega (arith, h.lays.middle, h.lays.ordered))))

  -- ---- after the last
  module _ (In In' : Area → Map W → Type 0) (room : ℕ) (s : Store) (m : Map W) (h : Apart In room s m) (k : ℕ) (all : length h.second ≤ k) (few : k ≤ many s.pocket) (a : Area)
      (g : Emptying In' s h.second m k a) (none_in : In' (emptied_area s.pocket) []) (r : Store) (main-is : r.main ≡ a) (pocket-is : r.pocket ≡ emptied_area s.pocket) where
    whole : g.so_far ≡ m
    whole = parted_whole g.so_far m g.main.ascending h.ascending (subst (λ (l : Map W). Parted g.so_far l m) (drop_of_length-le h.second all) g.parted)

    pub emptied_apart : Apart In' room r m
    emptied_apart =
        let l = h.lays in
        let e = ap (λ (x : Area). x.to) main-is ∙ g.to in
        let p : (f : Area → ℕ) → f r.pocket ≡ f (emptied_area s.pocket) = λ f. ap f pocket-is in
        record {
          lays = record {
            start = ap (λ (x : Area). x.from) main-is ∙ g.from ∙ l.start;
            middle = p (λ x. x.from) ∙ l.middle ∙ sym e;
            ordered = omega (arith, l.ordered, e, p (λ x. x.to));
            inside = omega (arith, l.inside, p (λ x. x.to));
            pocket_fits = subst (λ (x : ℕ). x ≤ r.pocket.to - r.pocket.from) (sym (p many)) (omega arith);
            fits = omega (arith, l.fits, ap many main-is, g.size, few, e, p many);
          };
          first = m;
          second = [];
          main = subst (λ (x : Area). Kept In' x m) (sym main-is) (subst (Kept In' a) whole g.main);
          pocket = subst (λ (x : Area). Kept In' x []) (sym pocket-is) (record { many = refl; ascending = tt; fields = none_in });
          ascending = h.ascending;
          parted = parted_alone m;
        }

    pub none_in_pocket : many r.pocket ≡ 0
    none_in_pocket = ap many pocket-is

    pub main_as_long : r.main.to ≡ s.main.to
    main_as_long = ap (λ (x : Area). x.to) main-is ∙ g.to
