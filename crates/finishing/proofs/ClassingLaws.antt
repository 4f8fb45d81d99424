-- A turn of the walk over residues and atoms stores what one residue is, and leaves the first unknown one to be found from the next residue on.
use mathlib.Core.Path.{◌≡◌, refl, sym, ap, ◌∙◌}
use mathlib.Core.Bool.{Bool, true, false, cond}
use mathlib.Core.List.{List}
use Prim.Native.Nat.{ℕ, suc, ◌+◌, ◌-◌, ◌≤◌, ◌<◌}
use native.Mathlib.Nat.{le_refl, sub-zero}
use native.Mathlib.Numerals.{add-one}
use native.Mathlib.Omega.{arith}
use lib.ListN.{length, get_or, set, drop}
use Rattle.std.specs.Prelude.{Option, Some, None}
use Rattle.model.specs.Classes.{class_of}
use Rattle.model.specs.Neighbours.{lessers, alone_in}
use Rattle.model.specs.declared.classes.Class.{Class}
use Rattle.finishing.specs.Classing.{is_unknown_by, passed_at, class_at, unknown_at, first_place, Classified}
use Rattle.finishing.specs.Filling.{filled}
use Rattle.finishing.proofs.FillingLaws.{filled_past, filled_on, length_filled, length_on}

not_none : (k : ℕ) → ◌≡◌ {A = Option ℕ} (Some k) None → ⊥
not_none k e = let z : ◌≡◌ {A = ℕ} 0 1 = cc in omega arith

module _ (passes : ℕ → Bool) (i n : ℕ) (h : i < n) where
  first_turn : first_place passes i (n - i) ≡ cond (passes i) (Some (suc i)) (first_place passes (suc i) (n - suc i))
  unfolding first_place
  first_turn = let e : n - i ≡ suc (n - suc i) = omega arith in ap (first_place passes i) e

  first_here : passes i ≡ true → first_place passes i (n - i) ≡ Some (i + 1)
  first_here e = first_turn ∙ rw (e, add-one)

  first_later : passes i ≡ false → first_place passes (i + 1) (n - (i + 1)) ≡ first_place passes i (n - i)
  first_later e = sym (first_turn ∙ rw (e, add-one))

module _ (keys names₀ codes₀ marks₀ atoms : List ℕ) (n : ℕ) where
  -- the walk has stored what the residues below i are, none of them unknown
  pub record Classing (names codes categories : List ℕ) (at i : ℕ) : Type 0 where
    pub inside : i ≤ n
    pub names_stored : names ≡ filled (λ j. (class_at keys names₀ atoms j).name) i names₀
    pub codes_stored : codes ≡ filled (λ j. (class_at keys names₀ atoms j).code) i codes₀
    pub categories_stored : categories ≡ filled (λ j. (class_at keys names₀ atoms j).category) i marks₀
    pub passed : at ≡ passed_at keys atoms i
    pub left : first_place (unknown_at keys names₀ marks₀ atoms) i (n - i) ≡ first_place (unknown_at keys names₀ marks₀ atoms) 0 n

  pub classing_starts : Classing names₀ codes₀ marks₀ 0 0
  unfolding filled passed_at
  classing_starts = record { inside = omega arith; names_stored = refl; codes_stored = refl; categories_stored = refl; passed = refl; left = rw sub-zero }

  -- at residue i: its key, the atoms before its own, whether it has one alone, and what is stored of it
  module _ {names codes categories : List ℕ} {at i : ℕ} (s : Classing names codes categories at i) (h : i < n) {key next : ℕ} {lone unknown : Bool}
      {names' codes' categories' : List ℕ} (k : key ≡ get_or keys i 0) (p : next ≡ at + lessers key (drop at atoms)) (a : lone ≡ alone_in key (drop next atoms))
      (u : unknown ≡ is_unknown_by (class_of (get_or names i 0) lone).code (get_or categories i 0))
      (names_after : names' ≡ set names i (class_of (get_or names i 0) lone).name) (codes_after : codes' ≡ set codes i (class_of (get_or names i 0) lone).code)
      (categories_after : categories' ≡ set categories i (class_of (get_or names i 0) lone).category) where
    next_is : next ≡ passed_at keys atoms (suc i)
    unfolding passed_at
    next_is = p ∙ (λ j. s.passed j + lessers (k j) (drop (s.passed j) atoms))

    class_is : class_of (get_or names i 0) lone ≡ class_at keys names₀ atoms i
    unfolding class_at
    class_is =
        let e : get_or names i 0 ≡ get_or names₀ i 0 = ap (λ (l : List ℕ). get_or l i 0) s.names_stored ∙ filled_past (λ j. (class_at keys names₀ atoms j).name) i names₀ i 0 (le_refl i) in
        let f : lone ≡ alone_in (get_or keys i 0) (drop (passed_at keys atoms (suc i)) atoms) = a ∙ (λ j. alone_in (k j) (drop (next_is j) atoms)) in
        λ j. class_of (e j) (f j)

    unknown_is : unknown ≡ unknown_at keys names₀ marks₀ atoms i
    unknown_is =
        let e : get_or categories i 0 ≡ get_or marks₀ i 0 = ap (λ (l : List ℕ). get_or l i 0) s.categories_stored ∙ filled_past (λ j. (class_at keys names₀ atoms j).category) i marks₀ i 0 (le_refl i) in
        u ∙ (λ j. is_unknown_by (class_is j).code (e j))

    pub classing_on : unknown ≡ false → Classing names' codes' categories' next (i + 1)
    classing_on e = record {
      inside = omega arith;
      names_stored = filled_on (λ j. (class_at keys names₀ atoms j).name) i names₀ s.names_stored (names_after ∙ ap (λ (c : Class). set names i c.name) class_is);
      codes_stored = filled_on (λ j. (class_at keys names₀ atoms j).code) i codes₀ s.codes_stored (codes_after ∙ ap (λ (c : Class). set codes i c.code) class_is);
      categories_stored =
          filled_on (λ j. (class_at keys names₀ atoms j).category) i marks₀ s.categories_stored (categories_after ∙ ap (λ (c : Class). set categories i c.category) class_is);
      passed = next_is ∙ ap (passed_at keys atoms) (sym (add-one i));
      left = first_later (unknown_at keys names₀ marks₀ atoms) i n h (sym unknown_is ∙ e) ∙ s.left;
    }

    pub classing_stops : unknown ≡ true → Classified keys names₀ codes₀ marks₀ atoms n (Some (i + 1)) names' codes' categories'
    classing_stops e = record {
      answer = sym (first_here (unknown_at keys names₀ marks₀ atoms) i n h (sym unknown_is ∙ e)) ∙ s.left;
      names_stored = λ z. absurd (not_none (i + 1) z);
      codes_stored = λ z. absurd (not_none (i + 1) z);
      categories_stored = λ z. absurd (not_none (i + 1) z);
    }

    -- the slices keep their lengths
    pub classing_long : (length names' ≡ length names₀) × (length codes' ≡ length codes₀) × (length categories' ≡ length marks₀)
    classing_long = (
      length_on (λ j. (class_at keys names₀ atoms j).name) i _ names₀ names names' s.names_stored names_after,
      length_on (λ j. (class_at keys names₀ atoms j).code) i _ codes₀ codes codes' s.codes_stored codes_after,
      length_on (λ j. (class_at keys names₀ atoms j).category) i _ marks₀ categories categories' s.categories_stored categories_after,
    )

  pub classed_long : {names codes categories : List ℕ} {at i : ℕ} → Classing names codes categories at i
      → (length names ≡ length names₀) × (length codes ≡ length codes₀) × (length categories ≡ length marks₀)
  classed_long {names} {codes} {categories} {at} {i} s = (
    ap length s.names_stored ∙ length_filled (λ j. (class_at keys names₀ atoms j).name) i names₀,
    ap length s.codes_stored ∙ length_filled (λ j. (class_at keys names₀ atoms j).code) i codes₀,
    ap length s.categories_stored ∙ length_filled (λ j. (class_at keys names₀ atoms j).category) i marks₀,
  )

  pub classing_ends : {names codes categories : List ℕ} {at i : ℕ} → Classing names codes categories at i → n ≤ i
      → Classified keys names₀ codes₀ marks₀ atoms n None names codes categories
  unfolding first_place
  classing_ends {names} {codes} {categories} {at} {i} s h =
      let e : i ≡ n = omega (arith, s.inside) in
      let z : n - i ≡ 0 = omega arith in
      record {
        answer = sym (ap (first_place (unknown_at keys names₀ marks₀ atoms) i) z) ∙ s.left;
        names_stored = λ r. s.names_stored ∙ ap (λ (j : ℕ). filled (λ j. (class_at keys names₀ atoms j).name) j names₀) e;
        codes_stored = λ r. s.codes_stored ∙ ap (λ (j : ℕ). filled (λ j. (class_at keys names₀ atoms j).code) j codes₀) e;
        categories_stored = λ r. s.categories_stored ∙ ap (λ (j : ℕ). filled (λ j. (class_at keys names₀ atoms j).category) j marks₀) e;
      }
