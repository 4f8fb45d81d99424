-- What one turn of a loop over the chain list does to a list: the first i records named are the first i + 1 once record i is set,
-- and the first i names taken over are the first i + 1 once name i is set. And where the loop starts and ends.
use mathlib.Core.Path.{◌≡◌, refl, sym, ◌∙◌, ap, subst}
use mathlib.Core.List.{List, [], ◌∷◌, ◌++◌, map}
use Prim.Native.Nat.{ℕ, zero, suc, ◌+◌, ◌≤◌, ◌<◌, min}
use native.Mathlib.Nat.{zero-min, min-zero, suc-min-suc, not-suc-le-zero, le_of_suc-le-suc, le_refl}
use native.Mathlib.Numerals.{add-one}
use native.Mathlib.Omega.{arith}
use lib.ListN.{length, get_or, set, take, drop, replicate, length-append, length-take, length-drop, length-map, get_or-map}
use Rattle.chains.specs.declared.chain.Chain.{Chain}
use Rattle.chains.specs.Names.{names_in, chain_of, first_of, taken_over, named}

-- ---- the first names, with zeros past the last: by recursion
abbrev firsts : ℕ → List ℕ → List ℕ
firsts zero l = []
firsts (suc n) l = get_or l 0 0 ∷ firsts n (drop 1 l)

next_is : (l : List ℕ) (i : ℕ) → get_or (drop 1 l) i 0 ≡ get_or l (suc i) 0
next_is [] i = refl
next_is (x ∷ l) i = refl

enough_zeros : (n k : ℕ) (l : List ℕ) → n ≤ k → take n (l ++ replicate k 0) ≡ firsts n l
enough_zeros zero k l h = refl
enough_zeros (suc n) zero l h = absurd (not-suc-le-zero h)
enough_zeros (suc n) (suc k) [] h = ap (λ (r : List ℕ). 0 ∷ r) (enough_zeros n k [] (le_of_suc-le-suc h))
enough_zeros (suc n) (suc k) (x ∷ l) h = ap (λ (r : List ℕ). x ∷ r) (enough_zeros n (suc k) l (omega (arith, h)))

-- ---- the first records with their names: by recursion
abbrev over : ℕ → List ℕ → List Chain → List Chain
over zero names chains = chains
over (suc n) names [] = []
over (suc n) names (c ∷ chains) = chain_of (get_or names 0 0) ∷ over n (drop 1 names) chains

over_named : (n : ℕ) (names : List ℕ) (chains : List Chain) → map chain_of (firsts (min n (length chains)) names) ++ drop n chains ≡ over n names chains
over_named zero names chains = ap (λ (m : ℕ). map chain_of (firsts m names) ++ chains) (zero-min (length chains))
over_named (suc n) names [] = ap (λ (m : ℕ). map chain_of (firsts m names) ++ []) (min-zero (suc n))
over_named (suc n) names (c ∷ chains) =
    ap (λ (m : ℕ). map chain_of (firsts m names) ++ drop n chains) (suc-min-suc n (length chains))
    ∙ ap (λ (r : List Chain). chain_of (get_or names 0 0) ∷ r) (over_named n (drop 1 names) chains)

named_over : (chains : List Chain) (names : List ℕ) (n : ℕ) → named chains names n ≡ over n names chains
unfolding named first_of
named_over chains names n =
    let m = min n (length chains) in
    ap (λ (r : List ℕ). map chain_of r ++ drop n chains) (enough_zeros m m names (le_refl m)) ∙ over_named n names chains

over_turn : (i : ℕ) (names : List ℕ) (chains : List Chain) → i < length chains → set (over i names chains) i (chain_of (get_or names i 0)) ≡ over (suc i) names chains
over_turn i names [] h = absurd (not-suc-le-zero h)
over_turn zero names (c ∷ chains) h = refl
over_turn (suc i) names (c ∷ chains) h =
    ap (λ (x : ℕ). chain_of (get_or names 0 0) ∷ set (over i (drop 1 names) chains) i (chain_of x)) (sym (next_is names i))
    ∙ ap (λ (r : List Chain). chain_of (get_or names 0 0) ∷ r) (over_turn i (drop 1 names) chains (le_of_suc-le-suc h))

over_all : (n : ℕ) (names : List ℕ) (chains : List Chain) → over (min n (length chains)) names chains ≡ over n names chains
over_all zero names chains = ap (λ (m : ℕ). over m names chains) (zero-min (length chains))
over_all (suc n) names [] = ap (λ (m : ℕ). over m names []) (min-zero (suc n))
over_all (suc n) names (c ∷ chains) =
    ap (λ (m : ℕ). over m names (c ∷ chains)) (suc-min-suc n (length chains)) ∙ ap (λ (r : List Chain). chain_of (get_or names 0 0) ∷ r) (over_all n (drop 1 names) chains)

over_length : (n : ℕ) (names : List ℕ) (chains : List Chain) → length (over n names chains) ≡ length chains
over_length zero names chains = refl
over_length (suc n) names [] = refl
over_length (suc n) names (c ∷ chains) = ap suc (over_length n (drop 1 names) chains)

-- ---- `named`, as the loop of `store_names` needs it
pub named_none : (chains : List Chain) (names : List ℕ) → named chains names 0 ≡ chains
named_none chains names = named_over chains names 0

pub named_turn : (chains : List Chain) (names : List ℕ) (i : ℕ) → i < length chains → set (named chains names i) i (chain_of (get_or names i 0)) ≡ named chains names (i + 1)
named_turn chains names i h =
    ap (λ (r : List Chain). set r i (chain_of (get_or names i 0))) (named_over chains names i) ∙ over_turn i names chains h
    ∙ ap (λ (k : ℕ). over k names chains) (sym (add-one i)) ∙ sym (named_over chains names (i + 1))

pub named_all : (chains : List Chain) (names : List ℕ) (n : ℕ) → named chains names (min n (length chains)) ≡ named chains names n
named_all chains names n = named_over chains names (min n (length chains)) ∙ over_all n names chains ∙ sym (named_over chains names n)

pub length_named : (chains : List Chain) (names : List ℕ) (n : ℕ) → length (named chains names n) ≡ length chains
length_named chains names n = ap length (named_over chains names n) ∙ over_length n names chains

-- ---- the first i names of the records over the names that stood there
pub taking : List Chain → List ℕ → ℕ → List ℕ
taking chains names i = take i (names_in chains) ++ drop i names

taking_next : (i : ℕ) (l names : List ℕ) → i < length l → i < length names → set (take i l ++ drop i names) i (get_or l i 0) ≡ take (suc i) l ++ drop (suc i) names
taking_next i [] names h g = absurd (not-suc-le-zero h)
taking_next i (x ∷ l) [] h g = absurd (not-suc-le-zero g)
taking_next zero (x ∷ l) (y ∷ names) h g = refl
taking_next (suc i) (x ∷ l) (y ∷ names) h g = ap (λ (r : List ℕ). x ∷ r) (taking_next i l names (le_of_suc-le-suc h) (le_of_suc-le-suc g))

take_min : (l : List ℕ) (m : ℕ) → take (min (length l) m) l ≡ take m l
take_min [] m = ap (λ (k : ℕ). take k []) (zero-min m) ∙ nil m
  where
    nil : (k : ℕ) → ◌≡◌ {A = List ℕ} [] (take k [])
    nil zero = refl
    nil (suc k) = refl
take_min (x ∷ l) zero = ap (λ (k : ℕ). take k (x ∷ l)) (min-zero (suc (length l)))
take_min (x ∷ l) (suc m) = ap (λ (k : ℕ). take k (x ∷ l)) (suc-min-suc (length l) m) ∙ ap (λ (r : List ℕ). x ∷ r) (take_min l m)

drop_min : (n : ℕ) (l : List ℕ) → drop (min n (length l)) l ≡ drop n l
drop_min zero l = ap (λ (k : ℕ). drop k l) (zero-min (length l))
drop_min (suc n) [] = ap (λ (k : ℕ). drop k []) (min-zero (suc n))
drop_min (suc n) (x ∷ l) = ap (λ (k : ℕ). drop k (x ∷ l)) (suc-min-suc n (length l)) ∙ drop_min n l

-- ---- as the loop of `take_names` needs it
pub taking_none : (chains : List Chain) (names : List ℕ) → taking chains names 0 ≡ names
unfolding taking
taking_none chains names = refl

pub taking_turn : (chains : List Chain) (names : List ℕ) (i : ℕ) → i < length chains → i < length names → set (taking chains names i) i (get_or chains i (chain_of 0)).name ≡ taking chains names (i + 1)
unfolding taking
taking_turn chains names i h g =
    let l = names_in chains in
    ap (λ (x : ℕ). set (take i l ++ drop i names) i x) (sym (get_or-map (λ c. c.name) chains i (chain_of 0)))
    ∙ taking_next i l names (subst (λ (n : ℕ). i < n) (sym (length-map chains (λ c. c.name))) h) g ∙ ap (λ (k : ℕ). take k l ++ drop k names) (sym (add-one i))

pub taking_all : (chains : List Chain) (names : List ℕ) → length names ≡ 4096 → taking chains names (min (length chains) 4096) ≡ taken_over (names_in chains) names
unfolding taking taken_over
taking_all chains names e =
    let l = names_in chains in
    ap (λ (n : ℕ). take (min n 4096) l ++ drop (min n 4096) names) (sym (length-map chains (λ c. c.name)))
    ∙ ap (λ (r : List ℕ). r ++ drop (min (length l) 4096) names) (take_min l 4096)
    ∙ ap (λ (m : ℕ). take 4096 l ++ drop (min (length l) m) names) (sym e) ∙ ap (λ (r : List ℕ). take 4096 l ++ r) (drop_min (length l) names)

pub length_taking : (chains : List Chain) (names : List ℕ) (i : ℕ) → i ≤ length chains → i ≤ length names → length (taking chains names i) ≡ length names
unfolding taking
length_taking chains names i h g =
    let whole = length-append (take i (names_in chains)) (drop i names) in
    let taken = length-take i (names_in chains) in
    let as_many = length-map chains (λ c. c.name) in
    let left = length-drop i names in
    omega (arith, whole, taken, as_many, left, h, g)
