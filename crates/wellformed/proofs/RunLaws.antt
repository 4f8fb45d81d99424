-- The runs of a list are its first run, as far as it reaches, and the runs behind it. So the runs are those of certain numbers exactly where the list begins
-- with some of the first number, and the runs behind them are those of the other numbers.
use mathlib.Core.Path.{◌≡◌, refl, sym, ap, ◌∙◌}
use mathlib.Core.Bool.{Bool, true, false, ◌&&◌, cond}
use mathlib.Core.List.{List, [], ◌∷◌}
use Prim.Native.Nat.{ℕ, zero, suc, ◌+◌, ◌-◌, ◌≤◌, ◌<◌}
use native.Mathlib.Nat.{zero-lt-suc}
use native.Mathlib.Omega.{arith}
use lib.Dec.{eqb, leb, ltb}
use lib.ListN.{drop}
use borrow.Author.Tests.{lt-ltb, leb-true, leb-false, eqb-true, eqb-false, eq-eqb, ne_eqb}
use Rattle.model.specs.Lent.{list_from}
use Rattle.model.specs.WellFormed.{same_list, runs_after, runs_of}
use Rattle.wellformed.specs.Runs.{equals}
use Rattle.wellformed.proofs.FromLaws.{rest, rest_all, rest_turn, rest_end}

-- ---- lists
runs_after_lem : (x : ℕ) (l : List ℕ) → runs_after x l ≡ runs_of (drop (equals x l) l)
unfolding runs_after equals
runs_after_lem x [] = refl
runs_after_lem x (y ∷ l) = go (eqb x y) (runs_after_lem x l)
  where
    go : (b : Bool) → runs_after x l ≡ runs_of (drop (equals x l) l) → cond b (runs_after x l) (y ∷ runs_after y l) ≡ runs_of (drop (cond b (suc (equals x l)) 0) (y ∷ l))
    go true e = e
    go false e = refl

first_run : (k : ℕ) (l ks : List ℕ) → same_list (runs_of l) (k ∷ ks) ≡ (ltb 0 (equals k l) && same_list (runs_of (drop (equals k l) l)) ks)
unfolding equals
first_run k [] ks = refl
first_run k (x ∷ l) ks = go (eqb k x) refl
  where
    go : (b : Bool) → eqb k x ≡ b
        → (eqb x k && same_list (runs_after x l) ks) ≡ (ltb 0 (cond b (suc (equals k l)) 0) && same_list (runs_of (drop (cond b (suc (equals k l)) 0) (x ∷ l))) ks)
    go true e =
        rw (eq-eqb x k (sym (eqb-true k x e)), lt-ltb 0 (suc (equals k l)) (zero-lt-suc (equals k l)))
        (ap (λ (m : List ℕ). same_list m ks) (ap (λ (y : ℕ). runs_after y l) (sym (eqb-true k x e)) ∙ runs_after_lem k l))
    go false e = rw (ne_eqb x k (λ d. eqb-false k x e (sym d)))

drop_from : (at : ℕ → ℕ) (i m e : ℕ) → drop e (list_from at i m) ≡ list_from at (i + e) (m - e)
unfolding list_from
drop_from at i m zero = same (i + 0) (m - 0) (omega arith) (omega arith)
  where
    same : (j k : ℕ) → j ≡ i → k ≡ m → list_from at i m ≡ list_from at j k
    same j k e f = rw (e, f)
drop_from at i zero (suc e) = ap (list_from at (i + suc e)) none
  where
    none : 0 ≡ 0 - suc e
    none = omega arith
drop_from at i (suc m) (suc e) = drop_from at (suc i) m e ∙ same (i + suc e) (suc m - suc e) (omega arith) (omega arith)
  where
    same : (j k : ℕ) → j ≡ suc i + e → k ≡ m - e → list_from at (suc i + e) (m - e) ≡ list_from at j k
    same j k e f = rw (e, f)

-- ---- from an index on
pub runs_all : (at ks : ℕ → ℕ) (n m : ℕ) → same_list (runs_of (list_from at 0 n)) (list_from ks 0 m) ≡ same_list (runs_of (rest at n 0)) (rest ks m 0)
runs_all at ks n m = ap (λ (l : List ℕ). same_list (runs_of l) (list_from ks 0 m)) (rest_all at n) ∙ ap (same_list (runs_of (rest at n 0))) (rest_all ks m)

module _ (at ks : ℕ → ℕ) (n m from i : ℕ) where
  -- past the run of the number at index i
  abbrev pub past : ℕ
  past = from + equals (ks i) (rest at n from)

  turn : i < m → same_list (runs_of (rest at n from)) (rest ks m i) ≡ (ltb 0 (equals (ks i) (rest at n from)) && same_list (runs_of (rest at n past)) (rest ks m (i + 1)))
  turn h =
      ap (same_list (runs_of (rest at n from))) (rest_turn ks m i h)
      ∙ first_run (ks i) (rest at n from) (rest ks m (i + 1))
      ∙ ap (λ (l : List ℕ). ltb 0 (equals (ks i) (rest at n from)) && same_list (runs_of l) (rest ks m (i + 1)))
      (drop_from at from (n - from) (equals (ks i) (rest at n from)) ∙ ap (list_from at past) (omega arith))

  module _ (h : i < m) (next : ℕ) (is : next ≡ past) where
    pub runs_on : (next ≡ from → ⊥) → same_list (runs_of (rest at n from)) (rest ks m i) ≡ same_list (runs_of (rest at n next)) (rest ks m (i + 1))
    runs_on some =
        turn h
        ∙ ap (λ (t : Bool). t && same_list (runs_of (rest at n past)) (rest ks m (i + 1))) (lt-ltb 0 (equals (ks i) (rest at n from)) (more (equals (ks i) (rest at n from)) (λ e. some (is ∙ e))))
        ∙ ap (λ (k : ℕ). same_list (runs_of (rest at n k)) (rest ks m (i + 1))) (sym is)
      where
        more : (e : ℕ) → (from + e ≡ from → ⊥) → 0 < e
        more zero f = absurd (f (omega arith))
        more (suc e) f = zero-lt-suc e

    pub runs_fail : next ≡ from → same_list (runs_of (rest at n from)) (rest ks m i) ≡ false
    runs_fail none = turn h ∙ ap (λ (e : ℕ). ltb 0 e && same_list (runs_of (rest at n past)) (rest ks m (i + 1))) (less (equals (ks i) (rest at n from)) (sym is ∙ none))
      where
        less : (e : ℕ) → from + e ≡ from → e ≡ 0
        less e f = omega arith

  pub runs_end : m ≤ i → same_list (runs_of (rest at n from)) (rest ks m i) ≡ leb n from
  runs_end h = ap (same_list (runs_of (rest at n from))) (rest_end ks m i h) ∙ go (leb n from) refl
    where
      go : (t : Bool) → leb n from ≡ t → same_list (runs_of (rest at n from)) [] ≡ t
      go true e = ap (λ (l : List ℕ). same_list (runs_of l) []) (rest_end at n from (leb-true n from e))
      go false e = ap (λ (l : List ℕ). same_list (runs_of l) []) (rest_turn at n from (leb-false n from e))
