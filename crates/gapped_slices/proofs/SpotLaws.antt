-- What a search says that asks of each entry how it stands to the one that is looked for: a look narrows where that one belongs to one place, and
-- where the entries ascend it is the walk's.
use mathlib.Core.Path.{◌≡◌, sym, ap, ◌∙◌, subst}
use mathlib.Core.List.{List}
use mathlib.Core.Bool.{Bool, false≢true}
use mathlib.Core.Logic.{⊎_elim}
use Rattle.std.specs.Ordering.{is_gt}
use Prim.Native.Nat.{ℕ, ◌+◌, ◌≤◌, ◌<◌}
use native.Mathlib.Nat.{not-suc-le-zero, eq-or-lt_of_le}
use native.Mathlib.Omega.{arith}
use lib.ListN.{length, get_or}
use Rattle.std.proofs.Common.{Result, Ok, Err, Ordering, Less, Greater}
use Rattle.field_slices.specs.Places.{Ascending, Found}
use Rattle.field_slices.proofs.RankLaws.{Ranking, less_from, more_from, found_here, found_gap, rises}
use Rattle.gapped_slices.specs.Ranks.{OfRanks, Rises, FirstLess, Closes, Sought}
use Rattle.gapped_slices.specs.Spots.{Spotted}

-- ---- looks
module _ {by : ℕ → Ordering} {n : ℕ} where
  -- the i-th is less, so all up to it are
  pub less_up : {i : ℕ} → i < n → by i ≡ Less → FirstLess by n (i + 1)
  less_up {i} h e r j k = ⊎_elim (λ q. ap by q ∙ e) (λ q. r j i q h (λ f. false≢true (ap is_gt (sym e ∙ f)))) (eq-or-lt_of_le (omega arith))

  pub none_less : FirstLess by n 0
  none_less r j h = absurd (not-suc-le-zero h)

  -- one look narrows it, until none is left
  pub closes_up : {lo hi i : ℕ} → Closes by n lo hi → i < n → by i ≡ Less → Closes by n (i + 1) hi
  closes_up c h e = record { before = less_up h e; behind = c.behind }

  pub closes_down : {lo hi i : ℕ} → Closes by n lo hi → by i ≡ Greater → Closes by n lo i
  closes_down {lo} {hi} {i} c e = record { before = c.before; behind = λ h. e }

  pub closed_in : {lo hi : ℕ} → Closes by n lo hi → hi ≡ lo → lo ≤ n → Sought by n (Err lo)
  closed_in {lo} {hi} c e h = (h, subst (Closes by n lo) e c)

-- what is found among the first k is found among all, where the one behind them is greater
module _ (by : ℕ → Ordering) {n k : ℕ} (h : k ≤ n) where
  rises_first : Rises by n → Rises by k
  rises_first r i j p q = r i j p (omega (arith, q, h))

  pub sought_first : (k < n → by k ≡ Greater) → (r : Result ℕ ℕ) → Sought by k r → Sought by n r
  sought_first g (Ok i) s = (omega (arith, s.0, h), s.1)
  sought_first g (Err i) s = (
    omega (arith, s.0, h),
    record {
      before = λ r. s.1.before (rises_first r);
      behind = λ q. ⊎_elim (λ e. ap by e ∙ g (omega (arith, q, e))) s.1.behind (eq-or-lt_of_le s.0);
    },
  )

-- ---- in a list
module _ {A : Type 0} {less : A → A → Bool} {cmp : A → A → Ordering} (o : Ranking less cmp) (d : A) (l : List A) (x : A) where
  pub rising : Ascending less l → Rises (λ i. cmp (get_or l i d) x) (length l)
  rising s i j h k n = rises o l x d s h k n

  pub spotted : (r : Result ℕ ℕ) → Sought (λ i. cmp (get_or l i d) x) (length l) r → Spotted less l x r
  spotted (Ok i) h = let f = found_here o l x d h.0 h.1 in record { inside = h.0; place = f.place }
  spotted (Err i) h =
      let f : Found less l x (Err i) = found_gap o l x d h.0 (λ s. (λ j k. less_from o (get_or l j d) x (h.1.before (rising s) j k), λ k. more_from o (get_or l i d) x (h.1.behind k))) in
      record { inside = h.0; place = f.place }

  -- the calls answer of n entries of l, each as it stands somewhere
  pub spotted_by : (n : ℕ) → length l ≡ n → (at : ℕ → A) → ((i : ℕ) → i < n → get_or l i d ≡ at i) → (r : Result ℕ ℕ) → OfRanks (λ i q. q ≡ cmp (at i) x) n (λ by. Sought by n r) → Spotted less l x r
  spotted_by n size at stands r f =
      let by : ℕ → Ordering = λ i. cmp (get_or l i d) x in
      spotted r (subst (λ (m : ℕ). Sought by m r) (sym size) (f by (λ i q h e. e ∙ ap (λ y. cmp y x) (sym (stands i h)))))
