-- One entry carried over the gap, from behind it to the front or back, leaves the entries, with the gap closed, as they were.
use mathlib.Core.Path.{◌≡◌, refl, sym, ap, ◌∙◌}
use mathlib.Core.List.{List, [], ◌∷◌, ◌++◌, append_assoc}
use Prim.Native.Nat.{ℕ, zero, suc, ◌+◌, ◌-◌, ◌≤◌, ◌<◌}
use native.Mathlib.Nat.{le_of_suc-le-suc, not-suc-le-zero}
use native.Mathlib.Omega.{arith}
use lib.ListN.{length, take, drop, get_or, set, length-set}
use lib.Seq.{take-suc, drop-cons, take-set-le, drop-set-lt, take-suc-set}
use Rattle.gapped_slices.specs.Gaps.{closed}
use Rattle.gapped_slices.proofs.GapLaws.{parted}

module _ {A : Type 0} where
  -- ---- one entry over the gap, which is from i to j
  drop_set : (l : List A) (n : ℕ) (a : A) → n < length l → drop n (set l n a) ≡ a ∷ drop (suc n) l
  drop_set [] n a h = absurd (not-suc-le-zero h)
  drop_set (x ∷ l) zero a h = refl
  drop_set (x ∷ l) (suc n) a h = drop_set l n a (le_of_suc-le-suc h)

  to_front : (l : List A) (i j : ℕ) (d : A) → i ≤ j → j < length l → let v = get_or l j d in take (suc i) (set l i v) ++ drop (suc j) (set l i v) ≡ take i l ++ drop j l
  to_front l i j d h k =
      let v = get_or l j d in
      (λ p. take-suc-set l i v (omega arith) p ++ drop-set-lt (suc j) l i v (omega arith) p)
      ∙ append_assoc (take i l) (v ∷ []) (drop (suc j) l)
      ∙ ap (λ (r : List A). take i l ++ r) (sym (drop-cons l j d k))

  to_back : (l : List A) (i j : ℕ) (d : A) → i ≤ j → j < length l → let v = get_or l i d in take i (set l j v) ++ drop j (set l j v) ≡ take (suc i) l ++ drop (suc j) l
  to_back l i j d h k =
      let v = get_or l i d in
      (λ p. take-set-le i l j v h p ++ drop_set l j v k p)
      ∙ sym (append_assoc (take i l) (v ∷ []) (drop (suc j) l))
      ∙ ap (λ (r : List A). r ++ drop (suc j) l) (sym (take-suc l i d (omega arith)))

  -- ---- the same, by how many are before the gap and behind it
  pub carry_ahead : (l : List A) (n i gap : ℕ) (d : A) → gap + n ≡ length l → i < n → closed (suc i) (n - suc i) (set l i (get_or l (i + gap) d)) ≡ closed i (n - i) l
  carry_ahead l n i gap d e h =
      let v = get_or l (i + gap) d in
      parted (suc i) (n - suc i) (suc (i + gap)) (set l i v) (omega (arith, length-set l i v))
      ∙ to_front l i (i + gap) d (omega arith) (omega arith)
      ∙ sym (parted i (n - i) (i + gap) l (omega arith))

  pub carry_back : (l : List A) (n i gap : ℕ) (d : A) → gap + n ≡ length l → i < n → closed i (n - i) (set l (i + gap) (get_or l i d)) ≡ closed (suc i) (n - suc i) l
  carry_back l n i gap d e h =
      let v = get_or l i d in
      parted i (n - i) (i + gap) (set l (i + gap) v) (omega (arith, length-set l (i + gap) v))
      ∙ to_back l i (i + gap) d (omega arith) (omega arith)
      ∙ sym (parted (suc i) (n - suc i) (suc (i + gap)) l (omega arith))
