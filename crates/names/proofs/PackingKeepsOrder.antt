-- The order of packed numbers is the order of the names' bytes, both ways.
use mathlib.Core.Path.{◌≡◌, sym, subst}
use mathlib.Core.Logic.{◌↔◌, inl, inr, ⊎_elim}
use mathlib.Core.List.{List, [], ◌∷◌}
use Prim.Native.Nat.{ℕ, zero, suc, ◌+◌, ◌*◌, ◌^◌, ◌≤◌, ◌<◌, suc-le-suc}
use native.Mathlib.Nat.{le_refl, lt_irrefl, lt_trans, lt_of_lt_of_le, eq-or-lt_of_le, le_of_suc-le-suc, not-suc-le-zero, zero-lt-suc, le-add_right, add-lt-add_of_le_of_lt, mul-pos}
use native.Mathlib.Omega.{arith}
use lib.Arith.{digits_lt, add-lt_cancel_left}
use lib.ListN.{length}
use Rattle.names.specs.Packing.{IsName, packed_in, packed, Before}
use Rattle.names.proofs.PackingTurns.{some_room}
use Rattle.names.proofs.PackingIsOneToOne.{Letters, below}

-- a name without its first byte
rest : (b : ℕ) (s : List ℕ) → Letters (b ∷ s) → Letters s
rest b s l i h = l (suc i) (suc-le-suc h)

-- the first byte decides, whatever comes after it
first_less : (k b c : ℕ) (s t : List ℕ) → Letters (b ∷ s) → b < c → packed_in (suc k) (b ∷ s) < packed_in (suc k) (c ∷ t)
unfolding packed_in
first_less k b c s t l less = lt_of_lt_of_le (digits_lt less (below k s (λ i h. (rest b s l i h).1))) (le-add_right (c * 256 ^ k) (packed_in k t))

before_less : (k : ℕ) (s t : List ℕ) → length s ≤ k → length t ≤ k → Letters s → Letters t → Before s t → packed_in k s < packed_in k t
unfolding Before packed_in
before_less k [] [] h j l m a = absurd a
before_less k (b ∷ s) [] h j l m a = absurd a
before_less zero [] (c ∷ t) h j l m a = absurd (not-suc-le-zero j)
before_less zero (b ∷ s) (c ∷ t) h j l m a = absurd (not-suc-le-zero j)
before_less (suc k) [] (c ∷ t) h j l m a = lt_of_lt_of_le (mul-pos (m 0 (zero-lt-suc (length t))).0 (some_room k)) (le-add_right (c * 256 ^ k) (packed_in k t))
before_less (suc k) (b ∷ s) (c ∷ t) h j l m (inl less) = first_less k b c s t l less
before_less (suc k) (b ∷ s) (c ∷ t) h j l m (inr (e, a)) =
    subst (λ (d : ℕ). b * 256 ^ k + packed_in k s < d * 256 ^ k + packed_in k t) e
    (add-lt-add_of_le_of_lt (le_refl (b * 256 ^ k)) (before_less k s t (le_of_suc-le-suc h) (le_of_suc-le-suc j) (rest b s l) (rest c t m) a))

less_before : (k : ℕ) (s t : List ℕ) → length s ≤ k → length t ≤ k → Letters s → Letters t → packed_in k s < packed_in k t → Before s t
unfolding Before packed_in
less_before zero s t h j l m a = absurd (not-suc-le-zero a)
less_before (suc k) [] [] h j l m a = not-suc-le-zero a
less_before (suc k) [] (c ∷ t) h j l m a = tt
less_before (suc k) (b ∷ s) [] h j l m a = not-suc-le-zero a
less_before (suc k) (b ∷ s) (c ∷ t) h j l m a =
    ⊎_elim (λ e. inr (e, less_before k s t (le_of_suc-le-suc h) (le_of_suc-le-suc j) (rest b s l) (rest c t m) (after e))) (λ less. inl less)
    (eq-or-lt_of_le (no_more (λ more. lt_irrefl (packed_in (suc k) (b ∷ s)) (lt_trans a (first_less k c b t s m more)))))
  where
    no_more : (c < b → ⊥) → b ≤ c
    no_more n = omega arith

    after : b ≡ c → packed_in k s < packed_in k t
    after e = add-lt_cancel_left (b * 256 ^ k) (subst (λ (d : ℕ). b * 256 ^ k + packed_in k s < d * 256 ^ k + packed_in k t) (sym e) a)

pub order : (s t : List ℕ) → IsName s → IsName t → (packed s < packed t) ↔ Before s t
order s t h k = (less_before 8 s t h.short k.short h.bytes k.bytes, before_less 8 s t h.short k.short h.bytes k.bytes)
