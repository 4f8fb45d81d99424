-- What `compare` says of two numbers, and what `nearest`, the library's choice between q and q + 1, then is.
use mathlib.Core.Path.{◌≡◌, refl, sym, subst}
use mathlib.Core.Logic.{◌⊎◌, inl, inr}
use Prim.Native.Nat.{ℕ, suc, ◌+◌, ◌%◌, ◌≤◌, ◌<◌, compare, Ordering}
use native.Mathlib.Omega.{arith}
use mathlib.Core.Bool.{Bool, true, false, not}
use lib.Dec.{T, leb, eqb, is_le, compare_is_eq, leb→le, nleb→lt, eqb→eq, eqb_refl}
use lib.Arith.{lt_of_le-ne}
use lib.Ieee.{nearest}

abbrev pub Compared : Ordering → ℕ → ℕ → Type 0
Compared Ordering.lt a b = a < b
Compared Ordering.eq a b = a ≡ b
Compared Ordering.gt a b = b < a

pub compared : (a b : ℕ) → Compared (compare a b) a b
compared a b = go (compare a b) (leb→le a b) (nleb→lt a b) (eqb→eq a b) (λ (e : a ≡ b). subst (λ (x : ℕ). T (eqb a x)) e (eqb_refl a))
  where
    go : (o : Ordering) → (T (is_le o) → a ≤ b) → (T (not (is_le o)) → b < a) → (T (compare_is_eq o) → a ≡ b) → (a ≡ b → T (compare_is_eq o)) → Compared o a b
    go Ordering.lt h k e n = lt_of_le-ne (h tt) n
    go Ordering.eq h k e n = e tt
    go Ordering.gt h k e n = k tt

pub le_or_lt : (a b : ℕ) → (a ≤ b) ⊎ (b < a)
le_or_lt a b = go (leb a b) (leb→le a b) (nleb→lt a b)
  where
    go : (t : Bool) → (T t → a ≤ b) → (T (not t) → b < a) → (a ≤ b) ⊎ (b < a)
    go true h k = inl (h tt)
    go false h k = inr (k tt)

-- ---- by how a and b compare
never_both : (a b : ℕ) → a < b → b < a → ⊥
never_both a b h k = omega arith

never_equal : (a b : ℕ) → a < b → a ≡ b → ⊥
never_equal a b h k = omega arith

pub nearest_lt : (q a b : ℕ) → a < b → nearest q (compare a b) ≡ q
nearest_lt q a b h = go (compare a b) (compared a b)
  where
    go : (o : Ordering) → Compared o a b → nearest q o ≡ q
    go Ordering.lt c = refl
    go Ordering.eq c = absurd (never_equal a b h c)
    go Ordering.gt c = absurd (never_both a b h c)

pub nearest_gt : (q a b : ℕ) → b < a → nearest q (compare a b) ≡ suc q
nearest_gt q a b h = go (compare a b) (compared a b)
  where
    go : (o : Ordering) → Compared o a b → nearest q o ≡ suc q
    go Ordering.lt c = absurd (never_both a b c h)
    go Ordering.eq c = absurd (never_equal b a h (sym c))
    go Ordering.gt c = refl

pub nearest_eq : (q a b : ℕ) → a ≡ b → nearest q (compare a b) ≡ q + q % 2
nearest_eq q a b h = go (compare a b) (compared a b)
  where
    go : (o : Ordering) → Compared o a b → nearest q o ≡ q + q % 2
    go Ordering.lt c = absurd (never_equal a b c h)
    go Ordering.eq c = refl
    go Ordering.gt c = absurd (never_equal b a c (sym h))
