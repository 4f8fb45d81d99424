-- The library makes the letters of both texts small and compares them; byte by byte that is `eq_ignore_case`.
use mathlib.Core.Path.{◌≡◌, refl, ap, ◌∙◌}
use mathlib.Core.List.{List, [], ◌∷◌, map}
use mathlib.Core.Bool.{Bool, true, false, not, ◌&&◌, cond}
use Prim.Native.Nat.{ℕ, ◌+◌, ◌≤◌, ◌<◌}
use native.Mathlib.Omega.{arith}
use lib.Dec.{T, eqb, leb, leb→le, nleb→lt}
use borrow.Author.Rules.{rules}
use borrow.Author.Tests.{lt-ltb, le-ltb}
use Rattle.std.specs.Bool.{Decides}
use Rattle.std.specs.Char.{to_ascii_lowercase}
use Rattle.std.specs.Prelude.{IsTrue, ◌↔◌}
use Rattle.std.specs.Str.{bytes_eq}
use Rattle.std.proofs.lemmas.Slice.Eq.{bytes_eq-Decides}
use Rattle.ascii.specs.Letters.{lowercase, eq_ignore_case}

lower_same : (b : ℕ) → to_ascii_lowercase b ≡ lowercase b
lower_same b = go (leb 65 b) (leb b 90) (leb→le 65 b) (nleb→lt 65 b) (leb→le b 90) (nleb→lt b 90)
  where
    go : (t u : Bool) → (T t → 65 ≤ b) → (T (not t) → b < 65) → (T u → b ≤ 90) → (T (not u) → 90 < b) → to_ascii_lowercase b ≡ cond (t && u) (b + 32) b
    go true true h h' k k' = let x : 65 ≤ b = h tt in let y : b < 91 = omega (arith, k tt) in simp (le-ltb b 65 x, lt-ltb b 91 y)
    go true false h h' k k' = let x : 65 ≤ b = h tt in let y : 91 ≤ b = omega (arith, k' tt) in simp (le-ltb b 65 x, le-ltb b 91 y)
    go false u h h' k k' = simp (lt-ltb b 65 (h' tt))

lowers_same : (s : List ℕ) → map to_ascii_lowercase s ≡ map lowercase s
lowers_same [] = refl
lowers_same (b ∷ s) = rw (lower_same b, lowers_same s)

alike_lowers : (s t : List ℕ) → bytes_eq (map lowercase s) (map lowercase t) ≡ eq_ignore_case s t
unfolding eq_ignore_case
alike_lowers [] [] = refl
alike_lowers [] (c ∷ t) = refl
alike_lowers (b ∷ s) [] = refl
alike_lowers (b ∷ s) (c ∷ t) = ap (λ (r : Bool). eqb (lowercase b) (lowercase c) && r) (alike_lowers s t)

decided : (xs ys : List ℕ) (r : Bool) → Decides r (xs ≡ ys) → r ≡ bytes_eq xs ys
decided xs ys r h = search (rules, bytes_eq-Decides)

pub alike_is : (s t : List ℕ) (r : Bool) → (IsTrue r ↔ (map to_ascii_lowercase s ≡ map to_ascii_lowercase t)) → r ≡ eq_ignore_case s t
alike_is s t r h = decided (map lowercase s) (map lowercase t) r (rw (lowers_same s, lowers_same t) at h) ∙ alike_lowers s t
