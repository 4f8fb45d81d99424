-- Lists in another order: what holds of each entry holds still, and tests of all and of some and every sum stay what they were, since two neighbours may change
-- places in each of them.
use mathlib.Core.Path.{◌≡◌, refl, ◌∙◌, subst}
use mathlib.Core.Bool.{Bool, true, false, ◌&&◌, ◌||◌}
use mathlib.Core.List.{List, Permᴰ}
use Prim.Native.Nat.{ℕ, ◌+◌}
use native.Mathlib.Omega.{arith}
use Rattle.ascii.specs.Lists.{every}
use Rattle.model.specs.Lists.{any, All}
use Rattle.model.proofs.ClassLaws.{total}

and_exchanged : (a b c : Bool) → (a && (b && c)) ≡ (b && (a && c))
and_exchanged true true c = refl
and_exchanged true false c = refl
and_exchanged false true c = refl
and_exchanged false false c = refl

or_exchanged : (a b c : Bool) → (a || (b || c)) ≡ (b || (a || c))
or_exchanged true true c = refl
or_exchanged true false c = refl
or_exchanged false true c = refl
or_exchanged false false c = refl

module _ {S : Type 0} where
  pub all_reordered : (P : S → Type 0) {l m : List S} → Permᴰ l m → All P l → All P m
  all_reordered P Permᴰ.nil a = a
  all_reordered P (Permᴰ.cons e d) a = (subst P e a.0, all_reordered P d a.1)
  all_reordered P (Permᴰ.swap e₁ e₂) a = (subst P e₂ a.1.0, (subst P e₁ a.0, a.1.1))
  all_reordered P (Permᴰ.trans d₁ d₂) a = all_reordered P d₂ (all_reordered P d₁ a)

  pub every_reordered : (p : S → Bool) {l m : List S} → Permᴰ l m → every p l ≡ every p m
  every_reordered p Permᴰ.nil = refl
  every_reordered p (Permᴰ.cons e d) = λ i. p (e i) && every_reordered p d i
  every_reordered p (Permᴰ.swap {a} {b} {l = l} e₁ e₂) = and_exchanged (p a) (p b) (every p l) ∙ λ i. p (e₂ i) && (p (e₁ i) && every p l)
  every_reordered p (Permᴰ.trans d₁ d₂) = every_reordered p d₁ ∙ every_reordered p d₂

  pub any_reordered : (p : S → Bool) {l m : List S} → Permᴰ l m → any p l ≡ any p m
  any_reordered p Permᴰ.nil = refl
  any_reordered p (Permᴰ.cons e d) = λ i. p (e i) || any_reordered p d i
  any_reordered p (Permᴰ.swap {a} {b} {l = l} e₁ e₂) = or_exchanged (p a) (p b) (any p l) ∙ λ i. p (e₂ i) || (p (e₁ i) || any p l)
  any_reordered p (Permᴰ.trans d₁ d₂) = any_reordered p d₁ ∙ any_reordered p d₂

  pub total_reordered : (w : S → ℕ) {l m : List S} → Permᴰ l m → total w l ≡ total w m
  unfolding total
  total_reordered w Permᴰ.nil = refl
  total_reordered w (Permᴰ.cons e d) = λ i. w (e i) + total_reordered w d i
  total_reordered w (Permᴰ.swap {a} {b} {l = l} e₁ e₂) = exchanged (w a) (w b) (total w l) ∙ λ i. w (e₂ i) + (w (e₁ i) + total w l)
    where
      exchanged : (x y z : ℕ) → x + (y + z) ≡ y + (x + z)
      exchanged x y z = omega arith
  total_reordered w (Permᴰ.trans d₁ d₂) = total_reordered w d₁ ∙ total_reordered w d₂
