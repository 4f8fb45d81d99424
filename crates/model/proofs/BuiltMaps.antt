-- A map into which the members of a list are put, one after the other: it ascends, and what stands at a key is what those of that key leave there.
-- So two lists that leave the same at every key build the same map.
use Prim.{tt}
use mathlib.Core.Path.{◌≡◌, refl, sym, ap, ◌∙◌, subst}
use mathlib.Core.Bool.{Bool, true, false, cond}
use mathlib.Core.List.{List, [], ◌∷◌}
use mathlib.Core.Option.{Option, none, some}
use Prim.Native.Nat.{ℕ}
use native.Mathlib.Omega.{arith}
use lib.Dec.{eqb}
use borrow.Author.Tests.{eqb-true, eqb-false}
use Rattle.model.specs.Map.{Map, find, put, Ascending}
use Rattle.model.proofs.ClassLaws.{those}
use Rattle.model.proofs.MapLaws.{find_put, find_put_other, ascending_put, same_map}

-- what is left at a key by those of l, in order
abbrev pub left : {S W : Type 0} → (S → Option W → W) → Option W → List S → Option W
left u o [] = o
left u o (s ∷ l) = left u (some (u s o)) l

module _ {S W : Type 0} (k : S → ℕ) (u : S → Option W → W) where
  unfoldable pub build : Map W → List S → Map W
  build m [] = m
  build m (s ∷ l) = build (put (k s) (u s) m) l

  pub build_ascends : (m : Map W) (l : List S) → Ascending m → Ascending (build m l)
  unfolding build
  build_ascends m [] a = a
  build_ascends m (s ∷ l) a = build_ascends (put (k s) (u s) m) l (ascending_put (k s) (u s) 0 m (omega arith) a)

  pub find_build : (x : ℕ) (m : Map W) (l : List S) → find x (build m l) ≡ left u (find x m) (those k x l)
  unfolding build
  find_build x m [] = refl
  find_build x m (s ∷ l) = find_build x (put (k s) (u s) m) l ∙ go (eqb (k s) x) refl
    where
      go : (b : Bool) → eqb (k s) x ≡ b → left u (find x (put (k s) (u s) m)) (those k x l) ≡ left u (find x m) (cond b (s ∷ those k x l) (those k x l))
      go true e = ap (λ (o : Option W). left u o (those k x l)) (subst (λ (y : ℕ). find y (put (k s) (u s) m) ≡ some (u s (find y m))) (eqb-true (k s) x e) (find_put (k s) (u s) m))
      go false e = ap (λ (o : Option W). left u o (those k x l)) (find_put_other (k s) (u s) x m (λ q. eqb-false (k s) x e (sym q)))

  pub find_built : (x : ℕ) (l : List S) → find x (build [] l) ≡ left u none (those k x l)
  unfolding find
  find_built x l = find_build x [] l

  pub same_build : (l₁ l₂ : List S) → ((x : ℕ) → left u none (those k x l₁) ≡ left u none (those k x l₂)) → build [] l₁ ≡ build [] l₂
  same_build l₁ l₂ h = same_map 0 (build [] l₁) (build [] l₂) (build_ascends [] l₁ tt) (build_ascends [] l₂ tt) (λ x. find_built x l₁ ∙ h x ∙ sym (find_built x l₂))
