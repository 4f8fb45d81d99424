-- A test that every member of a list passes: it passes at each member, and where it passes at each, every one passes.
use mathlib.Core.Path.{◌≡◌, refl, ap, ◌∙◌}
use mathlib.Core.Logic.{◌⊎◌, inl, inr}
use mathlib.Core.Bool.{Bool, true}
use mathlib.Core.List.Memᴰ
use mathlib.Core.List.{List, [], ◌∷◌, map, Memᴰ}
use Rattle.ascii.specs.Lists.{every}
use Rattle.model.proofs.ListLaws.{both, left_of, right_of}

pub every_of : {S : Type 0} (p : S → Bool) (l : List S) → ((s : S) → Memᴰ s l → p s ≡ true) → every p l ≡ true
every_of p [] h = refl
every_of p (s ∷ l) h = both (p s) (every p l) (h s (Memᴰ.head refl)) (every_of p l (λ t m. h t (Memᴰ.tail m)))

pub every_at : {S : Type 0} (p : S → Bool) (l : List S) → every p l ≡ true → (s : S) → Memᴰ s l → p s ≡ true
every_at p [] e s d = absurd (Memᴰ.not-nil d)
every_at p (t ∷ l) e s d = go (every_at p l (right_of (p t) (every p l) e) s) (Memᴰ.cases_cons d)
  where
    go : (Memᴰ s l → p s ≡ true) → (s ≡ t) ⊎ Memᴰ s l → p s ≡ true
    go r (inl q) = ap p q ∙ left_of (p t) (every p l) e
    go r (inr m) = r m

pub every_map : {S T : Type 0} (p : T → Bool) (f : S → T) (l : List S) → ((s : S) → Memᴰ s l → p (f s) ≡ true) → every p (map f l) ≡ true
every_map p f [] h = refl
every_map p f (s ∷ l) h = both (p (f s)) (every p (map f l)) (h s (Memᴰ.head refl)) (every_map p f l (λ t m. h t (Memᴰ.tail m)))
