-- A text that begins with a sign has a first byte, which is left out; any other is left as it is.
use mathlib.Core.Path.{◌≡◌, refl, sym, ◌∙◌}
use mathlib.Core.List.{List, [], ◌∷◌}
use mathlib.Core.Bool.{true, false, ◌||◌}
use mathlib.Core.Logic.{◌⊎◌, inl, inr}
use Prim.Native.Nat.{ℕ, ◌-◌, ◌≤◌, ◌<◌}
use native.Mathlib.Omega.{arith}
use lib.Dec.{eqb}
use lib.ListN.{length, get_or, take, drop}
use borrow.Author.Tests.{ne_eqb}
use Rattle.ascii.specs.Bytes.{first}
use Rattle.ascii.specs.Signs.{is_sign, after_sign}
use Rattle.ascii.proofs.ListLaws.{some_passes, tail_is}

pub sign_some : (s : List ℕ) → is_sign (first s) ≡ true → 1 ≤ length s
unfolding is_sign
sign_some s e = some_passes (λ b. eqb b 45 || eqb b 43) s refl e

pub after_sign_lem : (s : List ℕ) → is_sign (first s) ≡ true → after_sign s ≡ drop 1 s
unfolding after_sign
after_sign_lem s e = simp e

pub after_none : (s : List ℕ) → is_sign (first s) ≡ false → after_sign s ≡ s
unfolding after_sign
after_none s e = simp e

-- by the byte itself, as the code reads it
pub sign_rest : (s : List ℕ) → (get_or s 0 0 ≡ 45) ⊎ (get_or s 0 0 ≡ 43) → take (length s - 1) (drop 1 s) ≡ after_sign s
unfolding is_sign
sign_rest s (inl e) = tail_is 1 s ∙ sym (after_sign_lem s (rw e))
sign_rest s (inr e) = tail_is 1 s ∙ sym (after_sign_lem s (rw e))

pub no_sign : (s : List ℕ) → ((get_or s 0 0 ≡ 45) ⊎ (get_or s 0 0 ≡ 43) → ⊥) → s ≡ after_sign s
unfolding is_sign
no_sign s n = sym (after_none s (rw (ne_eqb (get_or s 0 0) 45 (λ e. n (inl e)), ne_eqb (get_or s 0 0) 43 (λ e. n (inr e)))))

pub nothing : (s : List ℕ) → length s < 1 → s ≡ after_sign s
unfolding is_sign after_sign
nothing [] h = refl
nothing (b ∷ s) h = absurd (omega arith)
