-- A name is written in one of three ways. The library's walk that looks for a byte is `has`, and the one that looks whether all are plain is `all_plain`.
use mathlib.Core.Path.{◌≡◌, refl, ap}
use mathlib.Core.List.{List, [], ◌∷◌, ◌++◌}
use mathlib.Core.Bool.{Bool, true, false, ◌&&◌, ◌||◌}
use Prim.Native.Nat.{ℕ, ◌+◌}
use native.Mathlib.Omega.{arith}
use lib.Dec.{eqb}
use lib.ListN.{length, length-append}
use Rattle.std.specs.List.{list_any, list_all}
use Rattle.ascii.specs.Bytes.{bytes}
use Rattle.ascii.proofs.TestLaws.{left_of, right_of}
use Rattle.tokens.specs.Kinds.{is_plain}
use Rattle.tokens.specs.Quote.{has, all_plain, quote_for, in_quotes, quote_of}

-- ---- the loops' words
pub any_is_has : (b : ℕ) (s : List ℕ) → list_any (λ c. eqb c b) s ≡ has b s
unfolding has
any_is_has b [] = refl
any_is_has b (c ∷ s) = ap (λ (t : Bool). eqb c b || t) (any_is_has b s)

pub all_are_plain : (s : List ℕ) → list_all is_plain s ≡ all_plain s
unfolding all_plain
all_are_plain [] = refl
all_are_plain (b ∷ s) = ap (λ (t : Bool). is_plain b && t) (all_are_plain s)

-- two texts of plain bytes make one
pub plain_append : (s t : List ℕ) → all_plain s ≡ true → all_plain t ≡ true → all_plain (s ++ t) ≡ true
unfolding all_plain
plain_append [] t e f = f
plain_append (b ∷ s) t e f = rw (left_of (is_plain b) (all_plain s) e) (plain_append s t (right_of (is_plain b) (all_plain s) e) f)

-- ---- the three ways
pub quote_empty : (name : List ℕ) → length name ≡ 0 → quote_of name ≡ bytes "?"
unfolding quote_of
quote_empty [] e = refl
quote_empty (b ∷ s) e = absurd (omega arith)

pub quote_bare : (name : List ℕ) → (length name ≡ 0 → ⊥) → all_plain name ≡ true → quote_of name ≡ name
unfolding quote_of
quote_bare [] n e = absurd (n refl)
quote_bare (b ∷ s) n e = rw e

pub quote_quoted : (name : List ℕ) → (length name ≡ 0 → ⊥) → all_plain name ≡ false → quote_of name ≡ in_quotes (quote_for name) name
unfolding quote_of
quote_quoted [] n e = absurd (n refl)
quote_quoted (b ∷ s) n e = rw e

pub quoted_length : (q : ℕ) (name : List ℕ) → length name + 2 ≡ length (in_quotes q name)
quoted_length q name = simp length-append (omega arith)
