-- A text whose lines hold 9 and 32 to 126 alone is in the domain: of its other bytes 10 ends a line, and a 13 that stands before no 10 would be in a line.
use mathlib.Core.Path.{◌≡◌, refl, ap}
use mathlib.Core.List.{List, [], ◌∷◌}
use mathlib.Core.Bool.{Bool, true, false, ◌&&◌, ◌||◌, cond, or-true}
use Prim.Native.Nat.{ℕ}
use lib.Dec.{eqb}
use Rattle.ascii.specs.Bytes.{first, is_text_byte}
use Rattle.ascii.specs.Lists.{every}
use Rattle.lines.specs.Domain.{in_domain}
use Rattle.lines.specs.Lines.{onto, lines_of}
use Rattle.model.proofs.ListLaws.{both, left_of, right_of}

abbrev AreText : List (List ℕ) → Type 0
AreText lines = every (every is_text_byte) lines ≡ true

-- a byte in front of the first line
byte_of : (b : ℕ) (lines : List (List ℕ)) → AreText (onto b lines) → is_text_byte b ≡ true
byte_of b [] e = left_of (is_text_byte b) true (left_of (is_text_byte b && true) true e)
byte_of b (line ∷ lines) e = left_of (is_text_byte b) (every is_text_byte line) (left_of (is_text_byte b && every is_text_byte line) (every (every is_text_byte) lines) e)

others_of : (b : ℕ) (lines : List (List ℕ)) → AreText (onto b lines) → AreText lines
others_of b [] e = refl
others_of b (line ∷ lines) e =
    let first = left_of (is_text_byte b && every is_text_byte line) (every (every is_text_byte) lines) e in
    both (every is_text_byte line) (every (every is_text_byte) lines) (right_of (is_text_byte b) (every is_text_byte line) first)
    (right_of (is_text_byte b && every is_text_byte line) (every (every is_text_byte) lines) e)

-- ---- the theorem
pub domain_by_lines : (text : List ℕ) → every (every is_text_byte) (lines_of text) ≡ true → in_domain text ≡ true
unfolding in_domain lines_of
domain_by_lines [] e = refl
domain_by_lines (b ∷ bs) e = go (eqb b 10) (eqb b 13 && eqb (first bs) 10) e (domain_by_lines bs)
  where
    go : (u v : Bool) → AreText (cond u ([] ∷ lines_of bs) (cond v (lines_of bs) (onto b (lines_of bs)))) → (AreText (lines_of bs) → in_domain bs ≡ true)
        → ((is_text_byte b || (u || v)) && in_domain bs) ≡ true
    go true v e further = both (is_text_byte b || true) (in_domain bs) (or-true (is_text_byte b)) (further e)
    go false true e further = both (is_text_byte b || true) (in_domain bs) (or-true (is_text_byte b)) (further e)
    go false false e further =
        both (is_text_byte b || false) (in_domain bs) (ap (λ (t : Bool). t || false) (byte_of b (lines_of bs) e)) (further (others_of b (lines_of bs) e))
