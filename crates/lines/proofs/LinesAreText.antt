-- The lines of a text in the domain have only bytes 9 and 32 to 126: of the other two that are allowed, 10 ends a line, and 13 stands before a 10 and is left out.
use mathlib.Core.Path.{◌≡◌, refl}
use mathlib.Core.List.{List, [], ◌∷◌}
use mathlib.Core.Bool.{Bool, true, false, ◌&&◌, ◌||◌, cond, false≢true}
use Prim.Native.Nat.{ℕ}
use lib.Dec.{eqb}
use Rattle.ascii.specs.Bytes.{first, is_text_byte}
use Rattle.ascii.specs.Lists.{every}
use Rattle.ascii.proofs.TestLaws.{right_of}
use Rattle.lines.specs.Domain.{in_domain}
use Rattle.lines.specs.Lines.{onto, lines_of}

-- each line has only such bytes
abbrev AreText : List (List ℕ) → Type 0
AreText lines = every (every is_text_byte) lines ≡ true

onto_text : (b : ℕ) (lines : List (List ℕ)) → is_text_byte b ≡ true → AreText lines → AreText (onto b lines)
onto_text b [] h e = rw h
onto_text b (line ∷ lines) h e = rw h e

pub lines_are_text : (text : List ℕ) → in_domain text ≡ true → every (every is_text_byte) (lines_of text) ≡ true
unfolding in_domain lines_of
lines_are_text [] e = refl
lines_are_text (b ∷ bs) e = go (is_text_byte b) (eqb b 10) (eqb b 13 && eqb (first bs) 10) refl e (lines_are_text bs)
  where
    go :
        (t u v : Bool) → is_text_byte b ≡ t → ((t || (u || v)) && in_domain bs) ≡ true → (in_domain bs ≡ true → AreText (lines_of bs))
        → AreText (cond u ([] ∷ lines_of bs) (cond v (lines_of bs) (onto b (lines_of bs))))
    go t true v h e further = further (right_of (t || true) (in_domain bs) e)
    go t false true h e further = further (right_of (t || true) (in_domain bs) e)
    go true false false h e further = onto_text b (lines_of bs) h (further e)
    go false false false h e further = absurd (false≢true e)
