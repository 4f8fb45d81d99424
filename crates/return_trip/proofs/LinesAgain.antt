-- A text of whole lines, each of bytes of a line alone, has these lines and lies in the domain, since no line holds the byte that ends it.
use Prim.{tt}
use mathlib.Core.Path.{◌≡◌, refl, sym, ap, ◌∙◌}
use mathlib.Core.List.{List, [], ◌∷◌, ◌++◌, append_assoc}
use mathlib.Core.Bool.{Bool, true, false, ◌&&◌, ◌||◌, false≢true}
use Prim.Native.Nat.{ℕ}
use lib.Dec.{eqb}
use borrow.Author.Tests.{ne_eqb}
use Rattle.ascii.specs.Bytes.{bytes, first, is_text_byte}
use Rattle.ascii.specs.Lists.{every}
use Rattle.lines.specs.Domain.{in_domain}
use Rattle.lines.specs.Lines.{onto, lines_of}
use Rattle.model.specs.Lists.{All}
use Rattle.model.proofs.ListLaws.{left_of, right_of}
use Rattle.writer.specs.Text.{lines_text}
use Rattle.return_trip.proofs.FieldLaws.{IsText}

-- the same of each line as a test
pub lines_are_text : (lines : List (List ℕ)) → every (every is_text_byte) lines ≡ true → All IsText lines
lines_are_text [] e = tt
lines_are_text (line ∷ lines) e =
    (left_of (every is_text_byte line) (every (every is_text_byte) lines) e, lines_are_text lines (right_of (every is_text_byte line) (every (every is_text_byte) lines) e))

no_ending : (b : ℕ) → is_text_byte b ≡ true → (eqb b 10 ≡ false) × (eqb b 13 ≡ false)
no_ending b e = (ne_eqb b 10 (λ q. false≢true (sym (ap is_text_byte q) ∙ e)), ne_eqb b 13 (λ q. false≢true (sym (ap is_text_byte q) ∙ e)))

line_again : (line rest : List ℕ) → IsText line → lines_of (line ++ 10 ∷ rest) ≡ line ∷ lines_of rest
unfolding lines_of
line_again [] rest e = refl
line_again (b ∷ line) rest e =
    let n = no_ending b (left_of (is_text_byte b) (every is_text_byte line) e) in
    rw (n.0, n.1) (ap (onto b) (line_again line rest (right_of (is_text_byte b) (every is_text_byte line) e)))

line_inside : (line rest : List ℕ) → IsText line → in_domain (line ++ 10 ∷ rest) ≡ in_domain rest
unfolding in_domain
line_inside [] rest e = refl
line_inside (b ∷ line) rest e =
    ap (λ (t : Bool). (t || (eqb b 10 || (eqb b 13 && eqb (first (line ++ 10 ∷ rest)) 10))) && in_domain (line ++ 10 ∷ rest)) (left_of (is_text_byte b) (every is_text_byte line) e)
    ∙ line_inside line rest (right_of (is_text_byte b) (every is_text_byte line) e)

pub lines_again : (lines : List (List ℕ)) → All IsText lines → lines_of (lines_text lines) ≡ lines
unfolding lines_text lines_of
lines_again [] a = refl
lines_again (line ∷ lines) a =
    ap lines_of (append_assoc line (bytes "\n") (lines_text lines)) ∙ line_again line (lines_text lines) a.0 ∙ ap (λ (l : List (List ℕ)). line ∷ l) (lines_again lines a.1)

pub lines_inside : (lines : List (List ℕ)) → All IsText lines → in_domain (lines_text lines) ≡ true
unfolding lines_text in_domain
lines_inside [] a = refl
lines_inside (line ∷ lines) a =
    ap in_domain (append_assoc line (bytes "\n") (lines_text lines)) ∙ line_inside line (lines_text lines) a.0 ∙ lines_inside lines a.1
