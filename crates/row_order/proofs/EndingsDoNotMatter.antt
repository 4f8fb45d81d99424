-- Lines put together are these lines again, whatever their endings: a byte of a line is neither 10 nor 13, so that a line goes as far as its ending.
use mathlib.Core.Path.{◌≡◌, refl, sym, ap, ◌∙◌}
use mathlib.Core.Bool.{Bool, true, false, false≢true}
use mathlib.Core.List.{List, [], ◌∷◌, ◌++◌, map}
use Prim.Native.Nat.{ℕ}
use lib.Dec.{eqb}
use borrow.Author.Tests.{eqb-true}
use Rattle.ascii.specs.Bytes.{is_text_byte}
use Rattle.ascii.specs.Lists.{every}
use Rattle.lines.specs.Lines.{onto, lines_of}
use Rattle.model.proofs.ListLaws.{left_of, right_of}
use Rattle.row_order.specs.Endings.{Ending, feed, return_and_feed, ending_bytes, Ended, together, last_line}

-- a number that is no byte of a line
no_byte_of_line : (n : ℕ) → is_text_byte n ≡ false → (b : ℕ) → is_text_byte b ≡ true → eqb b n ≡ false
no_byte_of_line n f b e = go (eqb b n) refl
  where
    go : (t : Bool) → eqb b n ≡ t → t ≡ false
    go true h = absurd (false≢true (sym f ∙ ap is_text_byte (sym (eqb-true b n h)) ∙ e))
    go false h = refl

-- a byte of a line stands in front of the first line behind it
in_front : (b : ℕ) (bs : List ℕ) → is_text_byte b ≡ true → lines_of (b ∷ bs) ≡ onto b (lines_of bs)
unfolding lines_of
in_front b bs e = rw (no_byte_of_line 10 refl b e, no_byte_of_line 13 refl b e)

-- ---- an ending
at_ending : (ending : Ending) (rest : List ℕ) → lines_of (ending_bytes ending ++ rest) ≡ [] ∷ lines_of rest
unfolding lines_of
at_ending feed rest = refl
at_ending return_and_feed rest = refl

-- ---- a line
one_line : (line : List ℕ) (ending : Ending) (rest : List ℕ) → every is_text_byte line ≡ true → lines_of (line ++ (ending_bytes ending ++ rest)) ≡ line ∷ lines_of rest
one_line [] ending rest e = at_ending ending rest
one_line (b ∷ line) ending rest e =
    in_front b (line ++ (ending_bytes ending ++ rest)) (left_of (is_text_byte b) (every is_text_byte line) e)
    ∙ ap (onto b) (one_line line ending rest (right_of (is_text_byte b) (every is_text_byte line) e))

last_is : (last : List ℕ) → every is_text_byte last ≡ true → lines_of last ≡ last_line last
unfolding lines_of
last_is [] e = refl
last_is (b ∷ bs) e = in_front b bs (left_of (is_text_byte b) (every is_text_byte bs) e) ∙ ap (onto b) (last_is bs (right_of (is_text_byte b) (every is_text_byte bs) e)) ∙ go bs
  where
    go : (bs : List ℕ) → onto b (last_line bs) ≡ (b ∷ bs) ∷ []
    go [] = refl
    go (c ∷ bs) = refl

-- ---- the theorem
pub endings_do_not_matter : (lines : List Ended) (last : List ℕ) → every (every is_text_byte) (map (λ e. e.line) lines) ≡ true → every is_text_byte last ≡ true
    → lines_of (together lines last) ≡ map (λ e. e.line) lines ++ last_line last
unfolding together
endings_do_not_matter [] last t u = last_is last u
endings_do_not_matter (e ∷ lines) last t u =
    let rest = every (every is_text_byte) (map (λ (e : Ended). e.line) lines) in
    one_line e.line e.ending (together lines last) (left_of (every is_text_byte e.line) rest t)
    ∙ ap (λ (l : List (List ℕ)). e.line ∷ l) (endings_do_not_matter lines last (right_of (every is_text_byte e.line) rest t) u)
