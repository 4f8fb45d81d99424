-- A field of a written line: it is read as its token wherever it stands, holds bytes of a line alone, and is short; so a line of fields has their tokens, and
-- is a line of the domain.
use mathlib.Core.Path.{◌≡◌, refl, sym, ap, ◌∙◌}
use mathlib.Core.List.{List, [], ◌∷◌, ◌++◌, map, map-map}
use mathlib.Core.Bool.{Bool, true, ◌&&◌}
use Prim.Native.Nat.{ℕ, ◌*◌, ◌≤◌, ◌<◌}
use native.Mathlib.Omega.{arith}
use lib.Dec.{leb, ltb}
use lib.ListN.{length, length-append}
use borrow.Author.Tests.{leb-true, ltb-true}
use Rattle.ascii.specs.Bytes.{byte, first, is_text_byte}
use Rattle.ascii.specs.Lists.{every}
use Rattle.tokens.specs.Line.{spaced}
use Rattle.tokens.specs.Quote.{all_plain}
use Rattle.tokens.specs.Tokens.{tokens_of}
use Rattle.tokens.proofs.LineReadsBack.{ReadsBack, Part, word_back, line_reads_back}
use Rattle.model.proofs.ListLaws.{both, left_of, right_of}

-- each byte is one of a line
abbrev pub IsText : List ℕ → Type 0
IsText s = every is_text_byte s ≡ true

pub record Field : Type 0 where
  pub written : List ℕ
  pub token : List ℕ
  pub back : ReadsBack written token
  pub text : IsText written
  pub short : length written ≤ 30

abbrev pub part : Field → Part
part f = record { written = f.written; token = f.token; back = f.back }

-- a word that needs no quotes
pub record Word (word : List ℕ) : Type 0 where
  pub some : 0 < length word
  pub plain : all_plain word ≡ true
  pub text : IsText word
  pub short : length word ≤ 30

-- the same as a test
abbrev pub is_bare : List ℕ → Bool
is_bare word = ltb 0 (length word) && (all_plain word && (every is_text_byte word && leb (length word) 30))

pub bare_word : (word : List ℕ) → is_bare word ≡ true → Word word
bare_word word e =
    let some = ltb 0 (length word) in
    let text = every is_text_byte word in
    let short = leb (length word) 30 in
    let later = right_of some (all_plain word && (text && short)) e in
    let last = right_of (all_plain word) (text && short) later in
    record {
      some = ltb-true 0 (length word) (left_of some (all_plain word && (text && short)) e);
      plain = left_of (all_plain word) (text && short) later;
      text = left_of text short last;
      short = leb-true (length word) 30 (right_of text short last);
    }

abbrev pub word_field : (word : List ℕ) → Word word → Field
word_field word w = record { written = word; token = word; back = word_back word (record { some = w.some; all_plain = w.plain }); text = w.text; short = w.short }

-- ---- a line of fields
pub text_append : (s t : List ℕ) → IsText s → IsText t → IsText (s ++ t)
text_append [] t a b = b
text_append (c ∷ s) t a b = both (is_text_byte c) (every is_text_byte (s ++ t)) (left_of (is_text_byte c) (every is_text_byte s) a) (text_append s t (right_of (is_text_byte c) (every is_text_byte s) a) b)

abbrev pub line_with : List Field → List ℕ
line_with fields = spaced (map (λ f. f.written) fields)

pub line_is_text : (fields : List Field) → IsText (line_with fields)
unfolding spaced
line_is_text [] = refl
line_is_text (f ∷ []) = f.text
line_is_text (f ∷ (g ∷ fields)) = text_append f.written (byte " " ∷ line_with (g ∷ fields)) f.text (line_is_text (g ∷ fields))

pub line_is_short : (fields : List Field) → length (line_with fields) ≤ 31 * length fields
unfolding spaced
line_is_short [] = omega arith
line_is_short (f ∷ []) = omega (arith, f.short)
line_is_short (f ∷ (g ∷ fields)) = omega (arith, length-append f.written (byte " " ∷ line_with (g ∷ fields)), f.short, line_is_short (g ∷ fields))

pub line_tokens : (fields : List Field) → (first (line_with fields) ≡ byte "#" → ⊥) → tokens_of (line_with fields) ≡ map (λ f. f.token) fields
line_tokens fields n =
    ap (λ (l : List (List ℕ)). tokens_of (spaced l)) (sym (map-map (λ p. p.written) part fields))
    ∙ line_reads_back (map part fields) (λ e. n (ap (λ (l : List (List ℕ)). first (spaced l)) (sym (map-map (λ p. p.written) part fields)) ∙ e))
    ∙ map-map (λ p. p.token) part fields
