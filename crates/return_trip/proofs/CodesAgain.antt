-- An insertion code that a text can hold, and the group of a row, are read as they were written.
use mathlib.Core.Path.{◌≡◌, refl, sym}
use mathlib.Core.List.{[], ◌∷◌}
use mathlib.Core.Bool.{Bool, true, false, not, ◌||◌, cond}
use Prim.Native.Nat.{ℕ}
use native.Mathlib.Omega.{arith}
use lib.Dec.{eqb}
use borrow.Author.Tests.{eqb-true}
use Rattle.ascii.specs.Bytes.{bytes, is_text_byte}
use Rattle.ascii.specs.Letters.{eq_ignore_case}
use Rattle.ascii.specs.Words.{same_bytes}
use Rattle.ascii.proofs.TestLaws.{neither_of}
use Rattle.tokens.specs.Quote.{all_plain}
use Rattle.token_values.specs.Words.{is_hetatm}
use Rattle.rows.specs.Fields.{insertion_code_of}
use Rattle.model.specs.WellFormed.{is_code}
use Rattle.model.proofs.ListLaws.{both}
use Rattle.row_texts.specs.Fields.{code_text, group_text, number_text}
use Rattle.writer.specs.Unwritable.{is_unwritable_code}
use Rattle.return_trip.proofs.DigitsAgain.{decimal_word}
use Rattle.return_trip.proofs.FieldLaws.{Word, bare_word}

-- ---- insertion codes

-- a code that a text can hold
pub record CodeSo (code : ℕ) : Type 0 where
  pub coded : is_code code ≡ true
  pub writable : is_unwritable_code code ≡ false

record Apart (b : ℕ) : Type 0 where
  space : eqb b 32 ≡ false
  tab : eqb b 9 ≡ false
  single : eqb b 39 ≡ false
  double : eqb b 34 ≡ false
  point : eqb b 46 ≡ false
  question : eqb b 63 ≡ false

apart : (b : ℕ) → is_unwritable_code b ≡ false → Apart b
unfolding is_unwritable_code
apart b e =
    let h5 = neither_of (eqb b 32 || eqb b 9 || eqb b 39 || eqb b 34 || eqb b 46) (eqb b 63) e in
    let h4 = neither_of (eqb b 32 || eqb b 9 || eqb b 39 || eqb b 34) (eqb b 46) h5.0 in
    let h3 = neither_of (eqb b 32 || eqb b 9 || eqb b 39) (eqb b 34) h4.0 in
    let h2 = neither_of (eqb b 32 || eqb b 9) (eqb b 39) h3.0 in
    let h1 = neither_of (eqb b 32) (eqb b 9) h2.0 in
    record { space = h1.0; tab = h1.1; single = h2.1; double = h3.1; point = h4.1; question = h5.1 }

pub code_word : (code : ℕ) → CodeSo code → Word (code_text code)
unfolding code_text is_code all_plain
code_word code h = go (eqb code 0) refl h.coded
  where
    go : (t : Bool) → eqb code 0 ≡ t → (t || is_text_byte code) ≡ true → Word (cond t (bytes "?") (code ∷ []))
    go true q e = bare_word (bytes "?") refl
    go false q e =
        let a = apart code h.writable in
        record { some = omega arith; plain = rw (a.tab, a.space, a.double, a.single); text = both (is_text_byte code) true e refl; short = omega arith }

pub code_again : (code : ℕ) → CodeSo code → insertion_code_of (code_text code) ≡ code
unfolding code_text same_bytes
code_again code h = go (eqb code 0) refl
  where
    go : (t : Bool) → eqb code 0 ≡ t → insertion_code_of (cond t (bytes "?") (code ∷ [])) ≡ code
    go true q = sym (eqb-true code 0 q)
    go false q = let a = apart code h.writable in rw (a.point, a.question)

-- ---- group and number
pub group_word : (polymer : Bool) → Word (group_text polymer)
unfolding group_text all_plain
group_word true = bare_word (bytes "ATOM") refl
group_word false = bare_word (bytes "HETATM") refl

pub group_again : (polymer : Bool) → is_hetatm (group_text polymer) ≡ not polymer
unfolding group_text eq_ignore_case
group_again true = refl
group_again false = refl

pub number_word : (polymer : Bool) (number : ℕ) → Word (number_text polymer number)
unfolding number_text all_plain
number_word true number = decimal_word number
number_word false number = bare_word (bytes ".") refl
