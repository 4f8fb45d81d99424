-- A name that a text can hold is read as it was written: a number of 8 bytes is packed of its own bytes, a chain `?` is read as `?`, and none is `.`. An element's
-- symbol is a bare word.
use mathlib.Core.Path.{◌≡◌, refl, sym, ap, ◌∙◌, subst}
use mathlib.Core.List.{List, [], ◌∷◌, ◌++◌}
use mathlib.Core.Bool.{Bool, true, false, not, ◌&&◌, ◌||◌, cond}
use Prim.Native.Nat.{ℕ, ◌≤◌, ◌<◌}
use Prim.Native.String.{String}
use native.Mathlib.Omega.{arith}
use lib.Dec.{eqb, ltb}
use lib.ListN.{length, length-append}
use borrow.Author.Tests.{eqb-false, ltb-true}
use Rattle.ascii.specs.Bytes.{byte, bytes, is_text_byte}
use Rattle.ascii.specs.Lists.{every}
use Rattle.ascii.specs.Words.{same_bytes}
use Rattle.ascii.proofs.WordLaws.{same_equal}
use Rattle.tokens.specs.Quote.{has, all_plain, quote_for, in_quotes, quote_of}
use Rattle.tokens.proofs.LineReadsBack.{name_back}
use Rattle.tokens.proofs.NameReadsBack.{Writable}
use Rattle.tokens.proofs.QuoteLaws.{quote_bare, quote_quoted}
use Rattle.names.specs.Elements.{symbols, symbol_of}
use Rattle.names.specs.Packing.{packed_in, packed, unpacked_in, unpacked}
use Rattle.names.proofs.PackingTurns.{unpacked_some, unpacked_short}
use Rattle.names.proofs.PackingIsOneToOne.{packed_unpacked}
use Rattle.names.proofs.TablesByTest.{tabled}
use Rattle.rows.specs.Fields.{name_of, chain_of}
use Rattle.model.specs.WellFormed.{is_name}
use Rattle.model.proofs.ListLaws.{both, left_of, right_of}
use Rattle.wellformed.proofs.NameLaws.{name_below}
use Rattle.row_texts.specs.Fields.{name_text, symbol_text}
use Rattle.writer.specs.Unwritable.{holds_both_quotes}
use Rattle.return_trip.proofs.FieldLaws.{IsText, text_append, Field, Word, is_bare, bare_word}

-- ---- names

-- a name that a text can hold
pub record NameSo (name : ℕ) : Type 0 where
  pub named : is_name name ≡ true
  pub one_quote : holds_both_quotes name ≡ false

name_text_lem : (name : ℕ) → is_name name ≡ true → (0 < length (unpacked name)) × IsText (unpacked name)
unfolding is_name
name_text_lem name e =
    let some : 0 < name = ltb-true 0 name (left_of (ltb 0 name) (every is_text_byte (unpacked name)) e) in (
      subst (λ (s : List ℕ). 0 < length s) (sym (unpacked_some 7 name (λ q. omega arith))) (omega arith),
      right_of (ltb 0 name) (every is_text_byte (unpacked name)) e,
    )

pub name_again : (name : ℕ) → is_name name ≡ true → packed (unpacked name) ≡ name
name_again name e = packed_unpacked name (name_below name e)

pub name_short : (name : ℕ) → length (unpacked name) ≤ 8
name_short name = unpacked_short 8 name

quote_text : (t : Bool) → is_text_byte (cond t (byte "\"") (byte "'")) ≡ true
quote_text true = refl
quote_text false = refl

quoted : (P : List ℕ → Type 0) (s : List ℕ) → 0 < length s → P s → ((q : ℕ) → is_text_byte q ≡ true → P (in_quotes q s)) → P (quote_of s)
quoted P s some bare inside = go (all_plain s) refl
  where
    go : (t : Bool) → all_plain s ≡ t → P (quote_of s)
    go true e = subst P (sym (quote_bare s (λ q. omega (arith, some)) e)) bare
    go false e = subst P (sym (quote_quoted s (λ q. omega (arith, some)) e)) (inside (quote_for s) (quote_text (has (byte "'") s && not (has (byte "\"") s))))

pub writable : (name : ℕ) → NameSo name → Writable (unpacked name)
unfolding holds_both_quotes
writable name h = record { some = (name_text_lem name h.named).0; one_quote = h.one_quote }

pub written_text : (name : ℕ) → is_name name ≡ true → IsText (name_text name)
written_text name e =
    let t = name_text_lem name e in
    quoted IsText (unpacked name) t.0 t.1 (λ q h. both (is_text_byte q) (every is_text_byte (unpacked name ++ q ∷ [])) h (text_append (unpacked name) (q ∷ []) t.1 (both (is_text_byte q) true h refl)))

pub written_short : (name : ℕ) → is_name name ≡ true → length (name_text name) ≤ 30
written_short name e =
    let n = name_short name in
    quoted (λ s. length s ≤ 30) (unpacked name) (name_text_lem name e).0 (omega arith) (λ q h. omega (arith, length-append (unpacked name) (q ∷ [])))

abbrev pub name_field : (name : ℕ) → NameSo name → Field
name_field name h = record {
  written = name_text name;
  token = unpacked name;
  back = name_back (unpacked name) (writable name h);
  text = written_text name h.named;
  short = written_short name h.named;
}

-- the chain `?` is read as `?`, and none is `.`
pub chain_again : (name : ℕ) → is_name name ≡ true → eqb name (packed (bytes ".")) ≡ false → chain_of (unpacked name) ≡ name_of (unpacked name)
unfolding packed_in
chain_again name e n = go (same_bytes s (bytes ".")) refl (same_bytes s (bytes "?")) refl
  where
    s : List ℕ
    s = unpacked name

    point : s ≡ bytes "." → ⊥
    point q = eqb-false name (packed (bytes ".")) n (sym (name_again name e) ∙ ap packed q)

    go : (t : Bool) → same_bytes s (bytes ".") ≡ t → (u : Bool) → same_bytes s (bytes "?") ≡ u → cond (t || u) (name_of (bytes "?")) (name_of s) ≡ name_of s
    go true p u q = absurd (point (same_equal s (bytes ".") p))
    go false p true q = ap name_of (sym (same_equal s (bytes "?") q))
    go false p false q = refl

-- ---- elements
pub symbol_word : (element : ℕ) → element ≤ 118 → Word (symbol_text element)
unfolding symbols symbol_of packed_in unpacked_in all_plain
symbol_word element h =
    bare_word (symbol_text element) (tabled (λ (t : String). is_bare (unpacked (packed (bytes t)))) (λ (k : ℕ). true) symbols "X" refl element (omega arith))
