-- A name as it is written, between blanks, is read as itself: a bare word is added byte by byte, a quoted name from quote to quote, and a blank or the end of the line ends it.
use mathlib.Core.Path.{◌≡◌, refl, sym, ap, ◌∙◌, subst}
use mathlib.Core.List.{List, [], ◌∷◌, ◌++◌, append_assoc, append-nil}
use mathlib.Core.Bool.{Bool, true, false, ◌&&◌, not, cond, true≢false, false≢true}
use Prim.Native.Nat.{ℕ, ◌<◌}
use native.Mathlib.Omega.{arith}
use lib.Dec.{eqb}
use lib.ListN.{length}
use borrow.Author.Tests.{eq-eqb}
use Rattle.ascii.specs.Bytes.{byte}
use Rattle.ascii.proofs.TestLaws.{left_of, right_of, neither_of}
use Rattle.tokens.specs.declared.kinds.Kind.{Kind}
use Rattle.tokens.specs.declared.kinds.Kind.TheVariants.{Blank, Quote, Plain}
use Rattle.tokens.specs.declared.tokenize.Act.TheVariants.{Add, End}
use Rattle.tokens.specs.Kinds.{kind_of, blank, plain, is_blank, is_plain}
use Rattle.tokens.specs.Tokens.{outside, act_of, scan, tokens_from}
use Rattle.tokens.specs.Quote.{has, all_plain, quote_for, in_quotes, quote_of}
use Rattle.tokens.proofs.QuoteLaws.{quote_bare, quote_quoted}

-- the end of the line, or a blank, comes next
abbrev pub Parted : List ℕ → Type 0
Parted [] = Unit
Parted (b ∷ s) = is_blank b ≡ true

-- a name that can be written: it is not empty, and does not hold both quotes
pub record Writable (name : List ℕ) : Type 0 where
  pub some : 0 < length name
  pub one_quote : (has (byte "'") name && has (byte "\"") name) ≡ false

-- a word that needs no quotes
pub record Bare (word : List ℕ) : Type 0 where
  pub some : 0 < length word
  pub all_plain : all_plain word ≡ true

pub snoc : (s t : List ℕ) (b : ℕ) → (s ++ b ∷ []) ++ t ≡ s ++ b ∷ t
snoc s t b = append_assoc s (b ∷ []) t

-- ---- bytes by their kind
plain_adds : (n b : ℕ) → is_plain b ≡ true → act_of 0 n b ≡ Add
plain_adds n b = go (kind_of b)
  where
    go : (k : Kind) → plain k ≡ true → outside k n b ≡ Add
    go Blank e = absurd (false≢true e)
    go Quote e = absurd (false≢true e)
    go Plain e = refl

blank_ends : (n b : ℕ) → is_blank b ≡ true → act_of 0 n b ≡ End
blank_ends n b = go (kind_of b)
  where
    go : (k : Kind) → blank k ≡ true → outside k n b ≡ End
    go Blank e = refl
    go Quote e = absurd (false≢true e)
    go Plain e = absurd (false≢true e)

-- ---- scanning
scan_plain : (word token rest : List ℕ) → all_plain word ≡ true → scan 0 token (word ++ rest) ≡ scan 0 (token ++ word) rest
unfolding scan all_plain
scan_plain [] token rest e = ap (λ (t : List ℕ). scan 0 t rest) (sym (append-nil token))
scan_plain (b ∷ word) token rest e =
    rw (plain_adds (length token) b (left_of (is_plain b) (all_plain word) e))
    (scan_plain word (token ++ b ∷ []) rest (right_of (is_plain b) (all_plain word) e) ∙ ap (λ (t : List ℕ). scan 0 t rest) (snoc token word b))

-- inside a quote q, up to the next q
scan_inside : (q : ℕ) → eqb q 0 ≡ false → (name token rest : List ℕ) → has q name ≡ false → scan q token (name ++ q ∷ rest) ≡ scan 0 (token ++ name) rest
unfolding scan has
scan_inside q z [] token rest e = rw (z, eq-eqb q q refl) (ap (λ (t : List ℕ). scan 0 t rest) (sym (append-nil token)))
scan_inside q z (b ∷ name) token rest e =
    let p = neither_of (eqb b q) (has q name) e in
    rw (z, p.0) (scan_inside q z name (token ++ b ∷ []) rest p.1 ∙ ap (λ (t : List ℕ). scan 0 t rest) (snoc token name b))

scan_ends : (token rest : List ℕ) → 0 < length token → Parted rest → scan 0 token rest ≡ token ∷ tokens_from rest
unfolding scan
scan_ends [] rest h p = absurd (omega arith)
scan_ends (c ∷ cs) [] h p = refl
scan_ends (c ∷ cs) (b ∷ rest) h p = rw (blank_ends (length (c ∷ cs)) b p, blank_ends 0 b p)

-- ---- a word and a name
pub word_reads_back : (word rest : List ℕ) → Bare word → Parted rest → tokens_from (word ++ rest) ≡ word ∷ tokens_from rest
word_reads_back word rest w p = scan_plain word [] rest w.all_plain ∙ scan_ends word rest w.some p

-- either quote is one, and is no 0
either_quote : (t : Bool) → (kind_of (cond t (byte "\"") (byte "'")) ≡ Quote) × (eqb (cond t (byte "\"") (byte "'")) 0 ≡ false)
either_quote true = (refl, refl)
either_quote false = (refl, refl)

-- the quote around a name does not stand in it
absent : (name : List ℕ) → Writable name → has (quote_for name) name ≡ false
absent name w = go (has (byte "'") name) (has (byte "\"") name) refl refl w.one_quote
  where
    go :
        (s d : Bool) → has (byte "'") name ≡ s → has (byte "\"") name ≡ d → (s && d) ≡ false
        → has (cond (s && not d) (byte "\"") (byte "'")) name ≡ false
    go true true e f h = absurd (true≢false h)
    go true false e f h = f
    go false d e f h = e

quoted_scan : (q : ℕ) (name rest : List ℕ) → kind_of q ≡ Quote → eqb q 0 ≡ false → has q name ≡ false → tokens_from (in_quotes q name ++ rest) ≡ scan 0 name rest
unfolding scan
quoted_scan q name rest k z h = rw k (ap (scan q []) (snoc name rest q) ∙ scan_inside q z name [] rest h)

-- a name is written bare, or in a quote that does not stand in it
pub by_way :
    (P : List ℕ → Type 0) (name : List ℕ) → Writable name → (Bare name → P name)
    → ((q : ℕ) → kind_of q ≡ Quote → eqb q 0 ≡ false → has q name ≡ false → P (in_quotes q name)) → P (quote_of name)
by_way P name w bare quoted = go (all_plain name) refl
  where
    some : length name ≡ 0 → ⊥
    some e = omega (arith, w.some)

    q : (kind_of (quote_for name) ≡ Quote) × (eqb (quote_for name) 0 ≡ false)
    q = either_quote (has (byte "'") name && not (has (byte "\"") name))

    go : (t : Bool) → all_plain name ≡ t → P (quote_of name)
    go true e = subst P (sym (quote_bare name some e)) (bare (record { some = w.some; all_plain = e }))
    go false e = subst P (sym (quote_quoted name some e)) (quoted (quote_for name) q.0 q.1 (absent name w))

pub name_reads_back : (name rest : List ℕ) → Writable name → Parted rest → tokens_from (quote_of name ++ rest) ≡ name ∷ tokens_from rest
name_reads_back name rest w p =
    by_way (λ s. tokens_from (s ++ rest) ≡ name ∷ tokens_from rest) name w
    (λ bare. word_reads_back name rest bare p)
    (λ q k z h. quoted_scan q name rest k z h ∙ scan_ends name rest w.some p)
