-- A line of written names and bare words, one blank between two, has exactly these tokens: each part reads back, and trimming takes nothing, since no part begins or ends with a blank.
use mathlib.Core.Path.{◌≡◌, refl, sym, ap, ◌∙◌}
use mathlib.Core.List.{List, [], ◌∷◌, ◌++◌, map, append_assoc, append-nil}
use mathlib.Core.Bool.{true, false, false≢true}
use Prim.Native.Nat.{ℕ}
use native.Mathlib.Omega.{arith}
use Rattle.ascii.specs.Bytes.{byte, first}
use Rattle.ascii.proofs.TestLaws.{left_of, right_of}
use Rattle.tokens.specs.declared.kinds.Kind.{Kind}
use Rattle.tokens.specs.declared.kinds.Kind.TheVariants.{Blank, Quote, Plain}
use Rattle.tokens.specs.Kinds.{kind_of, blank, plain, is_blank, is_plain}
use Rattle.tokens.specs.Trim.{trim_start, trim_end, trim}
use Rattle.tokens.specs.Tokens.{scan, tokens_from, tokens_of}
use Rattle.tokens.specs.Quote.{all_plain, in_quotes, quote_of}
use Rattle.tokens.specs.Line.{spaced}
use Rattle.tokens.proofs.NameReadsBack.{Parted, Writable, Bare, snoc, by_way, word_reads_back, name_reads_back}
use Rattle.tokens.proofs.TrimLaws.{end_stop}
use Rattle.tokens.proofs.TokenLaws.{line_tokens}

-- a text that is read as the token wherever it stands in a line, and begins and ends with no blank
pub record ReadsBack (written token : List ℕ) : Type 0 where
  pub begins : (rest : List ℕ) → trim_start (written ++ rest) ≡ written ++ rest
  pub ends : (before : List ℕ) → trim_end (before ++ written) ≡ before ++ written
  pub scans : (rest : List ℕ) → Parted rest → tokens_from (written ++ rest) ≡ token ∷ tokens_from rest

-- a part of a line: how it is written, and the token that it is read as
pub record Part : Type 0 where
  pub written : List ℕ
  pub token : List ℕ
  pub back : ReadsBack written token

plain_no_blank : (b : ℕ) → is_plain b ≡ true → is_blank b ≡ false
plain_no_blank b = go (kind_of b)
  where
    go : (k : Kind) → plain k ≡ true → blank k ≡ false
    go Blank e = absurd (false≢true e)
    go Quote e = refl
    go Plain e = refl

begins_so : (b : ℕ) (s : List ℕ) → is_blank b ≡ false → trim_start (b ∷ s) ≡ b ∷ s
unfolding trim_start
begins_so b s e = rw e

word_begins : (word rest : List ℕ) → Bare word → trim_start (word ++ rest) ≡ word ++ rest
unfolding all_plain
word_begins [] rest w = absurd (omega (arith, w.some))
word_begins (b ∷ s) rest w = begins_so b (s ++ rest) (plain_no_blank b (left_of (is_plain b) (all_plain s) w.all_plain))

word_ends : (word before : List ℕ) → Bare word → trim_end (before ++ word) ≡ before ++ word
unfolding all_plain
word_ends [] before w = absurd (omega (arith, w.some))
word_ends (b ∷ []) before w = end_stop before b (plain_no_blank b (left_of (is_plain b) true w.all_plain))
word_ends (b ∷ (c ∷ s)) before w =
    ap trim_end (sym (snoc before (c ∷ s) b))
    ∙ word_ends (c ∷ s) (before ++ b ∷ []) (record { some = omega arith; all_plain = right_of (is_plain b) (all_plain (c ∷ s)) w.all_plain })
    ∙ snoc before (c ∷ s) b

quoted_ends : (q : ℕ) (name before : List ℕ) → is_blank q ≡ false → trim_end (before ++ in_quotes q name) ≡ before ++ in_quotes q name
quoted_ends q name before e = ap trim_end (sym regroup) ∙ end_stop (before ++ q ∷ name) q e ∙ regroup
  where
    regroup : (before ++ q ∷ name) ++ q ∷ [] ≡ before ++ in_quotes q name
    regroup = append_assoc before (q ∷ name) (q ∷ [])

pub word_back : (word : List ℕ) → Bare word → ReadsBack word word
word_back word w =
    record {
      begins = λ rest. word_begins word rest w;
      ends = λ before. word_ends word before w;
      scans = λ rest. word_reads_back word rest w;
    }

pub name_back : (name : List ℕ) → Writable name → ReadsBack (quote_of name) name
name_back name w =
    record {
      begins = λ rest. by_way (λ s. trim_start (s ++ rest) ≡ s ++ rest) name w (word_begins name rest) (λ q k z h. begins_so q ((name ++ q ∷ []) ++ rest) (ap blank k));
      ends = λ before. by_way (λ s. trim_end (before ++ s) ≡ before ++ s) name w (word_ends name before) (λ q k z h. quoted_ends q name before (ap blank k));
      scans = λ rest. name_reads_back name rest w;
    }

abbrev pub word_part : (word : List ℕ) → Bare word → Part
word_part word w = record { written = word; token = word; back = word_back word w }

abbrev pub name_part_lem : (name : List ℕ) → Writable name → Part
name_part_lem name w = record { written = quote_of name; token = name; back = name_back name w }

-- ---- a whole line of parts
abbrev pub line_of : List Part → List ℕ
line_of parts = spaced (map (λ p. p.written) parts)

line_begins : (parts : List Part) → trim_start (line_of parts) ≡ line_of parts
unfolding spaced trim_start
line_begins [] = refl
line_begins (p ∷ []) = ap trim_start (sym (append-nil p.written)) ∙ p.back.begins [] ∙ append-nil p.written
line_begins (p ∷ (r ∷ ps)) = p.back.begins (byte " " ∷ line_of (r ∷ ps))

line_ends : (p : Part) (ps : List Part) (before : List ℕ) → trim_end (before ++ line_of (p ∷ ps)) ≡ before ++ line_of (p ∷ ps)
unfolding spaced
line_ends p [] before = p.back.ends before
line_ends p (r ∷ ps) before = ap trim_end (sym regroup) ∙ line_ends r ps ((before ++ p.written) ++ byte " " ∷ []) ∙ regroup
  where
    regroup : ((before ++ p.written) ++ byte " " ∷ []) ++ line_of (r ∷ ps) ≡ before ++ line_of (p ∷ (r ∷ ps))
    regroup = snoc (before ++ p.written) (line_of (r ∷ ps)) (byte " ") ∙ append_assoc before p.written (byte " " ∷ line_of (r ∷ ps))

line_trimmed : (parts : List Part) → trim (line_of parts) ≡ line_of parts
unfolding spaced trim_end trim_start
line_trimmed [] = refl
line_trimmed (p ∷ ps) = ap trim_end (line_begins (p ∷ ps)) ∙ line_ends p ps []

line_scans : (parts : List Part) → tokens_from (line_of parts) ≡ map (λ p. p.token) parts
unfolding spaced scan
line_scans [] = refl
line_scans (p ∷ []) = ap tokens_from (sym (append-nil p.written)) ∙ p.back.scans [] tt
line_scans (p ∷ (r ∷ ps)) = p.back.scans (byte " " ∷ line_of (r ∷ ps)) refl ∙ ap (λ (ts : List (List ℕ)). p.token ∷ ts) (line_scans (r ∷ ps))

-- a line of parts, one blank between two, has exactly the parts' tokens, unless it is a comment
pub line_reads_back : (parts : List Part) → (first (line_of parts) ≡ byte "#" → ⊥) → tokens_of (line_of parts) ≡ map (λ p. p.token) parts
line_reads_back parts n =
    line_tokens (line_of parts) (λ e. n (ap first (sym (line_trimmed parts)) ∙ e)) ∙ ap tokens_from (line_trimmed parts) ∙ line_scans parts
