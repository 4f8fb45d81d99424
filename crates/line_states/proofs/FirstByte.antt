-- The tokens of a line by its first byte that is no blank: there are none where there is no such byte or it is #; the first one begins with it where it is
-- neither that nor a quote.
use mathlib.Core.Path.{◌≡◌, refl, sym, ap, ◌∙◌}
use mathlib.Core.List.{List, [], ◌∷◌, ◌++◌}
use mathlib.Core.Bool.{Bool, true, false, ◌||◌, cond, true≢false}
use Prim.Native.Nat.{ℕ, ◌<◌}
use native.Mathlib.Omega.{arith}
use lib.Dec.{eqb}
use lib.ListN.{length}
use borrow.Author.Tests.{eq-eqb, ne_eqb}
use Rattle.ascii.specs.Bytes.{byte, first}
use Rattle.tokens.specs.declared.kinds.Kind.TheVariants.{Blank, Quote, Plain}
use Rattle.tokens.specs.declared.tokenize.Act.{Act}
use Rattle.tokens.specs.declared.tokenize.Act.TheVariants.{Add, End, Turn}
use Rattle.tokens.specs.Kinds.{kind_of, blank, is_blank}
use Rattle.tokens.specs.Trim.{trim_start, keep, trim_end, trim}
use Rattle.tokens.specs.Tokens.{act_of, by_act, scan, tokens_from, tokens_of}
use Rattle.tokens.proofs.TokenLaws.{line_tokens}

-- there is a first token, and b is its first byte
pub record Begin (b : ℕ) (tokens : List (List ℕ)) : Type 0 where
  pub more : List ℕ
  pub later : List (List ℕ)
  pub is : tokens ≡ (b ∷ more) ∷ later

-- a token that is begun stays so until it ends
scan_begins : (s : List ℕ) (q b : ℕ) (more : List ℕ) → Begin b (scan q (b ∷ more) s)
unfolding scan
scan_begins [] q b more = record { more = more; later = []; is = refl }
scan_begins (c ∷ s) q b more =
    go (act_of q (length (b ∷ more)) c) (scan_begins s q b (more ++ c ∷ [])) (record { more = more; later = scan q [] s; is = refl }) (λ r. scan_begins s r b more)
  where
    go :
        (a : Act) → Begin b (scan q (b ∷ (more ++ c ∷ [])) s) → Begin b ((b ∷ more) ∷ scan q [] s) → ((r : ℕ) → Begin b (scan r (b ∷ more) s))
        → Begin b (by_act a (scan q (b ∷ (more ++ c ∷ [])) s) ((b ∷ more) ∷ scan q [] s) (λ r. scan r (b ∷ more) s))
    go Add add end turn = add
    go End add end turn = end
    go (Turn r) add end turn = turn r

-- no trimmed line begins with a blank
start_no_blank : (line : List ℕ) → 0 < length (trim_start line) → is_blank (first (trim_start line)) ≡ false
unfolding trim_start
start_no_blank [] h = absurd (omega arith)
start_no_blank (c ∷ s) h = go (is_blank c) refl (start_no_blank s) h
  where
    go :
        (t : Bool) → is_blank c ≡ t → (0 < length (trim_start s) → is_blank (first (trim_start s)) ≡ false)
        → 0 < length (cond t (trim_start s) (c ∷ s)) → is_blank (first (cond t (trim_start s) (c ∷ s))) ≡ false
    go true e r h = r h
    go false e r h = e

kept : (b : ℕ) (s : List ℕ) → is_blank b ≡ false → keep b s ≡ b ∷ s
kept b [] e = rw e
kept b (c ∷ s) e = refl

-- a byte that is no blank and no quote
plain_is : (b : ℕ) → is_blank b ≡ false → (b ≡ byte "\"" → ⊥) → (b ≡ byte "'" → ⊥) → kind_of b ≡ Plain
plain_is b e double single =
    let none : (eqb b (byte "\"") || eqb b (byte "'")) ≡ false = rw (ne_eqb b (byte "\"") double, ne_eqb b (byte "'") single) in
    go (eqb b (byte "\t") || eqb b (byte " ")) (eqb b (byte "\"") || eqb b (byte "'")) none e
  where
    go : (t q : Bool) → q ≡ false → blank (cond t Blank (cond q Quote Plain)) ≡ false → cond t Blank (cond q Quote Plain) ≡ Plain
    go true q n f = absurd (true≢false f)
    go false true n f = absurd (true≢false n)
    go false false n f = refl

pub no_byte : (line : List ℕ) → trim_start line ≡ [] → tokens_of line ≡ []
unfolding tokens_of trim_end scan
no_byte line e = rw e

module _ (line : List ℕ) (b : ℕ) (s : List ℕ) (begins : trim_start line ≡ b ∷ s) where
  no_blank : is_blank b ≡ false
  no_blank = ap (λ (l : List ℕ). is_blank (first l)) (sym begins) ∙ start_no_blank line (omega (arith, ap length begins))

  trimmed : trim line ≡ b ∷ trim_end s
  unfolding trim_end
  trimmed = ap trim_end begins ∙ kept b (trim_end s) no_blank

  pub comment : b ≡ byte "#" → tokens_of line ≡ []
  unfolding tokens_of
  comment e = rw (eq-eqb (first (trim line)) (byte "#") (ap first trimmed ∙ e))

  added : kind_of b ≡ Plain → (u : List ℕ) → tokens_from (b ∷ u) ≡ scan 0 (b ∷ []) u
  unfolding scan
  added e u = rw e

  pub first_begins : (b ≡ byte "#" → ⊥) → (b ≡ byte "\"" → ⊥) → (b ≡ byte "'" → ⊥) → Begin b (tokens_of line)
  first_begins hash double single =
      let found = scan_begins (trim_end s) 0 b [] in
      record {
        more = found.more;
        later = found.later;
        is =
            line_tokens line (λ e. hash (sym (ap first trimmed) ∙ e))
            ∙ ap tokens_from trimmed
            ∙ added (plain_is b no_blank double single) (trim_end s)
            ∙ found.is;
      }
