-- Each byte is one clause of `scan`: what is whole, the token so far and what is ahead are together the tokens of the text, and the cell and the places have
-- grown by what the byte adds.
use mathlib.Core.Path.{◌≡◌, refl, sym, ap, ◌∙◌}
use mathlib.Core.List.{List, [], ◌∷◌, ◌++◌, append_assoc, append-nil}
use Prim.Native.Nat.{ℕ, suc, ◌+◌, ◌-◌, ◌≤◌, ◌<◌}
use native.Mathlib.Nat.{zero-add}
use native.Mathlib.Numerals.{unary_clauses}
use native.Mathlib.Omega.{arith}
use lib.ListN.{length, get_or, drop, set, length-append}
use lib.Seq.{sets}
use Rattle.tokens.specs.declared.tokenize.Act.{Act}
use Rattle.tokens.specs.declared.tokenize.Act.TheVariants.{Add, End, Turn}
use Rattle.tokens.specs.Split.{joined, places_from}
use Rattle.tokens.specs.Splitting.{Copying}
use Rattle.tokens.specs.Tokens.{act_of, by_act, ended, scan, tokens_from}
use Rattle.ascii.proofs.OutputLaws.{store_more}
use Rattle.tokens.proofs.WalkLaws.{at_byte, at_end_lem, ended_some}

-- ---- one token more
joined_more : (whole : List (List ℕ)) (token : List ℕ) → joined (whole ++ token ∷ []) ≡ joined whole ++ token
unfolding joined
joined_more [] token = append-nil token
joined_more (t ∷ whole) token = ap (λ (s : List ℕ). t ++ s) (joined_more whole token) ∙ sym (append_assoc t (joined whole) token)

pub places_long : (n : ℕ) (whole : List (List ℕ)) → length (places_from n whole) ≡ length whole + 1
unfolding places_from
places_long n [] = refl
places_long n (t ∷ whole) = ap suc (places_long (n + length t) whole) ∙ simp unary_clauses refl

places_more : (n : ℕ) (whole : List (List ℕ)) (token : List ℕ) → places_from n (whole ++ token ∷ []) ≡ places_from n whole ++ (n + length (joined whole ++ token)) ∷ []
unfolding places_from joined
places_more n [] token = refl
places_more n (t ∷ whole) token =
    ap (λ (l : List ℕ). n ∷ l)
    (places_more (n + length t) whole token
    ∙ ap (λ (k : ℕ). places_from (n + length t) whole ++ k ∷ [])
    (sum ∙ ap (λ (s : List ℕ). n + length s) (sym (append_assoc t (joined whole) token))))
  where
    sum : n + length t + length (joined whole ++ token) ≡ n + length (t ++ (joined whole ++ token))
    sum = simp length-append (omega arith)

-- ---- a byte
abbrev pub AllCopied : List ℕ → List ℕ → List ℕ → ℕ → List ℕ → List ℕ → Type 0
AllCopied text cell₀ places₀ count cell places =
    (count ≡ length (tokens_from text)) × (cell ≡ sets cell₀ 0 (joined (tokens_from text))) × (places ≡ sets places₀ 0 (places_from 0 (tokens_from text)))

module _ {text cell₀ places₀ : List ℕ} {i quote begin len count : ℕ} {cell places : List ℕ} (g : Copying text cell₀ places₀ i quote begin len count cell places) where
  -- the token so far is as long as it was told
  token_long : len - begin ≡ length g.token
  token_long = omega (arith, g.long, g.begun, length-append (joined g.whole) g.token)

  -- a token that is not empty ends, and is whole with its place
  one_more : {ts : List (List ℕ)} {at quote : ℕ} → (len ≡ begin → ⊥) → tokens_from text ≡ g.whole ++ ended g.token ts → ts ≡ scan quote [] (drop at text)
      → Copying text cell₀ places₀ at quote len len (count + 1) cell (set places (count + 1) len)
  one_more {ts} {at} {quote} some ahead e =
      record {
        whole = g.whole ++ g.token ∷ [];
        token = [];
        ahead = ahead ∙ ap (λ (l : List (List ℕ)). g.whole ++ l) (ended_some g.token ts not_empty ∙ ap (λ (l : List (List ℕ)). g.token ∷ l) e) ∙ sym (append_assoc g.whole (g.token ∷ []) (scan quote [] (drop at text)));
        many = ap (λ (n : ℕ). n + 1) g.many ∙ sym (length-append g.whole (g.token ∷ []));
        begun = g.long ∙ ap length (sym bytes_are);
        long = g.long ∙ ap length (sym bytes_are ∙ sym (append-nil (joined (g.whole ++ g.token ∷ []))));
        bytes = g.bytes ∙ ap (sets cell₀ 0) (sym bytes_are ∙ sym (append-nil (joined (g.whole ++ g.token ∷ []))));
        placed =
            (λ i. set (g.placed i) ((ap (λ (n : ℕ). n + 1) g.many ∙ sym (places_long 0 g.whole) ∙ sym (zero-add (length (places_from 0 g.whole)))) i) (g.long i))
            ∙ store_more places₀ 0 (places_from 0 g.whole) (length (joined g.whole ++ g.token))
            ∙ ap (λ (k : ℕ). sets places₀ 0 (places_from 0 g.whole ++ k ∷ [])) (sym (zero-add (length (joined g.whole ++ g.token))))
            ∙ ap (sets places₀ 0) (sym (places_more 0 g.whole g.token));
      }
    where
      not_empty : length g.token ≡ 0 → ⊥
      not_empty z = some (omega (arith, g.begun, g.long, length-append (joined g.whole) g.token))

      bytes_are : joined (g.whole ++ g.token ∷ []) ≡ joined g.whole ++ g.token
      bytes_are = joined_more g.whole g.token

  -- an empty token is none
  is_empty : len ≡ begin → g.token ≡ []
  is_empty e = go g.token (omega (arith, g.begun, g.long, length-append (joined g.whole) g.token))
    where
      go : (token : List ℕ) → length token ≡ 0 → token ≡ []
      go [] z = refl
      go (c ∷ cs) z = absurd (omega arith)

  module _ (h : i < length text) where
    abbrev b : ℕ
    b = get_or text i 0

    abbrev rest : List ℕ
    rest = drop (i + 1) text

    met :
        (a : Act) → act_of quote (len - begin) b ≡ a
        → tokens_from text ≡ g.whole ++ by_act a (scan quote (g.token ++ b ∷ []) rest) (ended g.token (scan quote [] rest)) (λ r. scan r g.token rest)
    met a e =
        g.ahead
        ∙ ap (λ (ts : List (List ℕ)). g.whole ++ ts) (at_byte text quote g.token i h)
        ∙ ap (λ (x : Act). g.whole ++ by_act x (scan quote (g.token ++ b ∷ []) rest) (ended g.token (scan quote [] rest)) (λ r. scan r g.token rest))
        (sym (ap (λ (n : ℕ). act_of quote n b) token_long) ∙ e)

    pub copies : act_of quote (len - begin) b ≡ Add → Copying text cell₀ places₀ (i + 1) quote begin (len + 1) count (set cell len b) places
    copies e = record {
      whole = g.whole;
      token = g.token ++ b ∷ [];
      ahead = met Add e;
      many = g.many;
      begun = g.begun;
      long = ap (λ (n : ℕ). n + 1) g.long ∙ sym (length-append (joined g.whole ++ g.token) (b ∷ [])) ∙ ap length (append_assoc (joined g.whole) g.token (b ∷ []));
      bytes =
          (λ i. set (g.bytes i) ((g.long ∙ sym (zero-add (length (joined g.whole ++ g.token)))) i) b)
          ∙ store_more cell₀ 0 (joined g.whole ++ g.token) b
          ∙ ap (sets cell₀ 0) (append_assoc (joined g.whole) g.token (b ∷ []));
      placed = g.placed;
    }

    pub turns : {q : ℕ} → act_of quote (len - begin) b ≡ Turn q → Copying text cell₀ places₀ (i + 1) q begin len count cell places
    turns {q} e = record { whole = g.whole; token = g.token; ahead = met (Turn q) e; many = g.many; begun = g.begun; long = g.long; bytes = g.bytes; placed = g.placed }

    pub passes : act_of quote (len - begin) b ≡ End → len ≡ begin → Copying text cell₀ places₀ (i + 1) quote begin len count cell places
    passes e z =
        record {
          whole = g.whole;
          token = g.token;
          ahead = met End e ∙ ap (λ (t : List ℕ). g.whole ++ ended t (scan quote [] rest)) (is_empty z) ∙ ap (λ (t : List ℕ). g.whole ++ scan quote t rest) (sym (is_empty z));
          many = g.many;
          begun = g.begun;
          long = g.long;
          bytes = g.bytes;
          placed = g.placed;
        }

    pub ends : act_of quote (len - begin) b ≡ End → (len ≡ begin → ⊥) → Copying text cell₀ places₀ (i + 1) quote len len (count + 1) cell (set places (count + 1) len)
    ends e some = one_more some (met End e) refl

  -- at the end of the text all are whole, unless one is left to end
  pub all_copied : length text ≤ i → len ≡ begin → AllCopied text cell₀ places₀ count cell places
  all_copied h z =
      let e : tokens_from text ≡ g.whole
      = g.ahead
      ∙ ap (λ (ts : List (List ℕ)). g.whole ++ ts) (at_end_lem text quote g.token i h)
      ∙ ap (λ (t : List ℕ). g.whole ++ ended t []) (is_empty z)
      ∙ append-nil g.whole in (
        g.many ∙ ap length (sym e),
        g.bytes ∙ ap (λ (t : List ℕ). sets cell₀ 0 (joined g.whole ++ t)) (is_empty z) ∙ ap (sets cell₀ 0) (append-nil (joined g.whole)) ∙ ap (λ (ts : List (List ℕ)). sets cell₀ 0 (joined ts)) (sym e),
        g.placed ∙ ap (λ (ts : List (List ℕ)). sets places₀ 0 (places_from 0 ts)) (sym e),
      )

  -- the text's end ends it
  pub last_ends : length text ≤ i → (len ≡ begin → ⊥) → Copying text cell₀ places₀ i quote len len (count + 1) cell (set places (count + 1) len)
  last_ends h some = one_more some (g.ahead ∙ ap (λ (ts : List (List ℕ)). g.whole ++ ts) (at_end_lem text quote g.token i h)) (sym (at_end_lem text quote [] i h))

-- ---- the walk as it begins: the first token's place is stored already
stored_twice : (places : List ℕ) → set (set places 0 0) 0 0 ≡ set places 0 0
stored_twice [] = refl
stored_twice (x ∷ places) = refl

pub first_copied : (text cell places : List ℕ) → Copying text cell (set places 0 0) 0 0 0 0 0 cell (set places 0 0)
unfolding joined places_from
first_copied text cell places = record {
  whole = [];
  token = [];
  ahead = refl;
  many = refl;
  begun = refl;
  long = refl;
  bytes = refl;
  placed = sym (stored_twice places);
}

pub first_place_lem : (places : List ℕ) (ts : List (List ℕ)) → sets (set places 0 0) 0 (places_from 0 ts) ≡ sets places 0 (places_from 0 ts)
unfolding places_from
first_place_lem places [] = stored_twice places
first_place_lem places (t ∷ ts) = ap (λ (l : List ℕ). sets l 1 (places_from (0 + length t) ts)) (stored_twice places)
