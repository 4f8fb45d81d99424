-- The tokens stand in the cell one behind the other, so that what lies between two places is the token; and there is room for them, since each of their bytes
-- is a byte of the line.
use mathlib.Core.Path.{◌≡◌, refl, sym, ap, ◌∙◌}
use mathlib.Core.Bool.{Bool, true, false, not, cond}
use mathlib.Core.List.{List, [], ◌∷◌, ◌++◌, append_assoc}
use Prim.{tt}
use Prim.Native.Nat.{ℕ, zero, suc, ◌+◌, ◌-◌, ◌≤◌, ◌<◌, zero-le}
use native.Mathlib.Nat.{le_refl, le_trans, le_of_suc-le-suc, not-suc-le-zero, add-zero, zero-add, sub-zero}
use native.Mathlib.Omega.{arith}
use lib.Dec.{T, eqb, ltb, ltb→lt, nltb→le}
use lib.ListN.{length, get_or, take, drop, set, length-append, length-set, get_or-eq_default}
use lib.Seq.{sets, sets-eq, take_at, drop-append-add, get_or-set_same, get_or-set_other}
use Rattle.ascii.specs.Bytes.{byte, first}
use Rattle.tokens.specs.declared.tokenize.Act.{Act}
use Rattle.tokens.specs.declared.tokenize.Act.TheVariants.{Add, End, Turn}
use Rattle.tokens.specs.Kinds.{is_blank}
use Rattle.tokens.specs.Split.{joined, places_from, token_in}
use Rattle.tokens.specs.Trim.{trim_start, keep, trim_end, trim}
use Rattle.tokens.specs.Tokens.{act_of, by_act, ended, scan, tokens_from, tokens_of, token_at}
use Rattle.tokens.proofs.SplitLaws.{places_long}

-- ---- what lies between two places
places_first : (n : ℕ) (ts : List (List ℕ)) → get_or (places_from n ts) 0 0 ≡ n
unfolding places_from
places_first n [] = refl
places_first n (t ∷ ts) = refl

places_least : (n : ℕ) (ts : List (List ℕ)) (k : ℕ) → k ≤ length ts → n ≤ get_or (places_from n ts) k 0
unfolding places_from
places_least n [] zero h = le_refl n
places_least n [] (suc k) h = absurd (not-suc-le-zero h)
places_least n (t ∷ ts) zero h = le_refl n
places_least n (t ∷ ts) (suc k) h = omega (arith, places_least (n + length t) ts k (le_of_suc-le-suc h))

between : (n : ℕ) (ts : List (List ℕ)) (k : ℕ) (rest : List ℕ) → k < length ts
    → take (get_or (places_from n ts) (suc k) 0 - get_or (places_from n ts) k 0) (drop (get_or (places_from n ts) k 0 - n) (joined ts ++ rest)) ≡ get_or ts k []
unfolding places_from joined
between n [] k rest h = absurd (not-suc-le-zero h)
between n (t ∷ ts) zero rest h =
    (λ i. take (long i) (drop (none i) ((t ++ joined ts) ++ rest)))
    ∙ ap (take (length t)) (append_assoc t (joined ts) rest)
    ∙ take_at t (joined ts ++ rest) (length t) refl
  where
    long : get_or (places_from (n + length t) ts) 0 0 - n ≡ length t
    long = omega (arith, places_first (n + length t) ts)

    none : n - n ≡ 0
    none = omega arith
between n (t ∷ ts) (suc k) rest h =
    ap (λ (l : List ℕ). take (get_or (places_from m ts) (suc k) 0 - p) l)
    (ap (drop (p - n)) (append_assoc t (joined ts) rest)
    ∙ ap (λ (i : ℕ). drop i (t ++ (joined ts ++ rest))) past
    ∙ drop-append-add t (joined ts ++ rest) (p - m))
    ∙ between m ts k rest (le_of_suc-le-suc h)
  where
    m : ℕ
    m = n + length t

    p : ℕ
    p = get_or (places_from m ts) k 0

    past : p - n ≡ length t + (p - m)
    past = omega (arith, places_least m ts k (le_of h))
      where
        le_of : suc k < suc (length ts) → k ≤ length ts
        le_of h = omega arith

-- ---- the slices as they are left
before_stays : (vs l : List ℕ) (i j : ℕ) → j < i → get_or (sets l i vs) j 0 ≡ get_or l j 0
before_stays [] l i j h = refl
before_stays (a ∷ vs) l i j h = before_stays vs (set l i a) (suc i) j (omega arith) ∙ get_or-set_other l i j a 0 (λ e. absurd (omega arith))

stored_at : (vs l : List ℕ) (i k : ℕ) → k < length vs → i + k < length l → get_or (sets l i vs) (i + k) 0 ≡ get_or vs k 0
stored_at [] l i k h r = absurd (not-suc-le-zero h)
stored_at (a ∷ vs) l i zero h r =
    ap (λ (j : ℕ). get_or (sets (set l i a) (suc i) vs) j 0) (add-zero i)
    ∙ before_stays vs (set l i a) (suc i) i (omega arith)
    ∙ get_or-set_same l i a 0 (omega arith)
stored_at (a ∷ vs) l i (suc k) h r =
    ap (λ (j : ℕ). get_or (sets (set l i a) (suc i) vs) j 0) next
    ∙ stored_at vs (set l i a) (suc i) k (le_of_suc-le-suc h) (omega (arith, length-set l i a))
  where
    next : i + suc k ≡ suc i + k
    next = omega arith

place_stored : (vs l : List ℕ) (k : ℕ) → k < length vs → k < length l → get_or (sets l 0 vs) k 0 ≡ get_or vs k 0
place_stored vs l k h r = ap (λ (j : ℕ). get_or (sets l 0 vs) j 0) (sym (zero-add k)) ∙ stored_at vs l 0 k h (omega arith)

-- ---- the tokens have no more bytes than the line
abbrev Short : ℕ → List (List ℕ) → Type 0
Short n ts = length (joined ts) ≤ n

ended_short : (n : ℕ) (token : List ℕ) (ts : List (List ℕ)) → length token + length (joined ts) ≤ n → Short n (ended token ts)
unfolding joined
ended_short n [] ts h = omega arith
ended_short n (c ∷ cs) ts h = omega (arith, length-append (c ∷ cs) (joined ts))

scan_short : (s : List ℕ) (q : ℕ) (token : List ℕ) → Short (length token + length s) (scan q token s)
unfolding scan joined
scan_short [] q token = ended_short (length token + 0) token [] (omega arith)
scan_short (b ∷ s) q token =
    go (act_of q (length token) b)
    (le_trans (scan_short s q (token ++ b ∷ [])) (omega (arith, length-append token (b ∷ []))))
    (ended_short n token (scan q [] s) (omega (arith, scan_short s q [])))
    (λ r. le_trans (scan_short s r token) (omega arith))
  where
    n : ℕ
    n = length token + suc (length s)

    go :
        (a : Act) → Short n (scan q (token ++ b ∷ []) s) → Short n (ended token (scan q [] s)) → ((r : ℕ) → Short n (scan r token s))
        → Short n (by_act a (scan q (token ++ b ∷ []) s) (ended token (scan q [] s)) (λ r. scan r token s))
    go Add add end turn = add
    go End add end turn = end
    go (Turn r) add end turn = turn r

-- a trimmed line is no longer than the line
start_short : (line : List ℕ) → length (trim_start line) ≤ length line
unfolding trim_start
start_short [] = zero-le
start_short (b ∷ s) = go (is_blank b) (start_short s)
  where
    go : (t : Bool) → length (trim_start s) ≤ length s → length (cond t (trim_start s) (b ∷ s)) ≤ suc (length s)
    go true h = omega arith
    go false h = le_refl (suc (length s))

end_short : (line : List ℕ) → length (trim_end line) ≤ length line
unfolding trim_end
end_short [] = zero-le
end_short (b ∷ s) = go (trim_end s) (end_short s)
  where
    go : (t : List ℕ) → length t ≤ length s → length (keep b t) ≤ suc (length s)
    go [] h = blank (is_blank b)
      where
        blank : (u : Bool) → length (cond u [] (b ∷ [])) ≤ suc (length s)
        blank true = zero-le
        blank false = omega arith
    go (c ∷ t) h = omega arith

pub tokens_fit : (line : List ℕ) → length (joined (tokens_of line)) ≤ length line
unfolding tokens_of joined
tokens_fit line = go (eqb (first (trim line)) (byte "#"))
  where
    go : (t : Bool) → length (joined (cond t [] (tokens_from (trim line)))) ≤ length line
    go true = zero-le
    go false = le_trans (scan_short (trim line) 0 []) (omega (arith, start_short line, end_short (trim_start line)))

one_short : (ts : List (List ℕ)) (k : ℕ) → length (get_or ts k []) ≤ length (joined ts)
unfolding joined
one_short [] k = zero-le
one_short (t ∷ ts) zero = omega (arith, length-append t (joined ts))
one_short (t ∷ ts) (suc k) = le_trans (one_short ts k) (omega (arith, length-append t (joined ts)))

pub token_fits : (line : List ℕ) (k : ℕ) → length (token_at line k) ≤ length line
unfolding token_at
token_fits line k = le_trans (one_short (tokens_of line) k) (tokens_fit line)

-- ---- the theorem
module _ (line cell places : List ℕ) (k : ℕ) where
  abbrev tokens : List (List ℕ)
  tokens = tokens_of line

  pub token_stands : length line ≤ length cell → suc k < length places
      → token_in (sets cell 0 (joined tokens)) (sets places 0 (places_from 0 tokens)) (length tokens) k ≡ token_at line k
  unfolding token_in token_at
  token_stands h r = go (ltb k (length tokens)) (ltb→lt k (length tokens)) (nltb→le k (length tokens))
    where
      within : 0 + length (joined tokens) ≤ length cell
      within = omega (arith, h, tokens_fit line)

      go : (t : Bool) → (T t → k < length tokens) → (T (not t) → length tokens ≤ k)
          → cond t (take (get_or (sets places 0 (places_from 0 tokens)) (suc k) 0 - get_or (sets places 0 (places_from 0 tokens)) k 0)
          (drop (get_or (sets places 0 (places_from 0 tokens)) k 0) (sets cell 0 (joined tokens)))) [] ≡ get_or tokens k []
      go true f g =
          let more = f tt in
          let long = places_long 0 tokens in
          let start = place_stored (places_from 0 tokens) places k (omega arith) (omega arith) in
          let end = place_stored (places_from 0 tokens) places (suc k) (omega arith) r in
          (λ i. take (end i - start i) (drop ((start ∙ sym (sub-zero (get_or (places_from 0 tokens) k 0))) i) (sets-eq (joined tokens) cell 0 within i)))
          ∙ between 0 tokens k (drop (0 + length (joined tokens)) cell) more
      go false f g = sym (get_or-eq_default tokens [] (g tt))
