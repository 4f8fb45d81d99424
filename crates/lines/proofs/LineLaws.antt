-- The first line of a text stands before the first 10, without a 13 directly before it; where no 10 is, the whole text is one line.
use mathlib.Core.Path.{◌≡◌, refl, sym, ap, subst, ◌∙◌}
use mathlib.Core.List.{List, [], ◌∷◌}
use mathlib.Core.Bool.{Bool, true, false, ◌&&◌, not, cond, false≢true}
use Prim.Native.Nat.{ℕ, zero, suc, ◌+◌, ◌-◌, ◌*◌, ◌≤◌, ◌<◌}
use native.Mathlib.Numerals.{add-one}
use native.Mathlib.Omega.{arith}
use lib.Dec.{eqb, eqb-suc-zero}
use lib.ListN.{drop_of_length-le, length, get_or, take, drop, length-drop}
use lib.Seq.{drop-cons, length-take-le, drop-length, drop-drop, get_or-drop}
use borrow.Author.Tests.{eq-eqb, ne_eqb, eqb-true}
use Rattle.std.specs.List.{prefix_len}
use Rattle.std.specs.Simd.{first_chunks}
use Rattle.ascii.specs.Bytes.{first}
use Rattle.ascii.specs.Lists.{every}
use Rattle.ascii.proofs.ListLaws.{get_d_past, tail_is}
use Rattle.lines.specs.declared.lines.Line.{Line}
use Rattle.lines.specs.Lines.{onto, lines_of, ending_at, LineAt, is_feed, is_no_feed, feed_place, NoFeedBefore, line_length}

-- ---- the place of the first 10
-- where the first i bytes have no 10, the next byte decides
module _ (text : List ℕ) (i : ℕ) (before : NoFeedBefore text i) where
  feed_step : i < length text → feed_place (drop i text) ≡ cond (is_feed (get_or text i 0)) 0 (suc (feed_place (drop (i + 1) text)))
  unfolding feed_place
  feed_step h = rw (add-one, drop-cons text i 0)

  pub feed_here : i < length text → get_or text i 0 ≡ 10 → i ≡ feed_place text
  feed_here h e =
      let none = feed_step h ∙ ap (λ (t : Bool). cond t 0 (suc (feed_place (drop (i + 1) text)))) (eq-eqb (get_or text i 0) 10 e) in
      omega (arith, none, before.1)

  pub feed_further : i < length text → (get_or text i 0 ≡ 10 → ⊥) → NoFeedBefore text (i + 1)
  feed_further h n =
      let one = feed_step h ∙ ap (λ (t : Bool). cond t 0 (suc (feed_place (drop (i + 1) text)))) (ne_eqb (get_or text i 0) 10 n) in
      (omega arith, omega (arith, one, before.1))

  none_left : length text ≤ i → feed_place (drop i text) ≡ 0
  unfolding feed_place
  none_left h = rw (drop_of_length-le text h)

  pub feed_nowhere : length text ≤ i → feed_place text ≡ length text
  feed_nowhere h = omega (arith, none_left h, before.0, before.1)

-- bytes with no 10 among them are passed together
past_no_feed : (n : ℕ) (text : List ℕ) → n ≤ length text → every is_no_feed (take n text) ≡ true → feed_place text ≡ n + feed_place (drop n text)
unfolding feed_place
past_no_feed zero text h e = omega arith
past_no_feed (suc n) [] h e = absurd (omega arith)
past_no_feed (suc n) (b ∷ bs) h e = go (eqb b 10) e (past_no_feed n bs (omega arith))
  where
    go :
        (t : Bool) → (not t && every is_no_feed (take n bs)) ≡ true → (every is_no_feed (take n bs) ≡ true → feed_place bs ≡ n + feed_place (drop n bs))
        → cond t 0 (suc (feed_place bs)) ≡ suc n + feed_place (drop n bs)
    go true e further = absurd (false≢true e)
    go false e further = let on = further e in omega arith

-- and so are the blocks, k of which are in the text
pub blocks_passed : (k : ℕ) (text : List ℕ) → k * 16 ≤ length text → NoFeedBefore text (prefix_len (every is_no_feed) (first_chunks 16 k text) * 16)
blocks_passed zero text h = (omega arith, omega arith)
blocks_passed (suc k) text h = go (every is_no_feed (take 16 text)) refl (blocks_passed k (drop 16 text) (omega (arith, length-drop 16 text)))
  where
    later : ℕ
    later = prefix_len (every is_no_feed) (first_chunks 16 k (drop 16 text))

    go : (t : Bool) → every is_no_feed (take 16 text) ≡ t → NoFeedBefore (drop 16 text) (later * 16) → NoFeedBefore text (cond t (1 + later) 0 * 16)
    go true e rest =
        let on : (1 + later) * 16 ≡ 16 + later * 16 = omega arith in
        rw on (
          omega (arith, rest.0, length-drop 16 text),
          past_no_feed 16 text (omega arith) e ∙ ap (λ (n : ℕ). 16 + n) rest.1 ∙ rw (drop-drop (later * 16) 16 text) (omega arith),
        )
    go false e rest = (omega arith, omega arith)

feed_is : (text : List ℕ) → feed_place text < length text → get_or text (feed_place text) 0 ≡ 10
unfolding feed_place
feed_is [] h = absurd (omega arith)
feed_is (b ∷ bs) h = go (eqb b 10) refl h (feed_is bs)
  where
    go :
        (t : Bool) → eqb b 10 ≡ t → cond t 0 (suc (feed_place bs)) < suc (length bs) → (feed_place bs < length bs → get_or bs (feed_place bs) 0 ≡ 10)
        → get_or (b ∷ bs) (cond t 0 (suc (feed_place bs))) 0 ≡ 10
    go true e k further = eqb-true b 10 e
    go false e k further = further (omega arith)

-- ---- the line before it
pub length_from : (text : List ℕ) (feed : ℕ) → 0 < feed → line_length text feed ≡ cond (eqb (get_or text (feed - 1) 0) 13) (feed - 1) feed
length_from text zero h = absurd (omega arith)
length_from text (suc n) h = ap (λ (k : ℕ). cond (eqb (get_or text k 0) 13) k (suc n)) back
  where
    back : n ≡ suc n - 1
    back = omega arith

pub length_fits : (text : List ℕ) (feed : ℕ) → line_length text feed ≤ feed
length_fits text zero = omega arith
length_fits text (suc n) = go (eqb (get_or text n 0) 13)
  where
    go : (t : Bool) → cond t n (suc n) ≤ suc n
    go true = omega arith
    go false = omega arith

-- the ending there leads past the 10
length_ends : (text : List ℕ) (feed : ℕ) → get_or text feed 0 ≡ 10 → suc feed ≡ line_length text feed + ending_at text (line_length text feed)
length_ends text zero e = rw e
length_ends text (suc n) e = go (eqb (get_or text n 0) 13) refl
  where
    go : (t : Bool) → eqb (get_or text n 0) 13 ≡ t → suc (suc n) ≡ cond t n (suc n) + ending_at text (cond t n (suc n))
    go true h = rw (eqb-true (get_or text n 0) 13 h, add-one n, e) (omega arith)
    go false h = rw e (omega arith)

-- b before a line that ends at a 10 at place n of bs: it is in the line, but for a 13 directly before the 10
front_line :
    (b : ℕ) (bs : List ℕ) (n : ℕ) (lines : List (List ℕ)) → eqb (first bs) 10 ≡ eqb n 0
    → cond (eqb b 13 && eqb (first bs) 10) (take (line_length bs n) bs ∷ lines) ((b ∷ take (line_length bs n) bs) ∷ lines) ≡ take (line_length (b ∷ bs) (suc n)) (b ∷ bs) ∷ lines
front_line b bs zero lines e = rw e (go (eqb b 13))
  where
    go : (t : Bool) → cond (t && true) ([] ∷ lines) ((b ∷ []) ∷ lines) ≡ take (cond t 0 1) (b ∷ bs) ∷ lines
    go true = refl
    go false = refl
front_line b bs (suc n) lines e = rw (e, eqb-suc-zero n) (go (eqb b 13) (eqb (get_or bs n 0) 13))
  where
    go :
        (t u : Bool) → cond (t && false) (take (cond u n (suc n)) bs ∷ lines) ((b ∷ take (cond u n (suc n)) bs) ∷ lines)
        ≡ take (cond u (suc n) (suc (suc n))) (b ∷ bs) ∷ lines
    go true true = refl
    go true false = refl
    go false true = refl
    go false false = refl

feed_first : (text : List ℕ) → feed_place text < length text → eqb (first text) 10 ≡ eqb (feed_place text) 0
unfolding feed_place
feed_first [] h = absurd (omega arith)
feed_first (b ∷ bs) h = go (eqb b 10)
  where
    go : (t : Bool) → t ≡ eqb (cond t 0 (suc (feed_place bs))) 0
    go true = refl
    go false = sym (eqb-suc-zero (feed_place bs))

first_line : (text : List ℕ) → feed_place text < length text → lines_of text ≡ take (line_length text (feed_place text)) text ∷ lines_of (drop (suc (feed_place text)) text)
unfolding feed_place lines_of
first_line [] h = absurd (omega arith)
first_line (b ∷ bs) h = go (eqb b 10) h (first_line bs)
  where
    n : ℕ
    n = feed_place bs

    go :
        (t : Bool) → cond t 0 (suc n) < suc (length bs)
        → (n < length bs → lines_of bs ≡ take (line_length bs n) bs ∷ lines_of (drop (suc n) bs))
        → cond t ([] ∷ lines_of bs) (cond (eqb b 13 && eqb (first bs) 10) (lines_of bs) (onto b (lines_of bs)))
        ≡ take (line_length (b ∷ bs) (cond t 0 (suc n))) (b ∷ bs) ∷ lines_of (drop (suc (cond t 0 (suc n))) (b ∷ bs))
    go true k further = refl
    go false k further =
        ap (λ (lines : List (List ℕ)). cond (eqb b 13 && eqb (first bs) 10) lines (onto b lines)) (further (omega arith))
        ∙ front_line b bs n (lines_of (drop (suc n) bs)) (feed_first bs (omega arith))

-- ---- the last line, without an ending
none_first : (text : List ℕ) → length text ≤ feed_place text → eqb (first text) 10 ≡ false
unfolding feed_place
none_first [] h = refl
none_first (b ∷ bs) h = go (eqb b 10) h
  where
    go : (t : Bool) → suc (length bs) ≤ cond t 0 (suc (feed_place bs)) → t ≡ false
    go true k = absurd (omega arith)
    go false k = refl

none_further : (b : ℕ) (bs : List ℕ) → length (b ∷ bs) ≤ feed_place (b ∷ bs) → length bs ≤ feed_place bs
unfolding feed_place
none_further b bs h = go (eqb b 10) h
  where
    go : (t : Bool) → suc (length bs) ≤ cond t 0 (suc (feed_place bs)) → length bs ≤ feed_place bs
    go true k = absurd (omega arith)
    go false k = omega arith

last_step : (b : ℕ) (bs : List ℕ) → length (b ∷ bs) ≤ feed_place (b ∷ bs) → lines_of (b ∷ bs) ≡ onto b (lines_of bs)
unfolding lines_of
last_step b bs h = rw (none_first (b ∷ bs) h, none_first bs (none_further b bs h)) (go (eqb b 13))
  where
    go : (t : Bool) → cond (t && false) (lines_of bs) (onto b (lines_of bs)) ≡ onto b (lines_of bs)
    go true = refl
    go false = refl

pub no_lines : lines_of [] ≡ []
unfolding lines_of
no_lines = refl

last_line : (b : ℕ) (bs : List ℕ) → length (b ∷ bs) ≤ feed_place (b ∷ bs) → lines_of (b ∷ bs) ≡ (b ∷ bs) ∷ []
last_line b [] h = last_step b [] h ∙ ap (onto b) no_lines
last_line b (c ∷ cs) h = last_step b (c ∷ cs) h ∙ ap (onto b) (last_line c cs (none_further b (c ∷ cs) h))

whole_line : (text : List ℕ) → 0 < length text → length text ≤ feed_place text → lines_of text ≡ text ∷ []
whole_line [] h k = absurd (omega arith)
whole_line (b ∷ bs) h k = last_line b bs k

-- ---- the line from a place on, where part is the text from there on
ending_from : (text : List ℕ) (from i : ℕ) → ending_at (drop from text) i ≡ ending_at text (from + i)
ending_from text from i = rw (get_or-drop from text i 0, get_or-drop from text (i + 1) 0, on)
  where
    on : from + (i + 1) ≡ from + i + 1
    on = omega arith

past_end : (text : List ℕ) → ending_at text (length text) ≡ 0
past_end text = rw (get_d_past text (length text) (omega arith))

module _ (text : List ℕ) (from : ℕ) (begins : from < length text) where
  abbrev rest : List ℕ
  rest = drop from text

  pub ended_line : {feed size : ℕ} → feed ≡ feed_place rest → feed < length rest → size ≡ line_length rest feed → LineAt text from (record { end = from + size; next = from + feed + 1 })
  ended_line {feed} {size} e h k = record {
    lines = rw (back, on, ← drop-drop (suc feed) from text) (at_feed (λ (n : ℕ). lines_of rest ≡ take (line_length rest n) rest ∷ lines_of (drop (suc n) rest)) (first_line rest));
    ending = sum (length_ends rest feed (at_feed (λ (n : ℕ). get_or rest n 0 ≡ 10) (feed_is rest))) (ap (ending_at rest) (sym k) ∙ ending_from text from size);
    starts = omega arith;
    onward = omega (arith, length_fits rest feed);
    moves = omega arith;
    inside = omega (arith, length-drop from text);
  }
    where
      back : from + size - from ≡ line_length rest feed
      back = omega arith

      on : from + feed + 1 ≡ from + suc feed
      on = omega arith

      at_feed : (P : ℕ → Type 0) → (feed_place rest < length rest → P (feed_place rest)) → P feed
      at_feed P f = subst P (sym e) (f (subst (λ (n : ℕ). n < length rest) e h))

      sum : {m n : ℕ} → suc feed ≡ line_length rest feed + m → m ≡ n → from + feed + 1 ≡ from + size + n
      sum p q = omega arith

  pub unended_line : length rest ≤ feed_place rest → LineAt text from (record { end = length text; next = length text })
  unended_line h = record {
    lines = whole_line rest (omega (arith, length-drop from text)) h ∙ rw (tail_is from text, drop-length text, no_lines);
    ending = rw (past_end text) (omega arith);
    starts = omega arith;
    onward = omega arith;
    moves = omega arith;
    inside = omega arith;
  }

-- the line is as long as its places say
pub line_long : (text : List ℕ) (from : ℕ) (r : Line) → LineAt text from r → length (take (r.end - from) (drop from text)) ≡ r.end - from
line_long text from r l = length-take-le (r.end - from) (drop from text) (omega (arith, l.onward, l.inside, length-drop from text))
