-- Each step of the walk is one clause of `scan`: what is found from here on is found after the step, and the cell has grown by what the token has.
use mathlib.Core.Path.{◌≡◌, refl, sym, ap, ◌∙◌}
use mathlib.Core.List.{List, [], ◌∷◌, ◌++◌}
use mathlib.Core.Bool.{Bool, true, false, cond}
use Prim.Native.Nat.{ℕ, zero, suc, ◌+◌, ◌-◌, ◌≤◌, ◌<◌}
use native.Mathlib.Nat.{zero-add}
use native.Mathlib.Numerals.{add-one}
use native.Mathlib.Omega.{arith}
use lib.Dec.{eqb}
use lib.ListN.{length, get_or, drop, set, length-append, drop_of_length-le}
use lib.Seq.{sets, drop-cons}
use borrow.Author.Tests.{eq-eqb, ne_eqb}
use Rattle.tokens.specs.declared.tokenize.Act.{Act}
use Rattle.tokens.specs.declared.tokenize.Act.TheVariants.{Add, End, Turn}
use Rattle.tokens.specs.Tokens.{act_of, by_act, ended, scan, tokens_from}
use Rattle.tokens.specs.Walk.{Going, Found}
use Rattle.ascii.proofs.OutputLaws.{store_more}

-- ---- what a byte of the text does
pub at_byte :
    (text : List ℕ) (q : ℕ) (token : List ℕ) (i : ℕ) → i < length text → scan q token (drop i text)
    ≡ by_act (act_of q (length token) (get_or text i 0)) (scan q (token ++ get_or text i 0 ∷ []) (drop (i + 1) text)) (ended token (scan q [] (drop (i + 1) text))) (λ r. scan r token (drop (i + 1) text))
unfolding scan
at_byte text q token i h = rw (add-one, drop-cons text i 0 h)

pub at_end_lem : (text : List ℕ) (q : ℕ) (token : List ℕ) (i : ℕ) → length text ≤ i → scan q token (drop i text) ≡ ended token []
unfolding scan
at_end_lem text q token i h = rw (drop_of_length-le text h)

-- one byte more in the cell, if it is kept
stored_more :
    (kept : Bool) (old cell token : List ℕ) (n b : ℕ) → n ≡ length token → cell ≡ sets old 0 (cond kept token [])
    → cond kept (set cell n b) cell ≡ sets old 0 (cond kept (token ++ b ∷ []) [])
stored_more false old cell token n b l s = s
stored_more true old cell token n b l s = ap (λ (d : List ℕ). set d n b) s ∙ ap (λ (i : ℕ). set (sets old 0 token) i b) (l ∙ sym (zero-add (length token))) ∙ store_more old 0 token b

pub ended_some : (token : List ℕ) (ts : List (List ℕ)) → (length token ≡ 0 → ⊥) → ended token ts ≡ token ∷ ts
ended_some [] ts h = absurd (h refl)
ended_some (c ∷ cs) ts h = refl

-- at the end of a text: the token so far is the last, and there is none behind it
last_token : (token : List ℕ) → token ≡ get_or (ended token []) 0 []
last_token [] = refl
last_token (c ∷ cs) = refl

no_more : (token : List ℕ) (k : ℕ) → (k ≡ 0 → ⊥) → [] ≡ get_or (ended token []) k []
no_more token zero h = absurd (h refl)
no_more [] (suc k) h = refl
no_more (c ∷ cs) (suc k) h = refl

behind : (token : List ℕ) (ts : List (List ℕ)) (k : ℕ) → (k ≡ 0 → ⊥) → get_or ts (k - 1) [] ≡ get_or (token ∷ ts) k []
behind token ts zero h = absurd (h refl)
behind token ts (suc k) h = ap (λ (n : ℕ). get_or ts n []) (less k)
  where
    less : (k : ℕ) → suc k - 1 ≡ k
    less k = omega arith

nothing : (t : Bool) → ◌≡◌ {A = List ℕ} (cond t [] []) []
nothing true = refl
nothing false = refl

-- ---- a byte
module _ {text old wanted : List ℕ} {i quote left len : ℕ} {cell : List ℕ} (g : Going text old wanted i quote left len cell) where
  abbrev b : ℕ
  b = get_or text i 0

  abbrev rest : List ℕ
  rest = drop (i + 1) text

  abbrev kept : Bool
  kept = eqb left 0

  -- while tokens are still to pass, the cell is as it was
  untouched : (left ≡ 0 → ⊥) → cell ≡ old
  untouched k = g.stored ∙ ap (λ (t : Bool). sets old 0 (cond t g.token [])) (ne_eqb left 0 k)

  -- the token so far is the one wanted
  found : left ≡ 0 → g.token ≡ wanted → Found old wanted len cell
  found k e = (g.long ∙ ap length e, g.stored ∙ ap (λ (t : Bool). sets old 0 (cond t g.token [])) (eq-eqb left 0 k) ∙ ap (sets old 0) e)

  module _ (h : i < length text) where
    met :
        (a : Act) → act_of quote len b ≡ a
        → get_or (by_act a (scan quote (g.token ++ b ∷ []) rest) (ended g.token (scan quote [] rest)) (λ r. scan r g.token rest)) left [] ≡ wanted
    met a e =
        ap (λ (x : Act). get_or (by_act x (scan quote (g.token ++ b ∷ []) rest) (ended g.token (scan quote [] rest)) (λ r. scan r g.token rest)) left [])
        (sym e ∙ ap (λ (n : ℕ). act_of quote n b) g.long)
        ∙ ap (λ (ts : List (List ℕ)). get_or ts left []) (sym (at_byte text quote g.token i h))
        ∙ g.ahead

    pub adds : act_of quote len b ≡ Add → Going text old wanted (i + 1) quote left (len + 1) (cond kept (set cell len b) cell)
    adds e =
        record {
          token = g.token ++ b ∷ [];
          long = simp length-append (omega (arith, g.long));
          ahead = met Add e;
          stored = stored_more kept old cell g.token len b g.long g.stored;
        }

    pub turns : {q : ℕ} → act_of quote len b ≡ Turn q → Going text old wanted (i + 1) q left len cell
    turns {q} e = record { token = g.token; long = g.long; ahead = met (Turn q) e; stored = g.stored }

    pub passes : act_of quote len b ≡ End → len ≡ 0 → Going text old wanted (i + 1) quote left len cell
    passes e z = none g.token g.long g.stored (met End e)
      where
        none :
            (token : List ℕ) → len ≡ length token → cell ≡ sets old 0 (cond kept token [])
            → get_or (ended token (scan quote [] rest)) left [] ≡ wanted → Going text old wanted (i + 1) quote left len cell
        none [] l s a = record { token = []; long = l; ahead = a; stored = s }
        none (c ∷ cs) l s a = absurd (omega arith)

    -- a token that is not empty ends
    met-end : act_of quote len b ≡ End → (len ≡ 0 → ⊥) → get_or (g.token ∷ scan quote [] rest) left [] ≡ wanted
    met-end e z =
        ap (λ (ts : List (List ℕ)). get_or ts left []) (sym (ended_some g.token (scan quote [] rest) (λ n. z (g.long ∙ n))))
        ∙ met End e

    pub ends : act_of quote len b ≡ End → (len ≡ 0 → ⊥) → (left ≡ 0 → ⊥) → Going text old wanted (i + 1) quote (left - 1) 0 cell
    ends e z k =
        record {
          token = [];
          long = refl;
          ahead = behind g.token (scan quote [] rest) left k ∙ met-end e z;
          stored = untouched k ∙ sym (ap (sets old 0) (nothing (eqb (left - 1) 0)));
        }

    pub finds : act_of quote len b ≡ End → (len ≡ 0 → ⊥) → left ≡ 0 → Found old wanted len cell
    finds e z k = found k (ap (λ (n : ℕ). get_or (g.token ∷ scan quote [] rest) n []) (sym k) ∙ met-end e z)

  -- the text's end ends the last token
  module _ (h : length text ≤ i) where
    met_last : get_or (ended g.token []) left [] ≡ wanted
    met_last = ap (λ (ts : List (List ℕ)). get_or ts left []) (sym (at_end_lem text quote g.token i h)) ∙ g.ahead

    pub is_last : left ≡ 0 → Found old wanted len cell
    is_last k = found k (last_token g.token ∙ ap (λ (n : ℕ). get_or (ended g.token []) n []) (sym k) ∙ met_last)

    pub is_none : (left ≡ 0 → ⊥) → Found old wanted 0 cell
    is_none k =
        let none : [] ≡ wanted = no_more g.token left k ∙ met_last in
        (ap length none, untouched k ∙ ap (sets old 0) none)

-- ---- the walk as it begins: nothing is passed yet, no quote is open and the token so far is empty
pub goes_first : (text : List ℕ) (k : ℕ) (cell : List ℕ) → Going text cell (get_or (tokens_from text) k []) 0 0 k 0 cell
goes_first text k cell = record { token = []; long = refl; ahead = refl; stored = sym (ap (sets cell 0) (nothing (eqb k 0))) }
