-- The chains that rows leave are theirs in first-met order: a chain that is there already leaves the list as it is, and a new one comes to its end, so
-- that those before it keep their places.
use Prim.{tt}
use mathlib.Core.Path.{◌≡◌, refl, sym, ap, ◌∙◌}
use mathlib.Core.Bool.{Bool, true, false, cond, not, ◌||◌, false≢true, or-true, or_assoc}
use mathlib.Core.List.{List, [], ◌∷◌, ◌++◌, append_assoc, append-nil}
use Prim.Native.Nat.{ℕ, suc}
use native.Mathlib.Omega.{arith}
use lib.Dec.{eqb, leb, leb-suc-suc}
use lib.ListN.{length, length-append}
use borrow.Author.Tests.{eqb-true, eq-eqb, lt-leb}
use Rattle.rows.specs.declared.rules.Site.{Site}
use Rattle.model.specs.Chains.{chain_place, with_chain}
use Rattle.model.specs.Lists.{filter, any, All}
use Rattle.model.specs.Rules.{first_met}

abbrev pub is_met : List ℕ → ℕ → Bool
is_met l c = any (eqb c) l

abbrev pub Met : List ℕ → ℕ → Type 0
Met l c = is_met l c ≡ true

-- ---- one chain
pub with_chain_lem : (c : ℕ) (l : List ℕ) → with_chain c l ≡ cond (is_met l c) l (l ++ (c ∷ []))
unfolding with_chain
with_chain_lem c [] = refl
with_chain_lem c (d ∷ l) = go (eqb c d) (is_met l c) (with_chain_lem c l)
  where
    go : (b t : Bool) → with_chain c l ≡ cond t l (l ++ (c ∷ [])) → cond b (d ∷ l) (d ∷ with_chain c l) ≡ cond (b || t) (d ∷ l) (d ∷ l ++ (c ∷ []))
    go true t e = refl
    go false true e = ap (λ (m : List ℕ). d ∷ m) e
    go false false e = ap (λ (m : List ℕ). d ∷ m) e

met_append : (c : ℕ) (l m : List ℕ) → is_met (l ++ m) c ≡ (is_met l c || is_met m c)
met_append c [] m = refl
met_append c (d ∷ l) m = ap (λ (b : Bool). eqb c d || b) (met_append c l m) ∙ sym (or_assoc (eqb c d) (is_met l c) (is_met m c))

met_before_lem : (c : ℕ) (l m : List ℕ) → Met l c → Met (l ++ m) c
met_before_lem c l m h = met_append c l m ∙ ap (λ (b : Bool). b || is_met m c) h

place_before : (c : ℕ) (l m : List ℕ) → Met l c → chain_place c (l ++ m) ≡ chain_place c l
unfolding chain_place
place_before c [] m h = absurd (false≢true h)
place_before c (d ∷ l) m h = go (eqb c d) h (place_before c l m)
  where
    go : (b : Bool) → (b || is_met l c) ≡ true → (Met l c → chain_place c (l ++ m) ≡ chain_place c l) → cond b 0 (suc (chain_place c (l ++ m))) ≡ cond b 0 (suc (chain_place c l))
    go true e r = refl
    go false e r = ap suc (r e)

pub met_here : (c : ℕ) (l : List ℕ) → Met (with_chain c l) c
met_here c l = rw (with_chain_lem c l) (go (is_met l c) refl)
  where
    go : (b : Bool) → is_met l c ≡ b → Met (cond b l (l ++ (c ∷ []))) c
    go true e = e
    go false e = met_append c l (c ∷ []) ∙ ap (λ (b : Bool). is_met l c || (b || false)) (eq-eqb c c refl) ∙ or-true (is_met l c)

pub place_past : (c : ℕ) (l : List ℕ) → leb (length l) (chain_place c l) ≡ not (is_met l c)
unfolding chain_place
place_past c [] = refl
place_past c (d ∷ l) = go (eqb c d) (place_past c l)
  where
    go : (b : Bool) → leb (length l) (chain_place c l) ≡ not (is_met l c) → leb (suc (length l)) (cond b 0 (suc (chain_place c l))) ≡ not (b || is_met l c)
    go true e = lt-leb (suc (length l)) 0 (omega arith)
    go false e = leb-suc-suc (length l) (chain_place c l) ∙ e

pub length_with : (c : ℕ) (l : List ℕ) → length (with_chain c l) ≡ cond (leb (length l) (chain_place c l)) (suc (length l)) (length l)
length_with c l = rw (with_chain_lem c l, place_past c l) (go (is_met l c))
  where
    go : (b : Bool) → length (cond b l (l ++ (c ∷ []))) ≡ cond (not b) (suc (length l)) (length l)
    go true = refl
    go false = length-append l (c ∷ []) ∙ omega arith

-- ---- the chains of some rows
unfoldable pub met_after : List ℕ → List Site → List ℕ
met_after p [] = p
met_after p (s ∷ l) = met_after (with_chain s.chain p) l

-- without the chains of p
abbrev without : List ℕ → List ℕ → List ℕ
without p l = filter (λ c. not (is_met p c)) l

filter_filter : (p q r : ℕ → Bool) → ((c : ℕ) → r c ≡ cond (q c) (p c) false) → (l : List ℕ) → filter p (filter q l) ≡ filter r l
filter_filter p q r h [] = refl
filter_filter p q r h (c ∷ l) = go (q c) refl (filter_filter p q r h l)
  where
    go : (b : Bool) → q c ≡ b → filter p (filter q l) ≡ filter r l → filter p (cond b (c ∷ filter q l) (filter q l)) ≡ cond (r c) (c ∷ filter r l) (filter r l)
    go true w e = rw (h c, w) (ap (λ (n : List ℕ). cond (p c) (c ∷ n) n) e)
    go false w e = rw (h c, w) e

met_after_lem : (p : List ℕ) (l : List Site) → met_after p l ≡ p ++ without p (first_met l)
unfolding met_after first_met
met_after_lem p [] = sym (append-nil p)
met_after_lem p (s ∷ l) = met_after_lem (with_chain s.chain p) l ∙ ap (λ (n : List ℕ). n ++ without n (first_met l)) (with_chain_lem s.chain p) ∙ go (is_met p s.chain) refl
  where
    known : Met p s.chain → (x : ℕ) → not (is_met p x) ≡ cond (not (eqb x s.chain)) (not (is_met p x)) false
    known e x = at (eqb x s.chain) refl
      where
        at : (b : Bool) → eqb x s.chain ≡ b → not (is_met p x) ≡ cond (not b) (not (is_met p x)) false
        at true q = ap (λ (y : ℕ). not (is_met p y)) (eqb-true _ _ q) ∙ ap not e
        at false q = refl

    fresh : (x : ℕ) → not (is_met (p ++ (s.chain ∷ [])) x) ≡ cond (not (eqb x s.chain)) (not (is_met p x)) false
    fresh x = ap not (met_append x p (s.chain ∷ [])) ∙ at (is_met p x) (eqb x s.chain)
      where
        at : (t u : Bool) → not (t || (u || false)) ≡ cond (not u) (not t) false
        at true true = refl
        at true false = refl
        at false true = refl
        at false false = refl

    go : (b : Bool) → is_met p s.chain ≡ b
        → cond b p (p ++ (s.chain ∷ [])) ++ without (cond b p (p ++ (s.chain ∷ []))) (first_met l)
        ≡ p ++ cond (not b) (s.chain ∷ without p (filter (λ c. not (eqb c s.chain)) (first_met l))) (without p (filter (λ c. not (eqb c s.chain)) (first_met l)))
    go true e = ap (λ (n : List ℕ). p ++ n) (sym (filter_filter (λ x. not (is_met p x)) (λ x. not (eqb x s.chain)) (λ x. not (is_met p x)) (known e) (first_met l)))
    go false e =
        append_assoc p (s.chain ∷ []) (without (p ++ (s.chain ∷ [])) (first_met l))
        ∙ ap (λ (n : List ℕ). p ++ s.chain ∷ n)
        (sym (filter_filter (λ x. not (is_met p x)) (λ x. not (eqb x s.chain)) (λ x. not (is_met (p ++ (s.chain ∷ [])) x)) fresh (first_met l)))

-- a chain that is met keeps its place
pub place_stays : (c : ℕ) (p : List ℕ) (l : List Site) → Met p c → chain_place c (met_after p l) ≡ chain_place c p
place_stays c p l h = ap (chain_place c) (met_after_lem p l) ∙ place_before c p (without p (first_met l)) h

pub all_met : (p : List ℕ) (l : List Site) → All (λ (s : Site). Met (met_after p l) s.chain) l
unfolding met_after
all_met p [] = tt
all_met p (s ∷ l) = (
  rw (met_after_lem (with_chain s.chain p) l) (met_before_lem s.chain (with_chain s.chain p) (without (with_chain s.chain p) (first_met l)) (met_here s.chain p)),
  all_met (with_chain s.chain p) l,
)

-- ---- the theorem
pub chains_first_met : (l : List Site) → met_after [] l ≡ first_met l
chains_first_met l = met_after_lem [] l ∙ all (first_met l)
  where
    all : (l : List ℕ) → filter (λ c. true) l ≡ l
    all [] = refl
    all (c ∷ l) = ap (λ (r : List ℕ). c ∷ r) (all l)
