-- Rows whose chains come in runs, each run with a name of its own, leave the names of the runs; and each name is found at its place again.
use mathlib.Core.Path.{◌≡◌, refl, sym, ap, ◌∙◌, subst}
use mathlib.Core.Bool.{Bool, true, false, not, ◌||◌, cond, false≢true}
use mathlib.Core.List.{List, [], ◌∷◌, ◌++◌, map, append_assoc, append-nil}
use Prim.Native.Nat.{ℕ, zero, suc, ◌<◌}
use native.Mathlib.Nat.{le_refl}
use native.Mathlib.Omega.{arith}
use lib.Dec.{eqb}
use lib.ListN.{length, get_or}
use lib.Seq.{take-length}
use borrow.Author.Tests.{eqb-true, eq-eqb, ne_eqb, not-true}
use Rattle.rows.specs.declared.rules.Site.{Site}
use Rattle.model.specs.Chains.{chain_place, with_chain}
use Rattle.model.specs.Lent.{list_from}
use Rattle.model.specs.Lists.{any}
use Rattle.model.specs.WellFormed.{runs_after, runs_of, differ}
use Rattle.model.proofs.ChainsFirstMet.{is_met, met_after, with_chain_lem}
use Rattle.model.proofs.ListLaws.{left_of, right_of, any_at, mem_middle}
use Rattle.wellformed.proofs.SliceLaws.{all_is, map_from}
use Rattle.return_trip.proofs.WellFormedModel.{one_of}

-- ---- names that differ
others_differ : (d : ℕ) (l : List ℕ) → differ (d ∷ l) ≡ true → any (eqb d) l ≡ false
unfolding differ
others_differ d l e = not-true (any (eqb d) l) (left_of (not (any (eqb d) l)) (differ l) e)

tail_differs : (d : ℕ) (l : List ℕ) → differ (d ∷ l) ≡ true → differ l ≡ true
unfolding differ
tail_differs d l e = right_of (not (any (eqb d) l)) (differ l) e

not_met : (l : List ℕ) (c : ℕ) (r : List ℕ) → differ (l ++ c ∷ r) ≡ true → is_met l c ≡ false
not_met [] c r e = refl
not_met (d ∷ l) c r e =
    ap (λ (b : Bool). b || is_met l c)
    (ne_eqb c d (λ q. false≢true (sym (others_differ d (l ++ c ∷ r) e) ∙ any_at (eqb d) (l ++ c ∷ r) c (mem_middle l c r) (eq-eqb d c (sym q)))))
    ∙ not_met l c r (tail_differs d (l ++ c ∷ r) e)

pub place_again : (l : List ℕ) → differ l ≡ true → (i : ℕ) → i < length l → chain_place (get_or l i 0) l ≡ i
unfolding chain_place
place_again [] e i h = absurd (omega arith)
place_again (d ∷ l) e zero h = rw (eq-eqb d d refl)
place_again (d ∷ l) e (suc i) h =
    let c = get_or l i 0 in
    ap (λ (b : Bool). cond b 0 (suc (chain_place c l)))
    (ne_eqb c d (λ q. false≢true (sym (others_differ d l e) ∙ any_at (eqb d) l c (one_of l i (omega arith)) (eq-eqb d c (sym q)))))
    ∙ ap suc (place_again l (tail_differs d l e) i (omega arith))

-- ---- the names at all places
pub names_at_places : (l : List ℕ) → map (λ p. get_or l p 0) (list_from (λ i. i) 0 (length l)) ≡ l
names_at_places l = map_from (λ p. get_or l p 0) (λ i. i) 0 (length l) ∙ all_is l (length l) (le_refl (length l)) ∙ take-length l

-- ---- the chains of rows in runs
module _ {S : Type 0} (site : S → Site) (place : S → ℕ) (name : ℕ → ℕ) (named : (s : S) → (site s).chain ≡ name (place s)) where
  met_after_lem : (q : List ℕ) (x : ℕ) (l : List S) → differ ((q ++ name x ∷ []) ++ map name (runs_after x (map place l))) ≡ true
      → met_after (q ++ name x ∷ []) (map site l) ≡ (q ++ name x ∷ []) ++ map name (runs_after x (map place l))
  unfolding met_after runs_after
  met_after_lem q x [] d = sym (append-nil (q ++ name x ∷ []))
  met_after_lem q x (s ∷ l) d =
      ap (λ (c : ℕ). met_after (with_chain c p) (map site l)) (named s) ∙ go (eqb x (place s)) refl d (met_after_lem q x l) (met_after_lem p (place s) l)
    where
      p : List ℕ
      p = q ++ name x ∷ []

      c : ℕ
      c = name (place s)

      later : List ℕ
      later = map name (runs_after (place s) (map place l))

      same : x ≡ place s → with_chain c p ≡ p
      same e = with_chain_lem c p ∙ ap (λ (b : Bool). cond b p (p ++ c ∷ [])) (any_at (eqb c) p (name x) (mem_middle q (name x) []) (eq-eqb c (name x) (ap name (sym e))))

      new : differ (p ++ c ∷ later) ≡ true → with_chain c p ≡ p ++ c ∷ []
      new e = with_chain_lem c p ∙ ap (λ (b : Bool). cond b p (p ++ c ∷ [])) (not_met p c later e)

      go : (t : Bool) → eqb x (place s) ≡ t
          → differ (p ++ map name (cond t (runs_after x (map place l)) (place s ∷ runs_after (place s) (map place l)))) ≡ true
          → (differ (p ++ map name (runs_after x (map place l))) ≡ true → met_after p (map site l) ≡ p ++ map name (runs_after x (map place l)))
          → (differ ((p ++ c ∷ []) ++ later) ≡ true → met_after (p ++ c ∷ []) (map site l) ≡ (p ++ c ∷ []) ++ later)
          → met_after (with_chain c p) (map site l) ≡ p ++ map name (cond t (runs_after x (map place l)) (place s ∷ runs_after (place s) (map place l)))
      go true e d r t = ap (λ (n : List ℕ). met_after n (map site l)) (same (eqb-true x (place s) e)) ∙ r d
      go false e d r t =
          ap (λ (n : List ℕ). met_after n (map site l)) (new d)
          ∙ t (subst (λ (n : List ℕ). differ n ≡ true) (sym (append_assoc p (c ∷ []) later)) d)
          ∙ append_assoc p (c ∷ []) later

  pub met_in_runs : (l : List S) → differ (map name (runs_of (map place l))) ≡ true → met_after [] (map site l) ≡ map name (runs_of (map place l))
  unfolding met_after with_chain
  met_in_runs [] d = refl
  met_in_runs (s ∷ l) d = ap (λ (c : ℕ). met_after (c ∷ []) (map site l)) (named s) ∙ met_after_lem [] (place s) l d
