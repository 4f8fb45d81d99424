-- A map into which keys are put as they ascend has them in their order, each with what its first row says; a key that is put again where it stands last changes
-- nothing that is kept.
use Prim.{tt}
use mathlib.Core.Path.{◌≡◌, refl, sym, ap, ◌∙◌, subst}
use mathlib.Core.Bool.{Bool, true, false, cond}
use mathlib.Core.List.{List, [], ◌∷◌, ◌++◌, map, append_assoc, append-nil}
use mathlib.Core.Option.{Option, none, some}
use Prim.Native.Nat.{ℕ, suc, ◌≤◌, ◌<◌}
use native.Mathlib.Omega.{arith}
use lib.Dec.{eqb, ltb}
use borrow.Author.Tests.{eqb-true, eqb-false, ltb-true}
use Rattle.names.specs.Places.{ascends}
use Rattle.model.specs.Lists.{All}
use Rattle.model.specs.Map.{Entry, Map, made, put}
use Rattle.model.specs.WellFormed.{runs_after, runs_of}
use Rattle.model.proofs.BuiltMaps.{build}
use Rattle.model.proofs.ListLaws.{left_of, right_of, all_map, all_append}
use Rattle.model.proofs.MapLaws.{choose_same, choose_more}
use Rattle.model.proofs.RunsLaws.{AscendsFrom}
use Rattle.model.proofs.WalkLaws.{RisingFrom, Rising}

ascends_after : (x : ℕ) (l : List ℕ) → ascends (x ∷ l) ≡ true → AscendsFrom (suc x) l
unfolding ascends
ascends_after x [] e = tt
ascends_after x (y ∷ l) e = (ltb-true x y (left_of (ltb x y) (ascends (y ∷ l)) e), ascends_after y l (right_of (ltb x y) (ascends (y ∷ l)) e))

pub ascends_from_zero : (l : List ℕ) → ascends l ≡ true → AscendsFrom 0 l
ascends_from_zero [] e = tt
ascends_from_zero (x ∷ l) e = (omega arith, ascends_after x l e)

module _ {W : Type 0} where
  -- every key is below b
  abbrev Below : ℕ → Map W → Type 0
  Below b m = All (λ e. e.key < b) m

  put_last : (k : ℕ) (f : Option W → W) (m : Map W) → Below k m → put k f m ≡ m ++ made k f none ∷ []
  unfolding put
  put_last k f [] a = refl
  put_last k f (e ∷ m) a = choose_more k e.key _ _ _ a.0 ∙ ap (λ (r : Map W). e ∷ r) (put_last k f m a.1)

  put_again : (f : Option W → W) (m : Map W) (e : Entry W) → Below e.key m → put e.key f (m ++ e ∷ []) ≡ m ++ made e.key f (some e.value) ∷ []
  unfolding put
  put_again f [] e a = choose_same e.key e.key _ _ _ refl
  put_again f (d ∷ m) e a = choose_more e.key d.key _ _ _ a.0 ∙ ap (λ (r : Map W). d ∷ r) (put_again f m e a.1)

  lower : (b c : ℕ) (m : Map W) → b ≤ c → Below b m → Below c m
  lower b c m h a = all_map (λ e. e.key < b) (λ e. e.key < c) (λ e k. omega arith) m a

  -- rows by what they are made of
  pub build_of : {A S : Type 0} (g : A → S) (k : S → ℕ) (j : A → ℕ) (u : S → Option W → W) (m : Map W) (l : List A) → All (λ a. k (g a) ≡ j a) l
      → build k u m (map g l) ≡ build j (λ a. u (g a)) m l
  unfolding build
  build_of g k j u m [] h = refl
  build_of g k j u m (a ∷ l) h = ap (λ (x : ℕ). build k u (put x (u (g a)) m) (map g l)) h.0 ∙ build_of g k j u (put (j a) (u (g a)) m) l h.1

  module _ {A : Type 0} (j : A → ℕ) (u : A → Option W → W) where
    -- ---- keys that ascend
    in_order : (b : ℕ) (m : Map W) (l : List A) → Below b m → AscendsFrom b (map j l) → build j u m l ≡ m ++ map (λ a. made (j a) (u a) none) l
    unfolding build
    in_order b m [] h r = sym (append-nil m)
    in_order b m (a ∷ l) h r =
        let e = made (j a) (u a) none in
        ap (λ (n : Map W). build j u n l) (put_last (j a) (u a) m (lower b (j a) m r.0 h))
        ∙ in_order (suc (j a)) (m ++ e ∷ []) l
        (all_append (λ e. e.key < suc (j a)) m (e ∷ []) (lower b (suc (j a)) m (omega (arith, r.0)) h) (omega arith, tt)) r.1
        ∙ append_assoc m (e ∷ []) (map (λ a. made (j a) (u a) none) l)

    pub built_in_order : (l : List A) → ascends (map j l) ≡ true → build j u [] l ≡ map (λ a. made (j a) (u a) none) l
    built_in_order l e = in_order 0 [] l tt (ascends_from_zero (map j l) e)

    -- ---- keys in runs
    module _ (value : ℕ → W) (fresh : (a : A) → u a none ≡ value (j a)) (kept : (a : A) (w : W) → u a (some w) ≡ w) where
      abbrev entry : ℕ → Entry W
      entry x = record { key = x; value = value x }

      in_runs_lem : (q : Map W) (x : ℕ) (l : List A) → Below x q → RisingFrom x (map j l)
          → build j u (q ++ entry x ∷ []) l ≡ (q ++ entry x ∷ []) ++ map entry (runs_after x (map j l))
      unfolding build runs_after
      in_runs_lem q x [] h r = sym (append-nil (q ++ entry x ∷ []))
      in_runs_lem q x (a ∷ l) h r = go (eqb x (j a)) refl (in_runs_lem q x l h) (λ b. in_runs_lem p (j a) l b r.1)
        where
          p : Map W
          p = q ++ entry x ∷ []

          same : x ≡ j a → put (j a) (u a) p ≡ p
          same e =
              ap (λ (k : ℕ). put k (u a) (q ++ entry x ∷ [])) (sym e)
              ∙ put_again (u a) q (entry x) h
              ∙ ap (λ (w : W). q ++ record { key = x; value = w } ∷ []) (kept a (value x))

          above : x < j a → Below (j a) p
          above less = all_append (λ e. e.key < j a) q (entry x ∷ []) (lower x (j a) q (omega arith) h) (less, tt)

          new : x < j a → put (j a) (u a) p ≡ p ++ entry (j a) ∷ []
          new less = put_last (j a) (u a) p (above less) ∙ ap (λ (w : W). p ++ record { key = j a; value = w } ∷ []) (fresh a)

          go : (t : Bool) → eqb x (j a) ≡ t
              → (RisingFrom x (map j l) → build j u p l ≡ p ++ map entry (runs_after x (map j l)))
              → (Below (j a) p → build j u (p ++ entry (j a) ∷ []) l ≡ (p ++ entry (j a) ∷ []) ++ map entry (runs_after (j a) (map j l)))
              → build j u (put (j a) (u a) p) l ≡ p ++ map entry (cond t (runs_after x (map j l)) (j a ∷ runs_after (j a) (map j l)))
          go true e s t =
              let q = eqb-true x (j a) e in
              ap (λ (n : Map W). build j u n l) (same q) ∙ s (subst (λ (y : ℕ). RisingFrom y (map j l)) (sym q) r.1)
          go false e s t =
              let less : x < j a = omega (arith, r.0, eqb-false x (j a) e) in
              ap (λ (n : Map W). build j u n l) (new less) ∙ t (above less) ∙ append_assoc p (entry (j a) ∷ []) (map entry (runs_after (j a) (map j l)))

      pub built_in_runs : (l : List A) → Rising (map j l) → build j u [] l ≡ map entry (runs_of (map j l))
      unfolding build put
      built_in_runs [] r = refl
      built_in_runs (a ∷ l) r =
          ap (λ (w : W). build j u (record { key = j a; value = w } ∷ []) l) (fresh a) ∙ in_runs_lem [] (j a) l tt r.1
