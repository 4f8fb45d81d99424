-- A function that has given up all its parameters for good, as by passing them on to callees, has of each what says its last value, and no more.
--     gave         what is had of one parameter at exit: what its type says of the last value.        gave_all     of all
--     gave_fit     nothing is owed of the last values.        gave_goes    and what is had is what the contract says
--     gave_ends    how its walk ends: at a result and last values that the prover names
--     gave_meets   so it meets its contract, by a walk that takes nothing of the `requires`
-- Assumes `Logic`.
use Prim.Native.Nat.{ℕ}
use mathlib.Core.List.{List, [], ◌∷◌}
use seplogic.Ra.Ura.{Ura}
use mir.Syntax.{Fn}
use mir.Val.{Val}
use base.Logic.{ent, via, fst∗}
use types.Logic.{Logic, sem}
use prog.Wp.{WpFn, Tables}
use sound.WpLaws.{WpFn-mono}
use contract.Lifetimes.{Lfts, Shares, AllOutlive}
use denote.Exit.{Kept, left}
use denote.Laws.{Are, Ises, Spells, valss, Tellss}
use denote.RattleType.{Denots, flat}
use denote.Signature.{Slot, types_at}
use denote.Triple.Clauses.{Clauses, Ended, Lasts, closing}
use denote.Triple.End.{Kepts, Fins}
use denote.Triple.Entry.{Args, Res, on_entry}
use denote.Triple.Spec.{Meets}
use denote.Triple.Walked.{Stay, Stays, fits_of, AllGo, Ending, walk_of, ends_at, walked, walk_Meets}

module _ {n : ℕ} where
  abbrev pub gave : (s : Slot n) (k : Kept) → Stay s k
  gave s k = record { fit = λ κs x f. Unit {0}; has = λ κs x f vs. left ((s.row κs).exit k) x f }

  abbrev pub gave_all : (ss : List (Slot n)) (ks : Kepts ss) → Stays ss ks
  gave_all [] ks = tt
  gave_all (s ∷ ss) ks = (gave s ks.0, gave_all ss ks.1)

  pub gave_fit : (κs : Lfts n) (ss : List (Slot n)) (ks : Kepts ss) (a : Denots (types_at ss κs)) (ws : Fins κs ss ks a) → fits_of κs ss ks (gave_all ss ks) a ws
  gave_fit κs [] ks a ws = tt
  gave_fit κs (s ∷ ss) ks a ws = (tt, gave_fit κs ss ks.1 a.1 ws.1)

  module _ {M : Type 1} {𝓤 : Ura M} (𝓛 : Logic 𝓤) where
    pub gave_goes : (ss : List (Slot n)) (ks : Kepts ss) → AllGo 𝓛 n ss ks (gave_all ss ks)
    gave_goes [] ks = tt
    gave_goes (s ∷ ss) ks = (λ κs x f vs fits. 𝓛.laws.⇛_intro (sem 𝓛 (left ((s.row κs).exit ks.0) x f)), gave_goes ss ks.1)

module _ {M : Type 1} {𝓤 : Ura M} (𝓛 : Logic 𝓤) (T : Ended) (c : Clauses 𝓤 T) where
  open 𝓛 use {H}

  abbrev params : List (Slot T.signature.lifetimes)
  params = T.signature.params

  abbrev stayed : Stays params T.kept
  stayed = gave_all params T.kept

  pub gave_ends : (y : (walk_of 𝓛 T stayed c).Ghost) (v : Val) (r : Res T.signature y.0.0) (ws : Lasts T y.0.0 y.0.3) → ent 𝓤 (Ending 𝓛 T stayed c y v r ws) ((walk_of 𝓛 T stayed c).post y v)
  gave_ends y v r ws = ends_at 𝓛 T stayed c y v r ws (gave_fit y.0.0 params T.kept y.0.3 ws)

  pub gave_meets : (𝓣 : Tables 𝓤 H) (f : Fn) (spelt : (κs : Lfts T.signature.lifetimes) → Spells (types_at params κs)) → ((κs : Lfts T.signature.lifetimes) → Tellss (types_at params κs) (Ises (types_at params κs)) (spelt κs))
      → ((κs : Lfts T.signature.lifetimes) (qs : Shares T.signature.lifetimes) (bounds : AllOutlive T.signature.lifetimes T.signature.outlives κs) (a : Args T.signature κs) (g : (c κs a).ghost)
      → Are (types_at params κs) (Ises (types_at params κs)) a (valss (types_at params κs) (spelt κs) a)
      → ent 𝓤 (on_entry 𝓛 T.signature κs qs a (valss (types_at params κs) (spelt κs) a))
      (WpFn 𝓤 H 𝓣.C 𝓣.Λ f (flat (types_at params κs) (valss (types_at params κs) (spelt κs) a)) ((walk_of 𝓛 T stayed c).post ((κs, qs, bounds, a, valss (types_at params κs) (spelt κs) a), g))))
      → Meets 𝓛 T.signature (WpFn 𝓤 H 𝓣.C 𝓣.Λ f) (closing 𝓛 T c)
  gave_meets 𝓣 f spelt tells walk =
      walk_Meets 𝓛 T stayed (gave_goes 𝓛 params T.kept) c (WpFn 𝓤 H 𝓣.C 𝓣.Λ f) (WpFn-mono 𝓤 H 𝓛.laws 𝓣 f)
      (walked 𝓛 T stayed c (WpFn 𝓤 H 𝓣.C 𝓣.Λ f) spelt tells (λ κs qs bounds a g are. via 𝓤 _ (fst∗ 𝓤 _ ((c κs a).requires g)) (walk κs qs bounds a g are)))
