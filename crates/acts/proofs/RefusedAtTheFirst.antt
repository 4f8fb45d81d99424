-- Acts are refused exactly by the first that earns a refusal: those before it are done, and none after it is looked at. Said once for every format.
use mathlib.Core.Path.{◌≡◌, refl, sym, ap, ◌∙◌, subst}
use mathlib.Core.Logic.{◌↔◌}
use mathlib.Core.List.{List, [], ◌∷◌, ◌++◌}
use Rattle.std.specs.Prelude.{Option, Some, None}
use Rattle.refusals.specs.declared.details.RecordKind.{RecordKind}
use Rattle.refusals.specs.declared.reasons.Refusal.{Refusal}
use Rattle.rows.specs.declared.rules.Site.{Site}
use Rattle.model.specs.Fold.{State, start, step}
use Rattle.model.specs.Room.{lacking}
use Rattle.model.specs.Taken.{site}
use Rattle.model.specs.declared.room.Room.{Room}
use Rattle.acts.specs.declared.act.Act.{Act}
use Rattle.acts.specs.declared.act.Act.TheVariants.{Pass, Skip, Keep, Refuse}
use Rattle.acts.specs.Acts.{Asked}
use Rattle.acts.specs.Earning.{ActEarns, refuses, lacks_room, FirstActToEarn, NoActEarns}
use Rattle.acts.specs.Making.{Making, going, halted, within, done_at, done, made}
use Rattle.acts.proofs.MadeOn.{going_not, onward, made_on}

-- ---- one act
module _ (room : Room) (st : State) (a : Asked) where
  earned_halts : (why : Refusal) → ActEarns room st a why → done room st a ≡ halted why
  earned_halts why (refuses y e) = ap (done_at room st a.line) e
  earned_halts why (lacks_room s kind e l) = ap (done_at room st a.line) e ∙ ap (λ (n : Option RecordKind). within a.line n (going (step st (site s)))) l

  halts_earned : (why : Refusal) → done room st a ≡ halted why → ActEarns room st a why
  halts_earned why e = by_act_lem a.act refl e
    where
      same : {other : Refusal} → halted other ≡ halted why → ActEarns room st a other → ActEarns room st a why
      same {other} e h = let q : other ≡ why = cc in subst (ActEarns room st a) q h

      by_room : (s : Site) → a.act ≡ Keep s → (n : Option RecordKind) → lacking room st (site s) ≡ n → within a.line n (going (step st (site s))) ≡ halted why → ActEarns room st a why
      by_room s k None l e = going_not e
      by_room s k (Some kind) l e = same e (lacks_room s kind k l)

      by_act_lem : (act : Act) → a.act ≡ act → done_at room st a.line act ≡ halted why → ActEarns room st a why
      by_act_lem Pass k e = going_not e
      by_act_lem Skip k e = going_not e
      by_act_lem (Keep s) k e = by_room s k (lacking room st (site s)) refl e
      by_act_lem (Refuse y) k e = same e (refuses y k)

-- ---- all acts, from any state
module _ (room : Room) where
  -- those that are done, the one that earns the refusal, and the others
  abbrev Cut : State → List Asked → Refusal → Type 0
  Cut st acts why = (before : List Asked) × (a : Asked) × (after : List Asked) × (s : State) × (acts ≡ before ++ a ∷ after) × (made room st before ≡ going s) × ActEarns room s a why

  cut_at : (st : State) (acts : List Asked) (why : Refusal) → made room st acts ≡ halted why → Cut st acts why
  unfolding made
  cut_at st [] why e = going_not e
  cut_at st (a ∷ acts) why e = go (done room st a) refl e (λ t. cut_at t acts why)
    where
      go : (m : Making) → done room st a ≡ m → onward room acts m ≡ halted why → ((t : State) → made room t acts ≡ halted why → Cut t acts why) → Cut st (a ∷ acts) why
      go (going t) d e later = let w = later t e in (a ∷ w.0, w.1, w.2, w.3, ap (λ (l : List Asked). a ∷ l) w.4, ap (onward room w.0) d ∙ w.5, w.6)
      go (halted y) d e later = ([], a, acts, st, refl, refl, halts_earned room st a why (d ∙ e))

  at_cut : (st : State) (acts : List Asked) (why : Refusal) → Cut st acts why → made room st acts ≡ halted why
  unfolding made
  at_cut st acts why (before, a, after, s, among, made-before, earns) =
      ap (made room st) among ∙ made_on room st before (a ∷ after) s made-before ∙ ap (onward room after) (earned_halts room s a why earns)

  -- ---- the theorems
  pub refused_exactly : (acts : List Asked) (why : Refusal) → (made room start acts ≡ halted why) ↔ FirstActToEarn room acts why
  refused_exactly acts why = (
    λ e. let w = cut_at start acts why e in record { before = w.0; act = w.1; after = w.2; among = w.4; st = w.3; done = w.5; earns = w.6 },
    λ f. at_cut start acts why (f.before, f.act, f.after, f.st, f.among, f.done, f.earns),
  )

  -- acts are done to their end exactly where none earns a refusal
  pub done_exactly : (acts : List Asked) → ((st : State) × (made room start acts ≡ going st)) ↔ NoActEarns room acts
  done_exactly acts = (λ r why f. going_not (sym r.1 ∙ (refused_exactly acts why).1 f), go (made room start acts) refl)
    where
      go : (m : Making) → made room start acts ≡ m → NoActEarns room acts → (st : State) × (made room start acts ≡ going st)
      go (going st) e n = (st, e)
      go (halted why) e n = absurd (n why ((refused_exactly acts why).0 e))

-- and the refusal tells its act's line
pub earned_at_its_line : {room : Room} {st : State} {a : Asked} {why : Refusal} → ActEarns room st a why → why.line ≡ a.line
earned_at_its_line (refuses y e) = refl
earned_at_its_line (lacks_room s kind e l) = refl
