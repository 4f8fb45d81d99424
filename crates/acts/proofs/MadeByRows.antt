-- What acts make is what their rows make, where none of them refuses and what the rows leave in the end fits the room: room is a matter of the final sizes.
use Prim.{tt}
use mathlib.Core.Path.{◌≡◌, refl, sym, ap, ◌∙◌, subst}
use mathlib.Core.List.{List, [], ◌∷◌, ◌++◌}
use Rattle.std.specs.Prelude.{Option, Some, None}
use Rattle.refusals.specs.declared.details.RecordKind.{RecordKind}
use Rattle.model.specs.Fold.{State, step, run}
use Rattle.model.specs.Room.{Fits, lacking}
use Rattle.model.specs.Taken.{Taken, skipped, site}
use Rattle.model.specs.declared.room.Room.{Room}
use Rattle.model.proofs.RoomLaws.{none_fits, fits_none, fitted_all}
use Rattle.acts.specs.declared.act.Act.{Act}
use Rattle.acts.specs.declared.act.Act.TheVariants.{Pass, Skip, Keep, Refuse}
use Rattle.acts.specs.Acts.{Asked, row_in, rows_in, GoesOn, AllGoOn}
use Rattle.acts.specs.Making.{Making, going, halted, within, done_at, done, made}
use Rattle.acts.proofs.MadeOn.{going_not, onward}

run_append : (st : State) (l m : List Taken) → run st (l ++ m) ≡ run (run st l) m
unfolding run
run_append st [] m = refl
run_append st (r ∷ l) m = run_append (step st r) l m

module _ (room : Room) where
  -- ---- what is made
  record ByRow (act : Act) (st s : State) : Type 0 where
    goes : GoesOn act
    row : run st (row_in act) ≡ s
    fits : Fits room st → Fits room s

  one_made : (st : State) (a : Asked) (s : State) → done room st a ≡ going s → ByRow a.act st s
  unfolding run lacking
  one_made st a s e = by_act_lem a.act e
    where
      by_act_lem : (act : Act) → done_at room st a.line act ≡ going s → ByRow act st s
      by_act_lem Pass e = let q : st ≡ s = cc in record { goes = tt; row = q; fits = subst (Fits room) q }
      by_act_lem Skip e = let q : step st skipped ≡ s = cc in record { goes = tt; row = q; fits = λ f. subst (Fits room) q (none_fits room st skipped f refl) }
      by_act_lem (Keep x) e = go (lacking room st (site x)) refl e
        where
          go : (n : Option RecordKind) → lacking room st (site x) ≡ n → within a.line n (going (step st (site x))) ≡ going s → ByRow (Keep x) st s
          go None n e = let q : step st (site x) ≡ s = cc in record { goes = tt; row = q; fits = λ f. subst (Fits room) q (none_fits room st (site x) f n) }
          go (Some lack) n e = going_not (sym e)
      by_act_lem (Refuse why) e = going_not (sym e)

  pub done_goes : (st : State) (a : Asked) (s : State) → done room st a ≡ going s → GoesOn a.act
  done_goes st a s e = (one_made st a s e).goes

  pub record ByRows (acts : List Asked) (st s : State) : Type 0 where
    pub goes : AllGoOn acts
    pub rows : s ≡ run st (rows_in acts)
    pub fits : Fits room st → Fits room s

  pub made_by_rows : (st : State) (acts : List Asked) (s : State) → made room st acts ≡ going s → ByRows acts st s
  unfolding made rows_in run
  made_by_rows st [] s e = let q : st ≡ s = cc in record { goes = tt; rows = sym q; fits = subst (Fits room) q }
  made_by_rows st (a ∷ acts) s e = go (done room st a) refl e (λ t. made_by_rows t acts s)
    where
      go : (m : Making) → done room st a ≡ m → onward room acts m ≡ going s → ((t : State) → made room t acts ≡ going s → ByRows acts t s) → ByRows (a ∷ acts) st s
      go (going t) d e later =
          let here = one_made st a t d in
          let rest = later t e in
          record {
            goes = (here.goes, rest.goes);
            rows = rest.rows ∙ sym (run_append st (row_in a.act) (rows_in acts) ∙ ap (λ (x : State). run x (rows_in acts)) here.row);
            fits = λ f. rest.fits (here.fits f);
          }
      go (halted why) d e later = going_not (sym e)

  -- ---- and so it is made
  pub goes_made : (st : State) (acts : List Asked) → AllGoOn acts → Fits room (run st (rows_in acts)) → made room st acts ≡ going (run st (rows_in acts))
  unfolding made rows_in run
  goes_made st [] g f = refl
  goes_made st (a ∷ acts) g f = go a.act g.0 (λ t. goes_made t acts g.1) f
    where
      rest : List Taken
      rest = rows_in acts

      go : (act : Act) → GoesOn act → ((t : State) → Fits room (run t rest) → made room t acts ≡ going (run t rest))
          → Fits room (run st (row_in act ++ rest)) → onward room acts (done_at room st a.line act) ≡ going (run st (row_in act ++ rest))
      go Pass g later f = later st f
      go Skip g later f = later (step st skipped) f
      go (Keep x) g later f = rw (fits_none room st (site x) (fitted_all room (step st (site x)) rest f)) (later (step st (site x)) f)
      go (Refuse why) g later f = absurd g
