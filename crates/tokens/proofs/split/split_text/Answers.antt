-- What is copied is kept by each byte's act, and the text's end ends the last token.
use mathlib.Core.Path.{refl, sym, ap, ◌∙◌}
use mathlib.Core.List.{List}
use Prim.Native.Nat.{ℕ}
use native.Mathlib.Omega.{arith}
use lib.Seq.{sets}
use Rattle.tokens.specs.Split.{places_from}
use Rattle.tokens.specs.Tokens.{tokens_from}
use Rattle.tokens.proofs.SplitLaws.{copies, turns, passes, ends, last_ends, all_copied, first_copied, first_place_lem}
use Rattle.tokens.proofs.split.split_text.Goals as goal
use Rattle.tokens.proofs.split.split_text.Goals.{in-Add, in-End, in-End-2, in-Turn}

pub loop-b-init : goal.loop-b-init
loop-b-init c = (
  record { counted = omega arith; begins = omega arith; within = omega arith },
  rw c.store.ensures (first_copied c.args.text.now c.args.cell.now c.args.places.now),
)

pub loop-b-preserved : goal.loop-b-preserved
loop-b-preserved c =
    let o = c.loop-b.invariant.0 in
    let g = c.loop-b.invariant.1 in
    let h = c.loop-b-test.true in
    let met = sym c.act_of.ensures in
    elim c.match-act_of.branch [
      | in-Add w ↦ rw (w.cell-is, w.places-is, w.quote-is, w.begin-is, w.len-is, w.count-is, w.store-in-Add.ensures) (
        record { counted = o.counted; begins = omega (arith, o.begins); within = omega (arith, o.within) },
        copies g h (met ∙ w.in-Add.is),
      )
      | in-End w ↦ rw (w.cell-is, w.places-is, w.quote-is, w.begin-is, w.len-is, w.count-is) (
        record { counted = o.counted; begins = o.begins; within = omega (arith, o.within) },
        passes g h (met ∙ w.in-End.is) w.if-len-begin.true,
      )
      | in-End-2 w ↦ rw (w.cell-is, w.places-is, w.quote-is, w.begin-is, w.len-is, w.count-is, w.store-in-End-2.ensures) (
        record { counted = omega (arith, o.counted, o.begins, w.if-len-begin.false); begins = omega arith; within = omega (arith, o.within) },
        ends g h (met ∙ w.in-End.is) w.if-len-begin.false,
      )
      | in-Turn w ↦ rw (w.cell-is, w.places-is, w.quote-is, w.begin-is, w.len-is, w.count-is) (
        record { counted = o.counted; begins = o.begins; within = omega (arith, o.within) },
        turns g h (met ∙ w.in-Turn.is),
      )
    ]

pub returns-then-begin-len : goal.returns-then-begin-len
returns-then-begin-len c =
    let text = c.args.text.now in
    let all = all_copied (last_ends c.loop-b.invariant.1 c.loop-b-test.false (λ e. omega arith)) c.loop-b-test.false refl in
    record {
      value = all.0;
      cell_after = all.1;
      places_after =
          c.store-then-begin-len.ensures
          ∙ all.2
          ∙ ap (λ (p : List ℕ). sets p 0 (places_from 0 (tokens_from text))) c.store.ensures
          ∙ first_place_lem c.args.places.now (tokens_from text);
    }

pub returns-else-begin-len : goal.returns-else-begin-len
returns-else-begin-len c =
    let text = c.args.text.now in
    let l = c.loop-b in
    let all = all_copied l.invariant.1 c.loop-b-test.false (omega (arith, l.invariant.0.begins)) in
    record {
      value = all.0;
      cell_after = all.1;
      places_after =
          all.2 ∙ ap (λ (p : List ℕ). sets p 0 (places_from 0 (tokens_from text))) c.store.ensures ∙ first_place_lem c.args.places.now (tokens_from text);
    }
