-- Each turn stores what one residue is and goes on to the next; it ends at the first unknown one, or behind all of them.
use mathlib.Core.Path.{refl, ap, ◌∙◌}
use mathlib.Core.List.{List}
use native.Mathlib.Omega.{arith}
use Prim.Native.Nat.{ℕ}
use lib.ListN.{get_or, take}
use Rattle.std.proofs.Common.{rules}
use Rattle.finishing.proofs.ClassingLaws.{classing_starts, classing_on, classing_stops, classing_long, classed_long, classing_ends}
use Rattle.finishing.proofs.classes.classify_residues.Goals as goal

pub returns-then-classify_residue-clause-classified : goal.returns-then-classify_residue-clause-classified
returns-then-classify_residue-clause-classified c =
    let r = c.args.residues.now in
    let l = c.loop-i in
    let k = c.classify_residue.ensures in
    let key = c.key_at-key.ensures ∙ ap (λ (s : List ℕ). get_or s l.i 0) l.invariant.keys in record {
      classified = classing_stops r.keys.now r.names.now r.codes.now r.categories.now (take c.args.counts.atoms c.args.atoms.now.keys.now) c.args.counts.residues
          l.invariant.classing c.loop-i-test.true key c.pass_lesser-at.ensures c.is_alone-lone.ensures
          k.value k.stored.names k.stored.codes k.stored.categories c.if-classify_residue.true;
      keys = k.stored.keys ∙ l.invariant.keys;
      positions = k.stored.positions ∙ l.invariant.positions;
      long = classing_long r.keys.now r.names.now r.codes.now r.categories.now (take c.args.counts.atoms c.args.atoms.now.keys.now) c.args.counts.residues
          l.invariant.classing c.loop-i-test.true key c.pass_lesser-at.ensures c.is_alone-lone.ensures
          k.value k.stored.names k.stored.codes k.stored.categories;
    }

pub loop-i-init : goal.loop-i-init
loop-i-init c = record { same = search rules; keys = refl; positions = refl; classing = classing_starts _ _ _ _ _ _ }

pub loop-i-preserved : goal.loop-i-preserved
loop-i-preserved c =
    let r = c.args.residues.now in
    let l = c.loop-i in
    let k = c.classify_residue.ensures in
    let key = c.key_at-key.ensures ∙ ap (λ (s : List ℕ). get_or s l.i 0) l.invariant.keys in record {
      same = search rules;
      keys = k.stored.keys ∙ l.invariant.keys;
      positions = k.stored.positions ∙ l.invariant.positions;
      classing = classing_on r.keys.now r.names.now r.codes.now r.categories.now (take c.args.counts.atoms c.args.atoms.now.keys.now) c.args.counts.residues
          l.invariant.classing c.loop-i-test.true key c.pass_lesser-at.ensures c.is_alone-lone.ensures
          k.value k.stored.names k.stored.codes k.stored.categories c.if-classify_residue.false;
    }

pub returns-clause-classified : goal.returns-clause-classified
returns-clause-classified c = record {
  classified = classing_ends _ _ _ _ _ _ c.loop-i.invariant.classing (omega (arith, c.loop-i-test.false));
  keys = c.loop-i.invariant.keys;
  positions = c.loop-i.invariant.positions;
  long = classed_long _ _ _ _ _ _ c.loop-i.invariant.classing;
}
