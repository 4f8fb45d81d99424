-- All three are stored, or none.
use mathlib.Core.Path.{refl, sym, ap, ◌∙◌}
use mathlib.Core.Bool.{Bool, cond}
use lib.ListN.{set}
use Rattle.building.proofs.atoms.replace_atom.Goals as goal

pub returns-then-not-is_less_at : goal.returns-then-not-is_less_at
returns-then-not-is_less_at c =
    let r = c.args.atoms.now in
    let at = c.args.at in
    let n = c.args.atom in
    let e = sym (sym c.is_less_at.ensures ∙ c.if-not-is_less_at.true) in
    record {
      same = (refl, refl, refl, refl, refl);
      replaces = record {
        keys = refl;
        names = refl;
        elements = ap (λ (t : Bool). cond t (set r.elements.now at n.element) r.elements.now) e;
        positions = ap (λ (t : Bool). cond t (set r.positions.now at n.position) r.positions.now) e;
        occupancies = ap (λ (t : Bool). cond t (set r.occupancies.now at n.occupancy) r.occupancies.now) e;
      };
    }

pub returns : goal.returns
returns c =
    let r = c.args.atoms.now in
    let at = c.args.at in
    let n = c.args.atom in
    let e = sym (sym c.is_less_at.ensures ∙ c.if-not-is_less_at.false) in
    record {
      same = (refl, refl, refl, refl, refl);
      replaces = record {
        keys = refl;
        names = refl;
        elements = c.store.ensures ∙ ap (λ (t : Bool). cond t (set r.elements.now at n.element) r.elements.now) e;
        positions = c.store-2.ensures ∙ ap (λ (t : Bool). cond t (set r.positions.now at n.position) r.positions.now) e;
        occupancies = c.store-3.ensures ∙ ap (λ (t : Bool). cond t (set r.occupancies.now at n.occupancy) r.occupancies.now) e;
      };
    }
