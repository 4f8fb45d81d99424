-- What is stored is what `class_of` says of the name that stood there, and the mark is read before the category goes over it.
use mathlib.Core.Path.{refl, ap, ◌∙◌}
use lib.ListN.{set}
use Rattle.model.specs.declared.classes.Class.{Class}
use Rattle.finishing.proofs.classes.classify_residue.Goals as goal

pub returns-clause-stored : goal.returns-clause-stored
returns-clause-stored c =
    let r = c.args.residues.now in
    let i = c.args.i in
    let e = c.class_in-class.ensures in record {
      names = c.store.ensures ∙ ap (λ (k : Class). set r.names.now i k.name) e;
      codes = c.store-2.ensures ∙ ap (λ (k : Class). set r.codes.now i k.code) e;
      categories = c.store-3.ensures ∙ ap (λ (k : Class). set r.categories.now i k.category) e;
      keys = refl;
      positions = refl;
    }
