-- That two texts differ in order only is said of both alike.
use mathlib.Core.Path.{sym, ◌∙◌}
use mathlib.Core.List.Permᴰ
use mathlib.Core.List.{List}
use Prim.Native.Nat.{ℕ}
use Rattle.rows.specs.declared.settings.Settings.{Settings}
use Rattle.row_order.specs.Loops.{stands_among_rows}
use Rattle.row_order.specs.Order.{Reordered, DifferInOrder}
use Rattle.readings.proofs.ReorderedLaws.{every_reordered}

texts_either_way : {t u : List ℕ} → Reordered t u → Reordered u t
texts_either_way r = record {
  before = r.before;
  loop = r.reordered;
  reordered = r.loop;
  after = r.after;
  one = r.other;
  other = r.one;
  opened = r.opened;
  among = sym (every_reordered stands_among_rows r.order) ∙ r.among;
  order = Permᴰ.symm r.order;
  size = r.other_size;
  other_size = r.size;
}

pub either_way : (settings : Settings) (t u : List ℕ) → DifferInOrder settings t u → DifferInOrder settings u t
unfolding texts_either_way
either_way settings t u d = record {
  texts = texts_either_way d.texts;
  atoms = λ s. sym (d.atoms s);
  chains = sym d.chains;
  residues = λ s. sym (d.residues s);
}
