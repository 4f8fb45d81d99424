-- Demand 3 over lines, of which each gives a row: where the lines of each atom are the same lines in the same order, so are the rows of each atom.
use mathlib.Core.Path.{◌≡◌, refl, sym, ap, ◌∙◌}
use mathlib.Core.Bool.{Bool, true, false, cond}
use mathlib.Core.List.{List, [], ◌∷◌, map}
use Rattle.rows.specs.declared.rules.Site.{Site}
use Rattle.model.specs.Alike.{Alike, is_of, AlikeLines}
use Rattle.model.specs.Fold.{State}
use Rattle.model.specs.Lists.{filter, All}
use Rattle.model.specs.Proper.{Proper}
use Rattle.model.specs.declared.room.Room.{Room}
use Rattle.model.specs.Room.{whole, read_within}
use Rattle.model.specs.Rules.{same_atom}
use Rattle.model.specs.Taken.{Taken, skipped, site, sites}
use Rattle.model.proofs.OrderOfRows.{order_of_rows}

module _ {Line : Type 0} (row_of : Line → Taken) where
  rows_of_lines : (s : Site) (t : List Line) → filter (same_atom s) (sites (map row_of t)) ≡ sites (map row_of (filter (λ x. is_of s (row_of x)) t))
  unfolding sites
  rows_of_lines s [] = refl
  rows_of_lines s (x ∷ t) = go (row_of x) refl (rows_of_lines s t)
    where
      go : (r : Taken) → row_of x ≡ r → filter (same_atom s) (sites (map row_of t)) ≡ sites (map row_of (filter (λ x. is_of s (row_of x)) t))
          → filter (same_atom s) (sites (r ∷ map row_of t)) ≡ sites (map row_of (cond (is_of s r) (x ∷ filter (λ x. is_of s (row_of x)) t) (filter (λ x. is_of s (row_of x)) t)))
      go skipped e h = h
      go (site u) e h = at (same_atom s u)
        where
          at : (b : Bool) → cond b (u ∷ filter (same_atom s) (sites (map row_of t))) (filter (same_atom s) (sites (map row_of t)))
              ≡ sites (map row_of (cond b (x ∷ filter (λ x. is_of s (row_of x)) t) (filter (λ x. is_of s (row_of x)) t)))
          at true = ap (λ (n : List Site). u ∷ n) h ∙ ap (λ (r : Taken). sites (r ∷ map row_of (filter (λ x. is_of s (row_of x)) t))) (sym e)
          at false = h

  pub rows_alike : (t u : List Line) → AlikeLines row_of t u → Alike (map row_of t) (map row_of u)
  rows_alike t u a = record {
    atoms = λ s. rows_of_lines s t ∙ ap (λ (n : List Line). sites (map row_of n)) (a.atoms s) ∙ sym (rows_of_lines s u);
    chains = a.chains;
    residues = a.residues;
    skipped = a.skipped;
  }

  -- ---- the theorem
  pub order_of_lines : (t u : List Line) → AlikeLines row_of t u → All Proper (sites (map row_of t))
      → (room : Room) (st : State) → read_within room (map row_of t) ≡ whole st → read_within room (map row_of u) ≡ whole st
  order_of_lines t u a = order_of_rows (map row_of t) (map row_of u) (rows_alike t u a)
