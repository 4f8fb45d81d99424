-- An atom that the walk has come to is unwritable by its own name, that of the residue in which the walk stands and that of its chain.
use mathlib.Core.Path.{◌≡◌, sym, ap, ◌∙◌}
use mathlib.Core.Bool.{Bool, true, false, ◌||◌, cond}
use Prim.Native.Nat.{ℕ, suc, ◌+◌, ◌≤◌, ◌<◌}
use native.Mathlib.Numerals.{add-one}
use Rattle.std.specs.Prelude.{Option, None, Some}
use lib.ListN.{get_or, take}
use Rattle.model.specs.Keys.{chain_part, code_part}
use Rattle.model.specs.Lent.{Lent, atom_in, model_in}
use Rattle.model.specs.Records.{Model}
use Rattle.model.specs.TakenOut.{residue_out, atom_out}
use Rattle.model.specs.WellFormed.{well_formed_in}
use Rattle.model.specs.declared.taken_out.Residue.{Residue}
use Rattle.model.specs.declared.room.Room.{Room}
use Rattle.wellformed.proofs.FromLaws.{rest, rest_all, rest_turn, rest_end}
use Rattle.writer.specs.Unwritable.{holds_both_quotes, is_unwritable_code, is_unwritable, first_unwritable, unwritable_in}
use Rattle.writer.specs.PolymerNumbers.{unwritable_by}
use Rattle.writer.specs.declared.polymer_numbers.Walk.{Walk}
use Rattle.writer.proofs.ModelWalk.{walked_on, Walked, walk_residue}

module _ (l : Lent) (counts : Room) where
  abbrev model : Model
  model = model_in l counts

  -- the first unwritable one of those from index i on
  abbrev pub left_from : ℕ → Option ℕ
  left_from i = first_unwritable model (suc i) (rest (atom_in l) counts.atoms i)

  -- what the walk sees of the atom at index i
  abbrev pub seen_at : ℕ → Walk → Bool
  seen_at i w = unwritable_by (take counts.chains l.chains) (atom_out (atom_in l i)) (walked_on l i w)

  pub left_all : unwritable_in model ≡ left_from 0
  unfolding model_in
  left_all = ap (first_unwritable model 1) (rest_all (atom_in l) counts.atoms)

  pub left_none : (i : ℕ) → counts.atoms ≤ i → left_from i ≡ None
  unfolding first_unwritable
  left_none i h = ap (first_unwritable model (suc i)) (rest_end (atom_in l) counts.atoms i h)

  module _ (well : well_formed_in l counts ≡ true) (i : ℕ) (h : i < counts.atoms) (w : Walk) (before : Walked l counts.residues counts.atoms i w) where
    as_seen : seen_at i w ≡ is_unwritable model (atom_in l i)
    unfolding is_unwritable model_in atom_out residue_out
    as_seen =
        ap (λ (r : Residue). holds_both_quotes (atom_in l i).name || holds_both_quotes r.name || holds_both_quotes (get_or (take counts.chains l.chains) (chain_part (atom_in l i).key) 0) || is_unwritable_code (code_part (atom_in l i).key))
        (walk_residue l counts well i h w before)

    turn : left_from i ≡ cond (seen_at i w) (Some (suc i)) (left_from (i + 1))
    unfolding first_unwritable
    turn =
        ap (first_unwritable model (suc i)) (rest_turn (atom_in l) counts.atoms i h)
        ∙ ap (λ (b : Bool). cond b (Some (suc i)) (first_unwritable model (suc (suc i)) (rest (atom_in l) counts.atoms (i + 1)))) (sym as_seen)
        ∙ ap (λ (n : ℕ). cond (seen_at i w) (Some (suc i)) (first_unwritable model (suc n) (rest (atom_in l) counts.atoms (i + 1)))) (sym (add-one i))

    module _ (answer : Bool) (is : answer ≡ seen_at i w) where
      pub left_found : answer ≡ true → left_from i ≡ Some (i + 1)
      left_found e = turn ∙ ap (λ (b : Bool). cond b (Some (suc i)) (left_from (i + 1))) (sym is ∙ e) ∙ ap Some (sym (add-one i))

      pub left_on : answer ≡ false → left_from i ≡ left_from (i + 1)
      left_on e = turn ∙ ap (λ (b : Bool). cond b (Some (suc i)) (left_from (i + 1))) (sym is ∙ e)
