-- The row of an atom, by the residue where the walk stands and its number, is the row of the model; and so, atom after atom, all rows are told.
use mathlib.Core.Path.{◌≡◌, sym, ap, ◌∙◌, subst}
use mathlib.Core.Bool.{true}
use mathlib.Core.List.{List, [], ◌++◌}
use Prim.Native.Nat.{ℕ, ◌+◌, ◌≤◌, ◌<◌}
use native.Mathlib.Omega.{arith}
use lib.ListN.{get_or, take}
use Rattle.model.specs.Keys.{chain_part, sequence_part, code_part}
use Rattle.model.specs.Lent.{Lent, residue_in, atom_in, list_from, model_in}
use Rattle.model.specs.Records.{Model}
use Rattle.model.specs.TakenOut.{residue_out, atom_out}
use Rattle.model.specs.Termini.{is_polymer}
use Rattle.model.specs.WellFormed.{is_near, well_formed_in}
use Rattle.model.specs.declared.room.Room.{Room}
use Rattle.model.specs.declared.taken_out.Atom.{Atom}
use Rattle.row_texts.specs.Rows.{atom_text}
use Rattle.row_texts.specs.declared.loop_rows.AtomRow.{AtomRow}
use Rattle.wellformed.specs.Slices.{entries}
use Rattle.writer.specs.Text.{entity_of, atom_row_of, atom_rows}
use Rattle.writer.specs.PolymerNumbers.{begun, walked_to, row_by, atoms_of}
use Rattle.writer.specs.declared.polymer_numbers.Walk.{Walk}
use Rattle.writer.proofs.ModelWalk.{walked_on, Walked, walk_begins, walk_goes, walk_residue, walk_number}
use Rattle.writer.proofs.RowsJoined.{atoms_more, no_atoms}
use Rattle.writer.proofs.WalkBounds.{Bounded, bounded_first, bounded_next}
use Rattle.writer.proofs.WellFormedParts.{near_at}

module _ (l : Lent) (counts : Room) (well : well_formed_in l counts ≡ true) (i : ℕ) (h : i < counts.atoms) (w : Walk) (before : Walked l counts.residues counts.atoms i w) where
  row_is : (id : ℕ) → row_by (take counts.chains l.chains) id (atom_out (atom_in l i)) (walked_on l i w) ≡ atom_row_of (model_in l counts) id (atom_in l i)
  unfolding atom_out residue_out model_in
  row_is id =
      let a = atom_in l i in
      let residue = walk_residue l counts well i h w before in
      let number = walk_number l counts well i h w before in
      λ k. record {
        polymer = is_polymer (residue k).code;
        id = id;
        element = a.element;
        atom = a.name;
        residue = (residue k).name;
        chain = get_or (take counts.chains l.chains) (chain_part a.key) 0;
        entity = entity_of a.key;
        number = number k;
        insertion_code = code_part a.key;
        position = a.position;
        sequence = sequence_part a.key;
      }

-- ---- all rows

-- those of the atoms before index i are told
pub record RowsTold (l : Lent) (counts : Room) (Told : List ℕ → Type 0) (i : ℕ) (w : Walk) : Type 0 where
  pub among : i ≤ counts.atoms
  pub bounded : Bounded i w
  pub told : well_formed_in l counts ≡ true → Walked l counts.residues counts.atoms i w × Told (atom_rows (model_in l counts) 1 (list_from (atom_in l) 0 i))

module _ (l : Lent) (counts : Room) where
  abbrev model : Model
  model = model_in l counts

  pub rows_begin : {Told : List ℕ → Type 0} {w : Walk} → w ≡ begun (residue_in l) → Told [] → RowsTold l counts Told 0 w
  rows_begin {Told} {w} e t = record {
    among = omega arith;
    bounded = subst (Bounded 0) (sym e) (bounded_first (residue_in l));
    told = λ well. (subst (Walked l counts.residues counts.atoms 0) (sym e) (walk_begins l counts well), subst Told (no_atoms model (atom_in l)) t);
  }

  module _ {Told : List ℕ → Type 0} {i : ℕ} {w next : Walk} {atom : Atom} {row : AtomRow} (h : i < counts.atoms) (before : RowsTold l counts Told i w)
      (is : atom ≡ atom_out (atom_in l i)) (goes : next ≡ walked_to (residue_in l) w atom.key) (by : row ≡ row_by (take counts.chains l.chains) (i + 1) atom next) where
    on : next ≡ walked_on l i w
    unfolding atom_out
    on = goes ∙ ap (λ (a : Atom). walked_to (residue_in l) w a.key) is

    row_of_lem : well_formed_in l counts ≡ true → row ≡ atom_row_of model (i + 1) (atom_in l i)
    row_of_lem well =
        by
        ∙ ap (λ (a : Atom). row_by (take counts.chains l.chains) (i + 1) a next) is
        ∙ ap (row_by (take counts.chains l.chains) (i + 1) (atom_out (atom_in l i))) on
        ∙ row_is l counts well i h w (before.told well).0 (i + 1)

    pub rows_go : {Then : List ℕ → Type 0} → ((t : List ℕ) → is_near row.position ≡ true → Told t → Then (t ++ atom_text row)) → RowsTold l counts Then (i + 1) next
    rows_go {Then} more = record {
      among = omega arith;
      bounded = subst (Bounded (i + 1)) (sym on) (bounded_next (residue_in l) i w (entries l.atom_keys i) before.bounded);
      told = λ well.
          let so_far = atom_rows model 1 (list_from (atom_in l) 0 i) in
          let near = ap (λ (r : AtomRow). is_near r.position) (row_of_lem well) ∙ near_at l counts well i h in (
            subst (Walked l counts.residues counts.atoms (i + 1)) (sym on) (walk_goes l counts well i h w (before.told well).0),
            subst Then (ap (λ (r : AtomRow). so_far ++ atom_text r) (row_of_lem well) ∙ sym (atoms_more model (atom_in l) i)) (more so_far near (before.told well).1),
          );
    }

  pub rows_end : {Told : List ℕ → Type 0} {i : ℕ} {w : Walk} → counts.atoms ≤ i → RowsTold l counts Told i w → well_formed_in l counts ≡ true → Told (atoms_of model)
  unfolding model_in
  rows_end {Told} {i} h b well =
      let all : i ≡ counts.atoms = omega (arith, b.among) in
      subst (λ (k : ℕ). Told (atom_rows model 1 (list_from (atom_in l) 0 k))) all (b.told well).1
