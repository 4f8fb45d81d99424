-- The return trip: the text of a well-formed model, read with as many records, gives that model again. Its lines are read to their end, each atom's row as it was
-- written; the rows leave the model; and the model is finished already.
use Prim.{tt}
use mathlib.Core.Path.{◌≡◌, refl, sym, ap, ◌∙◌, subst}
use mathlib.Core.Bool.{true}
use mathlib.Core.List.{List, [], ◌∷◌, ◌++◌, map, append-nil, Memᴰ}
use Prim.Native.Nat.{ℕ, suc, ◌≤◌}
use native.Mathlib.Nat.{le_refl}
use lib.ListN.{length, length-map}
use Rattle.std.specs.Prelude.{None}
use Rattle.lines.specs.Domain.{in_domain}
use Rattle.lines.specs.Lines.{lines_of}
use Rattle.lines.proofs.NoneOutside.{none_outside}
use Rattle.line_states.specs.Heads.{start_heads}
use Rattle.line_states.specs.declared.heads.Heads.{Heads}
use Rattle.rows.specs.Settings.{assuming}
use Rattle.rows.specs.declared.settings.Settings.{Settings}
use Rattle.model.specs.Finished.{Finished, finished_of}
use Rattle.model.specs.Fold.{State, start, model_of}
use Rattle.model.specs.Lists.{All}
use Rattle.model.specs.Records.{ResidueRecord, AtomRecord, Model}
use Rattle.model.specs.Room.{Fits}
use Rattle.model.specs.Taken.{Taken}
use Rattle.model.specs.Termini.{is_polymer}
use Rattle.model.specs.WellFormed.{well_formed}
use Rattle.model.specs.declared.room.Room.{Room}
use Rattle.model.proofs.ListLaws.{all_of, all_append, filter_mem}
use Rattle.acts.specs.Acts.{rows_in}
use Rattle.acts.specs.Making.{going, made}
use Rattle.acts.proofs.MadeByRows.{goes_made}
use Rattle.readings.specs.Ends.{Admitted}
use Rattle.readings.specs.Reading.{largest, read, counts_of, finished, at_end}
use Rattle.readings.proofs.RefusalsAreExact.{admitted_text}
use Rattle.mmcif.specs.Acts.{acts_from, acts_of}
use Rattle.mmcif.proofs.RowsOfActs.{rows_of_acts}
use Rattle.reader.specs.Reading.{read_of}
use Rattle.reader.proofs.ReadIsWellFormed.{read_is_well_formed}
use Rattle.writer.specs.Text.{atom_row_of, polymer_row_of, opening, closing, polymer_headers, atom_headers, text_of}
use Rattle.writer.specs.Unwritable.{first_unwritable}
use Rattle.return_trip.specs.Returned.{returned, returned_counts, AsMany}
use Rattle.return_trip.proofs.FieldLaws.{IsText}
use Rattle.return_trip.proofs.NamesAgain.{NameSo}
use Rattle.return_trip.proofs.FinishAgain.{finish_again}
use Rattle.return_trip.proofs.FoldAgain.{taken_of, residue_entry, atom_entry, state_in, fold_again}
use Rattle.return_trip.proofs.FixedLines.{loop_heads}
use Rattle.return_trip.proofs.LinesAgain.{lines_are_text, lines_again, lines_inside}
use Rattle.return_trip.proofs.LinesGive.{Give, give_on, opening_gives, closing_gives, loop_headers_give, list_gives, atoms_give}
use Rattle.return_trip.proofs.ListRowsAgain.{list_row_is_text}
use Rattle.return_trip.proofs.RowsAgain.{RowSo, row_is_text}
use Rattle.return_trip.proofs.RowsWritable.{AtomWritable, atoms_writable, row_so, residue_name_lem}
use Rattle.return_trip.proofs.TextLines.{polymers, polymer_line, polymer_part, atom_lines, lines_in, text_lines}
use Rattle.return_trip.proofs.WellFormedModel.{Well, well}

module _ (m : Model) (formed : well_formed m ≡ true) (can : first_unwritable m 1 m.atoms ≡ None) where
  w : Well m
  w = well m formed

  writable : (a : AtomRecord) → Memᴰ a m.atoms → AtomWritable m a
  writable = atoms_writable m can

  rows_so : (id : ℕ) → All (λ a. RowSo (atom_row_of m id a)) m.atoms
  rows_so id = all_of (λ a. RowSo (atom_row_of m id a)) m.atoms (row_so m w writable id)

  names_so : All (λ r. NameSo r.name) (polymers m.residues)
  names_so = all_of (λ r. NameSo r.name) (polymers m.residues) (λ r d. residue_name_lem m w writable r (filter_mem (λ r. is_polymer r.code) m.residues r d).0)

  -- ---- its lines are lines of the domain
  list_is_text : (l : List ResidueRecord) → All (λ r. NameSo r.name) l → All IsText (map (polymer_line m) l)
  list_is_text [] a = tt
  list_is_text (r ∷ l) a = (list_row_is_text (polymer_row_of m r) a.0, list_is_text l a.1)

  part_is_text : (lines : List (List ℕ)) → All IsText lines → All IsText (polymer_part lines)
  part_is_text [] a = tt
  part_is_text (line ∷ lines) a =
      all_append IsText polymer_headers ((line ∷ lines) ++ closing) (lines_are_text polymer_headers refl) (all_append IsText (line ∷ lines) closing a (lines_are_text closing refl))

  rows_are_text : (id : ℕ) (l : List AtomRecord) → ((id : ℕ) → All (λ a. RowSo (atom_row_of m id a)) l) → All IsText (atom_lines m id l)
  rows_are_text id [] so = tt
  rows_are_text id (a ∷ l) so = (row_is_text (atom_row_of m id a) (so id).0, rows_are_text (suc id) l (λ i. (so i).1))

  all_text : All IsText (lines_in m)
  all_text =
      let listed = map (polymer_line m) (polymers m.residues) in
      let rows = atom_lines m 1 m.atoms in
      all_append IsText opening (polymer_part listed ++ (atom_headers ++ (rows ++ closing))) (lines_are_text opening refl)
      (all_append IsText (polymer_part listed) (atom_headers ++ (rows ++ closing)) (part_is_text listed (list_is_text (polymers m.residues) names_so))
      (all_append IsText atom_headers (rows ++ closing) (lines_are_text atom_headers refl) (all_append IsText rows closing (rows_are_text 1 m.atoms rows_so) (lines_are_text closing refl))))

  admitted : length (text_of m) ≤ largest → Admitted (text_of m)
  admitted short = record {
    short = short;
    inside = none_outside (text_of m) (subst (λ (t : List ℕ). in_domain t ≡ true) (sym (text_lines m)) (lines_inside (lines_in m) all_text));
  }

  lines_are : lines_of (text_of m) ≡ lines_in m
  lines_are = ap lines_of (text_lines m) ∙ lines_again (lines_in m) all_text

  module _ (settings : Settings) (room : Room) (many : AsMany room m) where
    -- ---- its lines are read to their end
    fits : Fits room (model_of (taken_of m m.atoms))
    fits = subst (Fits room) (sym (fold_again m w)) (record {
      chains = many.chains;
      residues = subst (λ (n : ℕ). n ≤ room.residues) (sym (length-map m.residues residue_entry)) many.residues;
      atoms = subst (λ (n : ℕ). n ≤ room.atoms) (sym (length-map m.atoms atom_entry)) many.atoms;
    })

    -- and what they give is a row to each atom
    all_given : (heads : Heads) × Give settings start_heads (lines_in m) heads (taken_of m m.atoms)
    all_given =
        let list = list_gives settings m (polymers m.residues) names_so in
        let atoms = atoms_give settings m loop_heads 1 m.atoms rows_so refl in
        let all = give_on settings (opening_gives settings) (give_on settings list.1 (give_on settings (loop_headers_give settings list.0) (give_on settings atoms.1 (closing_gives settings atoms.0)))) in
        (atoms.0, subst (Give settings start_heads (lines_in m) atoms.0) (append-nil (taken_of m m.atoms)) all)

    all_read : made room start (acts_from settings 1 start_heads (lines_in m)) ≡ going (model_of (taken_of m m.atoms))
    all_read =
        let given = all_given.1 in
        let acts = acts_from settings 1 start_heads (lines_in m) in
        let rows : rows_in acts ≡ taken_of m m.atoms = rows_of_acts settings 1 start_heads (lines_in m) (given.goes 1) ∙ given.taken in
        goes_made room start acts (given.goes 1) (subst (λ (l : List Taken). Fits room (model_of l)) (sym rows) fits) ∙ ap (λ (l : List Taken). going (model_of l)) rows

    counts_again : counts_of (state_in m) ≡ returned_counts m
    counts_again = λ i. record {
      chains = length m.chains;
      residues = length-map m.residues residue_entry i;
      atoms = length-map m.atoms atom_entry i;
      rows = length m.atoms;
      skipped = 0;
      outdone = 0;
      assumed = 0;
    }

    -- ---- the theorem
    pub return_trip : length (text_of m) ≤ largest → read_of settings room (text_of m) ≡ read (returned m) (returned_counts m)
    return_trip short =
        admitted_text room (text_of m) (acts_of settings (text_of m)) (admitted short)
        ∙ ap (λ (lines : List (List ℕ)). at_end (made room start (acts_from settings 1 start_heads lines))) lines_are
        ∙ ap at_end all_read
        ∙ ap (λ (st : State). finished (counts_of st) (finished_of st)) (fold_again m w)
        ∙ ap (λ (f : Finished). finished (counts_of (state_in m)) f) (finish_again m w)
        ∙ ap (read (returned m)) counts_again

  -- and what is read is well formed
  pub returned_is_well_formed : length (text_of m) ≤ largest → well_formed (returned m) ≡ true
  returned_is_well_formed short =
      let room : Room = record { chains = length m.chains; residues = length m.residues; atoms = length m.atoms } in
      let many : AsMany room m = record { chains = le_refl (length m.chains); residues = le_refl (length m.residues); atoms = le_refl (length m.atoms) } in
      read_is_well_formed assuming room (text_of m) (returned m) (returned_counts m) (return_trip assuming room many short)
