-- Document 01's whole case: the model that it is read into is well formed and writable, its text is the output that the document prints, and so that text is read
-- again.
use mathlib.Core.Path.{◌≡◌, refl, sym, ap, ◌∙◌, subst}
use mathlib.Core.Bool.{true}
use mathlib.Core.List.{List, [], ◌∷◌, map}
use Prim.Native.Nat.{ℕ, ◌+◌, ◌^◌, ◌≤◌}
use Prim.Native.String.{String}
use native.Mathlib.Omega.{arith}
use lib.Ieee.{Float, binary64}
use lib.Ieee as ieee
use lib.ListN.{length}
use borrow.Author.Tests.{leb-true}
use Rattle.std.specs.Prelude.{None}
use Rattle.ascii.specs.Bytes.{bytes}
use Rattle.numbers.specs.Printing.{last_digits, count_up_to, digit_count, sign, fixed_text}
use Rattle.numbers.specs.Printing as printing
use Rattle.numbers.specs.Rounding.{printable, units_of, is_negative}
use Rattle.tokens.specs.Line.{spaced}
use Rattle.tokens.specs.Quote.{has, all_plain, quote_of}
use Rattle.names.specs.Categories.{category_code}
use Rattle.names.specs.Elements.{symbols, symbol_of}
use Rattle.names.specs.Packing.{packed_in, packed, unpacked_in}
use Rattle.names.specs.Places.{ascends}
use Rattle.names.specs.Polymers.{kind_of, polymer_of}
use Rattle.names.specs.Positions.{position_code}
use Rattle.names.specs.Residues.{standard_residues, residues, residue_code, residue_of}
use Rattle.names.specs.Table.{canonical, aliases, resolve_in, resolve_of}
use Rattle.names.specs.declared.residues.ResidueCategory.TheVariants.{Standard, Ion}
use Rattle.names.specs.declared.residues.ResiduePosition.TheVariants.{None, NTerminal}
use Rattle.names.specs.declared.residues.StandardResidue.TheVariants.{MET}
use Rattle.rows.specs.declared.rules.Point3.{Point3}
use Rattle.rows.specs.Settings.{assuming}
use Rattle.model.specs.Classes.{is_lone, class_of}
use Rattle.model.specs.Keys.{residue_key}
use Rattle.model.specs.Lent.{list_from}
use Rattle.model.specs.Records.{Model}
use Rattle.model.specs.Termini.{is_polymer, is_first, is_last, ruled_position}
use Rattle.model.specs.WellFormed.{runs_after, differ, is_name, is_code, chains_well, class_well, residue_well, atom_well, in_runs, in_order, well_formed}
use Rattle.model.specs.declared.room.Room.{Room}
use Rattle.readings.specs.Reading.{largest, read}
use Rattle.reader.specs.Reading.{read_of}
use Rattle.row_texts.specs.Fields.{sequence_text, code_text, group_text, number_text}
use Rattle.row_texts.specs.Rows.{atom_text, polymer_text}
use Rattle.writer.specs.Text.{lines_text, number_in, residue_for, atom_rows, polymer_rows, text_of}
use Rattle.writer.specs.Unwritable.{holds_both_quotes, is_unwritable_code, is_unwritable, first_unwritable}
use Rattle.return_trip.specs.Returned.{returned, returned_counts, AsMany}
use Rattle.return_trip.proofs.ReturnTrip.{return_trip}

abbrev name : String → ℕ
name s = packed (bytes s)

abbrev double : ℕ → Float
double bits = ieee.of_bits binary64 bits

-- 1.5 -0.0004 2, and 0.25 0 -3
abbrev carbon : Point3
carbon = record { x = double 0x3ff8_0000_0000_0000; y = double 0xbf3a_36e2_eb1c_432d; z = double 0x4000_0000_0000_0000 }

abbrev oxygen : Point3
oxygen = record { x = double 0x3fd0_0000_0000_0000; y = double 0; z = double 0xc008_0000_0000_0000 }

pub whole_case : Model
whole_case = record {
  chains = name "A" ∷ [];
  residues =
      record { key = residue_key 0 (2 ^ 31 + 7) 0; name = name "MET"; code = residue_code MET; category = category_code Standard; position = position_code NTerminal }
      ∷ record { key = residue_key 0 (2 ^ 31 + 9) 0; name = name "QQQ"; code = 0; category = category_code Ion; position = position_code None }
      ∷ [];
  atoms =
      record { key = residue_key 0 (2 ^ 31 + 7) 0; name = name "CA"; element = 6; position = carbon; occupancy = double 0x3fe3_3333_3333_3333 }
      ∷ record { key = residue_key 0 (2 ^ 31 + 9) 0; name = name "O'"; element = 8; position = oxygen; occupancy = double 0x3ff0_0000_0000_0000 }
      ∷ [];
}

pub whole_case_is_well_formed : well_formed whole_case ≡ true
unfolding
    whole_case well_formed chains_well differ is_name is_code in_runs runs_after list_from in_order ascends residue_well class_well atom_well packed_in unpacked_in
    class_of is_lone resolve_of resolve_in canonical aliases ruled_position is_first is_last is_polymer polymer_of kind_of residue_of residue_code residues standard_residues
    printable ieee.of_bits
whole_case_is_well_formed = refl

pub whole_case_is_writable : first_unwritable whole_case 1 whole_case.atoms ≡ None
unfolding whole_case first_unwritable is_unwritable is_unwritable_code holds_both_quotes has packed_in unpacked_in residue_for residue_code
whole_case_is_writable = refl

-- "Output (fields as headers name them)"
pub output : List String
output =
    "data_bio_forge_export"
    ∷ "#"
    ∷ "loop_"
    ∷ "_entity_poly_seq.entity_id"
    ∷ "_entity_poly_seq.num"
    ∷ "_entity_poly_seq.mon_id"
    ∷ "_entity_poly_seq.hetero"
    ∷ "1 1 MET n"
    ∷ "#"
    ∷ "loop_"
    ∷ "_atom_site.group_PDB"
    ∷ "_atom_site.id"
    ∷ "_atom_site.type_symbol"
    ∷ "_atom_site.label_atom_id"
    ∷ "_atom_site.label_alt_id"
    ∷ "_atom_site.label_comp_id"
    ∷ "_atom_site.label_asym_id"
    ∷ "_atom_site.label_entity_id"
    ∷ "_atom_site.label_seq_id"
    ∷ "_atom_site.pdbx_PDB_ins_code"
    ∷ "_atom_site.Cartn_x"
    ∷ "_atom_site.Cartn_y"
    ∷ "_atom_site.Cartn_z"
    ∷ "_atom_site.occupancy"
    ∷ "_atom_site.B_iso_or_equiv"
    ∷ "_atom_site.auth_seq_id"
    ∷ "_atom_site.auth_comp_id"
    ∷ "_atom_site.auth_asym_id"
    ∷ "_atom_site.auth_atom_id"
    ∷ "ATOM 1 C CA . MET A 1 1 ? 1.500 -0.000 2.000 1.00 0.00 7 MET A CA"
    ∷ "HETATM 2 O \"O'\" . QQQ A 1 . ? 0.250 0.000 -3.000 1.00 0.00 9 QQQ A \"O'\""
    ∷ "#"
    ∷ []

pub whole_case_text : text_of whole_case ≡ lines_text (map bytes output)
unfolding
    whole_case output text_of lines_text atom_rows polymer_rows atom_text polymer_text spaced number_in residue_for
    sequence_text code_text group_text number_text symbols symbol_of packed_in unpacked_in quote_of has all_plain last_digits count_up_to digit_count sign fixed_text printing.text_of
    is_polymer polymer_of kind_of residue_of residue_code residues standard_residues units_of is_negative ieee.of_bits
whole_case_text = refl

-- ---- the trip
room : Room
room = record { chains = 1; residues = 2; atoms = 2 }

enough : AsMany room whole_case
unfolding room whole_case
enough = record { chains = omega arith; residues = omega arith; atoms = omega arith }

pub whole_case_returns : read_of assuming (record { chains = 1; residues = 2; atoms = 2 }) (lines_text (map bytes output)) ≡ read (returned whole_case) (returned_counts whole_case)
unfolding room output lines_text
whole_case_returns =
    ap (read_of assuming room) (sym whole_case_text)
    ∙ return_trip whole_case whole_case_is_well_formed whole_case_is_writable assuming room enough
    (subst (λ (t : List ℕ). length t ≤ largest) (sym whole_case_text) (leb-true (length (lines_text (map bytes output))) largest refl))
