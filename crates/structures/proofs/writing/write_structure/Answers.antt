-- What is written from the names taken out is what is written from the records: no more names are lent on than the array has, and of its 4,096 the first
-- `min size 4096` are the first `size`.
use Rattle.std.proofs.Common.{◌≡◌, ℕ, List, length, take, ◌∙◌, ap, subst, arith}
use lib.ListN.{length-replicate}
use Rattle.model.specs.Lent.{Lent, lent_of}
use Rattle.writer.specs.Writing.{Writing, write_of, Wrote}
use Rattle.structures.proofs.FrontLaws.{kept_part}
use Rattle.structures.proofs.WriteTaken.{write_taken}
use Rattle.structures.proofs.writing.write_structure.Goals as goal

pub returns : goal.returns
returns c =
    let a = c.args in
    let w = c.write_by_names in
    let empty : length c.no_names-names.result ≡ 4096 = ap length c.no_names-names.ensures ∙ length-replicate {A = ℕ} 4096 0 in
    let names : List ℕ = c.take_names.new.names in
    let full : length names ≡ 4096 = omega arith in
    let l : List ℕ → Lent = λ names. lent_of names a.residue_keys.now a.residue_names.now a.residue_codes.now a.residue_categories.now a.residue_positions.now
    a.atom_keys.now a.atom_names.now a.elements.now a.positions.now a.occupancies.now in
    let writing : List ℕ → Writing = λ names. write_of (l names) (record { chains = a.chain_count; residues = a.residue_count; atoms = a.atom_count }) (length a.out.now) in
    let wrote = kept_part (λ names. Wrote a.out.now (writing names) w.result w.new.out) (length a.chains.now) c.kept-size.result names c.kept-size.ensures full w.ensures in
    let same = ap (λ (names : List ℕ). writing (take (length a.chains.now) names)) c.take_names.ensures
    ∙ write_taken a.chains.now c.no_names-names.result (l a.residue_keys.now) (record { chains = a.chain_count; residues = a.residue_count; atoms = a.atom_count }) (length a.out.now) empty in
    subst (λ (x : Writing). Wrote a.out.now x w.result w.new.out) same wrote
