-- Every row of a well-formed model of which no atom is unwritable is one that a text can hold.
use mathlib.Core.Path.{◌≡◌, refl, sym, ap, ◌∙◌, subst}
use mathlib.Core.Bool.{Bool, true, false, ◌||◌, cond}
use mathlib.Core.Logic.{◌⊎◌, inl, inr}
use mathlib.Core.List.Memᴰ
use mathlib.Core.List.{List, [], ◌∷◌, Memᴰ}
use Prim.Native.Nat.{ℕ, suc, ◌^◌, ◌<◌}
use native.Mathlib.Omega.{arith}
use lib.Dec.{eqb}
use lib.ListN.{length, get_or}
use borrow.Author.Tests.{not-true}
use Rattle.std.specs.Prelude.{Some, None}
use Rattle.ascii.specs.Bytes.{bytes}
use Rattle.ascii.proofs.TestLaws.{neither_of}
use Rattle.names.specs.Packing.{packed}
use Rattle.model.specs.Keys.{chain_part, sequence_part, code_part}
use Rattle.model.specs.Records.{ResidueRecord, AtomRecord, Model}
use Rattle.model.specs.WellFormed.{is_code}
use Rattle.writer.specs.Text.{residue_for, atom_row_of}
use Rattle.writer.specs.Unwritable.{holds_both_quotes, is_unwritable_code, is_unwritable, first_unwritable}
use Rattle.return_trip.proofs.NamesAgain.{NameSo}
use Rattle.return_trip.proofs.RowsAgain.{RowSo}
use Rattle.return_trip.proofs.WellFormedModel.{Well, residue_itself, one_of, residue_of_lem, atom_of_lem, chain_within}

-- ---- no atom is unwritable
none_unwritable : (m : Model) (id : ℕ) (l : List AtomRecord) → first_unwritable m (suc id) l ≡ None → (a : AtomRecord) → Memᴰ a l → is_unwritable m a ≡ false
unfolding first_unwritable
none_unwritable m id [] e a d = absurd (Memᴰ.not-nil d)
none_unwritable m id (b ∷ l) e a d = go (is_unwritable m b) refl e (Memᴰ.cases_cons d) (λ f. none_unwritable m (suc id) l f a)
  where
    go : (t : Bool) → is_unwritable m b ≡ t → cond t (Some (suc id)) (first_unwritable m (suc (suc id)) l) ≡ None → (a ≡ b) ⊎ Memᴰ a l
        → (first_unwritable m (suc (suc id)) l ≡ None → Memᴰ a l → is_unwritable m a ≡ false) → is_unwritable m a ≡ false
    go true t e c r = let z : ◌≡◌ {A = ℕ} 0 1 = cc in absurd (omega arith)
    go false t e (inl q) r = ap (is_unwritable m) q ∙ t
    go false t e (inr k) r = r e k

pub record AtomWritable (m : Model) (a : AtomRecord) : Type 0 where
  pub atom : holds_both_quotes a.name ≡ false
  pub residue : holds_both_quotes (residue_for m.residues a.key).name ≡ false
  pub chain : holds_both_quotes (get_or m.chains (chain_part a.key) 0) ≡ false
  pub code : is_unwritable_code (code_part a.key) ≡ false

pub atoms_writable : (m : Model) → first_unwritable m 1 m.atoms ≡ None → (a : AtomRecord) → Memᴰ a m.atoms → AtomWritable m a
unfolding is_unwritable
atoms_writable m e a d =
    let atom = holds_both_quotes a.name in
    let residue = holds_both_quotes (residue_for m.residues a.key).name in
    let chain = holds_both_quotes (get_or m.chains (chain_part a.key) 0) in
    let code = is_unwritable_code (code_part a.key) in
    let three = neither_of (atom || residue || chain) code (none_unwritable m 0 m.atoms e a d) in
    let two = neither_of (atom || residue) chain three.0 in
    let one = neither_of atom residue two.0 in
    record { atom = one.0; residue = one.1; chain = two.1; code = three.1 }

-- ---- the theorems
module _ (m : Model) (w : Well m) (writable : (a : AtomRecord) → Memᴰ a m.atoms → AtomWritable m a) where
  pub row_so : (id : ℕ) (a : AtomRecord) → Memᴰ a m.atoms → RowSo (atom_row_of m id a)
  row_so id a d =
      let r = residue_for m.residues a.key in
      let there = residue_of_lem m w a d in
      let so = w.residues r there.0 in
      let within : chain_part a.key < length m.chains = subst (λ (k : ℕ). chain_part k < length m.chains) there.1 (chain_within m w r there.0) in
      let chain = w.chains (get_or m.chains (chain_part a.key) 0) (one_of m.chains (chain_part a.key) within) in
      let can = writable a d in
      record {
        element = (w.atoms a d).element;
        atom = record { named = (w.atoms a d).name; one_quote = can.atom };
        residue = record { named = so.name; one_quote = can.residue };
        chain = record { named = chain.0; one_quote = can.chain };
        no_point = not-true (eqb (get_or m.chains (chain_part a.key) 0) (packed (bytes "."))) chain.1;
        code = record { coded = subst (λ (k : ℕ). is_code (code_part k) ≡ true) there.1 so.code; writable = can.code };
        sequence = below a.key;
        x = (w.atoms a d).x;
        y = (w.atoms a d).y;
        z = (w.atoms a d).z;
      }
    where
      below : (key : ℕ) → sequence_part key < 2 ^ 32
      below key = omega arith

  -- each residue has an atom, in whose row its name stands
  pub residue_name_lem : (r : ResidueRecord) → Memᴰ r m.residues → NameSo r.name
  residue_name_lem r d =
      let a = atom_of_lem m w r d in
      record {
        named = (w.residues r d).name;
        one_quote =
            ap (λ (t : ResidueRecord). holds_both_quotes t.name) (sym (ap (residue_for m.residues) a.2 ∙ residue_itself m.residues w.residues_ascend r d))
            ∙ (writable a.0 a.1).residue;
      }
