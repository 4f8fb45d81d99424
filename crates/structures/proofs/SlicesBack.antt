-- What the two structs of lent records hold at the end of a call stands in the slices that they were made of.
use Rattle.std.proofs.Common.{◌≡◌, ℕ, List, sym, subst}
use Rattle.std.specs.Prelude.{Float}
use Rattle.model.specs.Lent.{Lent, lent_of}
use Rattle.model.specs.LentNow.{lent_now}
use Rattle.model.specs.declared.lent.AtomsMut.{AtomsMut}
use Rattle.model.specs.declared.lent.ResiduesMut.{ResiduesMut}

pub slices_back :
    (P : Lent → Type 0) (names : List ℕ) (r : ResiduesMut) (a : AtomsMut) {keys res_names codes categories places atom_keys atom_names elements : List ℕ}
    {positions : List (List Float)} {occupancies : List Float}
    → keys ≡ r.keys.now → res_names ≡ r.names.now → codes ≡ r.codes.now → categories ≡ r.categories.now → places ≡ r.positions.now
    → atom_keys ≡ a.keys.now → atom_names ≡ a.names.now → elements ≡ a.elements.now → positions ≡ a.positions.now → occupancies ≡ a.occupancies.now
    → P (lent_now names r a) → P (lent_of names keys res_names codes categories places atom_keys atom_names elements positions occupancies)
slices_back P names r a e0 e1 e2 e3 e4 e5 e6 e7 e8 e9 =
    subst P (sym (λ i. lent_of names (e0 i) (e1 i) (e2 i) (e3 i) (e4 i) (e5 i) (e6 i) (e7 i) (e8 i) (e9 i)))
