-- Residue after residue the rows of the polymer list are told: a residue of a polymer has a row, which says its number.
use mathlib.Core.Path.{◌≡◌, sym, ap, ◌∙◌, subst}
use mathlib.Core.Bool.{true}
use mathlib.Core.List.{List, [], ◌++◌, map}
use Prim.Native.Nat.{ℕ, ◌+◌, ◌≤◌, ◌<◌}
use native.Mathlib.Omega.{arith}
use Rattle.names.specs.Places.{ascends}
use Rattle.model.specs.Keys.{chain_part}
use Rattle.model.specs.Lent.{list_from}
use Rattle.model.specs.Records.{ResidueRecord}
use Rattle.model.specs.TakenOut.{residue_out}
use Rattle.model.specs.declared.taken_out.Residue.{Residue}
use Rattle.writer.specs.Text.{number_in, polymer_rows}
use Rattle.writer.specs.PolymerNumbers.{number_after, polymer_by, polymers_of}
use Rattle.writer.proofs.NumberWalk.{Numbered, none_numbered, numbered, number_goes, alone, polymer_is}
use Rattle.writer.proofs.RowsJoined.{polymers_more, no_polymers}
use Rattle.writer.proofs.WalkBounds.{one_more_at_most}

module _ (at : ℕ → ResidueRecord) (n : ℕ) where
  abbrev Ascend : Type 0
  Ascend = ascends (map (λ r. r.key) (list_from at 0 n)) ≡ true

  -- those of the residues before index i are told
  pub record PolymersTold (Told : List ℕ → Type 0) (i number chain : ℕ) : Type 0 where
    pub among : i ≤ n
    pub counted : number ≤ i
    pub told : Ascend → Numbered at n i number chain × Told (polymer_rows (alone at n) (list_from at 0 i))

  pub polymers_begin : {Told : List ℕ → Type 0} → Told [] → PolymersTold Told 0 0 0
  polymers_begin {Told} t = record { among = omega arith; counted = omega arith; told = λ up. (none_numbered at n, subst Told (no_polymers (alone at n) at) t) }

  module _ {Told : List ℕ → Type 0} {i number chain next : ℕ} {residue : Residue} (h : i < n) (before : PolymersTold Told i number chain)
      (is : residue ≡ residue_out (at i)) (goes : next ≡ number_after number chain residue) where
    number_is : Ascend → next ≡ number_in (list_from at 0 n) (at i).key
    number_is up = goes ∙ ap (number_after number chain) is ∙ number_goes at n i number chain up (before.told up).0 h

    chain_is : residue.chain ≡ chain_part (at i).key
    unfolding residue_out
    chain_is = ap (λ (r : Residue). r.chain) is

    pub polymers_go : {Then : List ℕ → Type 0} → ((t : List ℕ) → Told t → Then (t ++ polymer_by residue next)) → PolymersTold Then (i + 1) next residue.chain
    polymers_go {Then} more = record {
      among = omega arith;
      counted = omega (arith, before.counted, goes, one_more_at_most number chain residue);
      told = λ up.
          let so_far = polymer_rows (alone at n) (list_from at 0 i) in (
            numbered at n i next residue.chain (number_is up) chain_is,
            subst Then (ap (λ (t : List ℕ). so_far ++ t) (polymer_is at n i residue next is (number_is up)) ∙ sym (polymers_more (alone at n) at i)) (more so_far (before.told up).1),
          );
    }

  pub polymers_end : {Told : List ℕ → Type 0} {i number chain : ℕ} → n ≤ i → PolymersTold Told i number chain → Ascend → Told (polymers_of (list_from at 0 n))
  polymers_end {Told} {i} h b up =
      let all : i ≡ n = omega (arith, b.among) in
      subst (λ (k : ℕ). Told (polymer_rows (alone at n) (list_from at 0 k))) all (b.told up).1
