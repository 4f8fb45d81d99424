-- A count that goes from residue to residue, and starts anew with each chain, is each residue's number.
use mathlib.Core.Path.{◌≡◌, refl, sym, ap, ◌∙◌}
use mathlib.Core.Bool.{Bool, true, false, cond}
use mathlib.Core.List.{[], map}
use Prim.Native.Nat.{ℕ, zero, suc, ◌+◌, ◌<◌}
use native.Mathlib.Nat.{zero-add}
use native.Mathlib.Numerals.{add-one}
use lib.Dec.{eqb}
use Rattle.names.specs.Places.{ascends}
use Rattle.model.specs.Keys.{chain_part}
use Rattle.model.specs.Lent.{list_from}
use Rattle.model.specs.Lists.{count}
use Rattle.model.specs.Records.{ResidueRecord, Model}
use Rattle.model.specs.TakenOut.{residue_out}
use Rattle.model.specs.Termini.{is_polymer}
use Rattle.model.specs.declared.taken_out.Residue.{Residue}
use Rattle.writer.specs.Text.{number_in}
use Rattle.writer.specs.PolymerNumbers.{number_after, polymer_by}
use Rattle.writer.proofs.ResiduesByIndex.{number_at_first, number_at_next}
use Rattle.writer.proofs.RowsJoined.{polymer_row}

module _ (at : ℕ → ResidueRecord) (m : ℕ) where
  -- the number and the chain of the residue before index i
  abbrev number_before : ℕ → ℕ
  number_before zero = 0
  number_before (suc j) = number_in (list_from at 0 m) (at j).key

  abbrev chain_before : ℕ → ℕ
  chain_before zero = 0
  chain_before (suc j) = chain_part (at j).key

  pub record Numbered (i number chain : ℕ) : Type 0 where
    pub counts : number ≡ number_before i
    pub place : chain ≡ chain_before i

  pub none_numbered : Numbered 0 0 0
  none_numbered = record { counts = refl; place = refl }

  module _ (i number chain : ℕ) where
    pub numbered : number ≡ number_in (list_from at 0 m) (at i).key → chain ≡ chain_part (at i).key → Numbered (i + 1) number chain
    numbered e f = record { counts = e ∙ ap number_before (sym (add-one i)); place = f ∙ ap chain_before (sym (add-one i)) }

    module _ (a : ascends (map (λ r. r.key) (list_from at 0 m)) ≡ true) (before : Numbered i number chain) where
      step : (j : ℕ) → j < m → number_after (number_before j) (chain_before j) (residue_out (at j)) ≡ number_in (list_from at 0 m) (at j).key
      unfolding number_after residue_out
      step zero h =
          ap (λ (n : ℕ). n + count (is_polymer (at 0).code)) (either (eqb (chain_part (at 0).key) 0))
          ∙ zero-add (count (is_polymer (at 0).code))
          ∙ sym (number_at_first at m a h)
        where
          either : (b : Bool) → ◌≡◌ {A = ℕ} (cond b 0 0) 0
          either true = refl
          either false = refl
      step (suc j) h = sym (number_at_next at m a j h)

      pub number_goes : i < m → number_after number chain (residue_out (at i)) ≡ number_in (list_from at 0 m) (at i).key
      number_goes h =
          ap (λ (n : ℕ). number_after n chain (residue_out (at i))) before.counts
          ∙ ap (λ (c : ℕ). number_after (number_before i) c (residue_out (at i))) before.place
          ∙ step i h

  -- the row of the residue at index i
  abbrev pub alone : Model
  alone = record { chains = []; residues = list_from at 0 m; atoms = [] }

  pub polymer_is : (i : ℕ) (r : Residue) (number : ℕ) → r ≡ residue_out (at i) → number ≡ number_in (list_from at 0 m) (at i).key → polymer_by r number ≡ polymer_row alone (at i)
  unfolding residue_out
  polymer_is i r number e f = ap (λ (s : Residue). polymer_by s number) e ∙ ap (polymer_by (residue_out (at i))) f
