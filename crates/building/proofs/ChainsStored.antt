-- A chain's name stored at its place: the chains that were met stay as they were, and it is found there again.
use Prim.{Dec, yes, no}
use mathlib.Core.Path.{◌≡◌, sym, ap, ◌∙◌, subst}
use mathlib.Core.List.{List}
use Prim.Native.Nat.{ℕ, ◌≤◌, ◌<◌}
use native.Mathlib.Decide.{dec_lt}
use native.Mathlib.Omega.{arith}
use lib.ListN.{length, take, get_or, set, length-take, length-set}
use lib.Seq.{get_or-set_same, get_or-take, set-get_or, set_out, take_all, take-set-le}
use Rattle.model.specs.Fold.{State}
use Rattle.model.specs.declared.room.Room.{Room}
use Rattle.building.specs.declared.held.Held.{Held}
use Rattle.building.specs.Gaps.{HoldsApart}
use Rattle.building.specs.Holds.{Records, records_of}
use Rattle.building.specs.Slices.{ChainFound}
use Rattle.building.proofs.ChainLaws.{stands}

module _ (l : List ℕ) (n c p : ℕ) (f : ChainFound (take n l) c p) where
  pub met_stay : take n (set l p c) ≡ take n l
  met_stay = go (dec_lt p n) (dec_lt p (length l))
    where
      go : Dec (p < n) → Dec (p < length l) → take n (set l p c) ≡ take n l
      go (no h) k = take-set-le n l p c (omega arith)
      go (yes h) (no k) = ap (take n) (set_out l p c (omega arith))
      go (yes h) (yes k) =
          let at : get_or l p 0 ≡ c = sym (get_or-take n l p 0 h) ∙ f.there (omega (arith, length-take n l)) in
          ap (take n) (ap (set l p) (sym at) ∙ set-get_or l p 0)

  -- among as many, or more with it
  pub found_again : (m : ℕ) → n ≤ m → ChainFound (take m (set l p c)) c p
  found_again m low = go (dec_lt p m) (dec_lt p (length l))
    where
      go : Dec (p < m) → Dec (p < length l) → ChainFound (take m (set l p c)) c p
      go (yes h) (yes k) =
          stands c (take m (set l p c)) p (omega (arith, length-take m (set l p c), length-set l p c)) (get_or-take m (set l p c) p 0 h ∙ get_or-set_same l p c 0 k)
      go (yes h) (no k) =
          let all : length l ≤ n = omega (arith, f.inside, length-take n l) in
          subst (λ (x : List ℕ). ChainFound x c p) (take_all n l all ∙ sym (ap (take m) (set_out l p c (omega arith)) ∙ take_all m l (omega arith))) f
      go (no h) k =
          let same : m ≡ n = omega (arith, f.inside, length-take n l) in
          subst (λ (x : List ℕ). ChainFound x c p) (sym (ap (λ (x : ℕ). take x (set l p c)) same ∙ met_stay)) f

-- the records with the name stored
abbrev pub stored_in : Records → ℕ → ℕ → Records
stored_in r place name =
    records_of (set r.chains place name) r.residue_keys r.residue_names r.residue_marks r.atom_keys r.atom_names r.elements r.positions r.occupancies

-- they still hold the model
pub stored_held : (r : Records) (room : Room) (h : Held) (st : State) (name place : ℕ) → ChainFound (take h.counts.chains r.chains) name place → HoldsApart r room h st
    → HoldsApart (stored_in r place name) room h st
stored_held r room h st name place found a =
    let w = a.within in
    record {
      within = record { sizes = w.sizes; chains = omega (arith, length-set r.chains place name, w.chains); residues = w.residues; atoms = w.atoms };
      chains = record { many = a.chains.many; distinct = a.chains.distinct; names_held = met_stay r.chains h.counts.chains name place found ∙ a.chains.names_held };
      residues = a.residues;
      atoms = a.atoms;
      fits = a.fits;
      counted = a.counted;
    }
