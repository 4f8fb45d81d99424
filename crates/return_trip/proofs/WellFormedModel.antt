-- What it says of a model that it is well formed, part by part; and whose residue and chain an atom's key names.
use mathlib.Core.Path.{◌≡◌, refl, sym, ap, ◌∙◌, subst}
use mathlib.Core.Bool.{Bool, true, false, not, ◌&&◌, cond}
use mathlib.Core.Logic.{◌⊎◌, inl, inr}
use mathlib.Core.List.Memᴰ
use mathlib.Core.List.{List, [], ◌∷◌, map, Memᴰ}
use Prim.Native.Nat.{ℕ, zero, suc, ◌≤◌, ◌<◌}
use native.Mathlib.Omega.{arith}
use lib.Dec.{eqb, leb}
use lib.ListN.{length, get_or}
use borrow.Author.Tests.{eqb-true, eqb-false, eq-eqb, ne_eqb, leb-true}
use Rattle.ascii.specs.Bytes.{bytes}
use Rattle.ascii.specs.Lists.{every}
use Rattle.numbers.specs.Rounding.{printable}
use Rattle.names.specs.Packing.{packed}
use Rattle.names.specs.Places.{ascends}
use Rattle.model.specs.declared.classes.Class.{Class}
use Rattle.model.specs.Classes.{class_of, is_lone}
use Rattle.model.specs.Keys.{atom_place, chain_part, code_part}
use Rattle.model.specs.Lent.{list_from}
use Rattle.model.specs.Records.{ResidueRecord, AtomRecord, Model}
use Rattle.model.specs.Termini.{ruled_position}
use Rattle.model.specs.WellFormed.{same_list, runs_of, differ, is_name, is_code, is_near, chains_well, class_well, residue_well, atom_well, in_runs, in_order, well_formed}
use Rattle.model.proofs.AscendingLaws.{ascends_all}
use Rattle.model.proofs.BuiltIsWellFormed.{in_place}
use Rattle.model.proofs.EveryLaws.{every_at}
use Rattle.model.proofs.ListLaws.{left_of, right_of, all_at}
use Rattle.model.proofs.RunsLaws.{list_same}
use Rattle.writer.specs.Text.{residue_for}
use Rattle.return_trip.proofs.RunsAgain.{in_runs_lem, from_runs}

-- ---- the parts
abbrev pub class_in : ResidueRecord → Class
class_in r = record { name = r.name; code = r.code; category = r.category }

pub record ResidueSo (m : Model) (r : ResidueRecord) : Type 0 where
  pub name : is_name r.name ≡ true
  pub code : is_code (code_part r.key) ≡ true
  pub class : class_of r.name (is_lone m.atoms r.key) ≡ class_in r
  pub position : ruled_position m.residues r ≡ r.position

pub record AtomSo (a : AtomRecord) : Type 0 where
  pub name : is_name a.name ≡ true
  pub element : a.element ≤ 118
  pub x : printable a.position.x ≡ true
  pub y : printable a.position.y ≡ true
  pub z : printable a.position.z ≡ true

pub record Well (m : Model) : Type 0 where
  pub differing : differ m.chains ≡ true
  pub chains : (c : ℕ) → Memᴰ c m.chains → (is_name c ≡ true) × (not (eqb c (packed (bytes "."))) ≡ true)
  pub residue_runs : runs_of (map (λ r. chain_part r.key) m.residues) ≡ list_from (λ i. i) 0 (length m.chains)
  pub atom_runs : runs_of (map (λ a. a.key) m.atoms) ≡ map (λ r. r.key) m.residues
  pub residues_ascend : ascends (map (λ r. r.key) m.residues) ≡ true
  pub atoms_ascend : ascends (map (λ a. atom_place a.key a.name) m.atoms) ≡ true
  pub residues : (r : ResidueRecord) → Memᴰ r m.residues → ResidueSo m r
  pub atoms : (a : AtomRecord) → Memᴰ a m.atoms → AtomSo a

residue_so : (m : Model) (r : ResidueRecord) → residue_well m r ≡ true → ResidueSo m r
unfolding residue_well class_well
residue_so m r e =
    let c = class_of r.name (is_lone m.atoms r.key) in
    let named = is_name r.name in
    let coded = is_code (code_part r.key) in
    let classed = eqb r.name c.name && eqb r.code c.code && eqb r.category c.category in
    let placed = eqb r.position (ruled_position m.residues r) in
    let first : (named && coded && classed) ≡ true = left_of (named && coded && classed) placed e in
    let second : (named && coded) ≡ true = left_of (named && coded) classed first in
    let k : classed ≡ true = right_of (named && coded) classed first in
    let j : (eqb r.name c.name && eqb r.code c.code) ≡ true = left_of (eqb r.name c.name && eqb r.code c.code) (eqb r.category c.category) k in
    let n : r.name ≡ c.name = eqb-true _ _ (left_of (eqb r.name c.name) (eqb r.code c.code) j) in
    let o : r.code ≡ c.code = eqb-true _ _ (right_of (eqb r.name c.name) (eqb r.code c.code) j) in
    let y : r.category ≡ c.category = eqb-true _ _ (right_of (eqb r.name c.name && eqb r.code c.code) (eqb r.category c.category) k) in
    record {
      name = left_of named coded second;
      code = right_of named coded second;
      class = λ i. record { name = sym n i; code = sym o i; category = sym y i };
      position = sym (eqb-true _ _ (right_of (named && coded && classed) placed e));
    }

atom_so : (a : AtomRecord) → atom_well a ≡ true → AtomSo a
unfolding atom_well
atom_so a e =
    let named = is_name a.name in
    let low = leb a.element 118 in
    let x = printable a.position.x in
    let y = printable a.position.y in
    let z = printable a.position.z in
    let first : (named && low) ≡ true = left_of (named && low) (is_near a.position) e in
    let near : (x && y && z) ≡ true = right_of (named && low) (is_near a.position) e in
    let two : (x && y) ≡ true = left_of (x && y) z near in
    record {
      name = left_of named low first;
      element = leb-true a.element 118 (right_of named low first);
      x = left_of x y two;
      y = right_of x y two;
      z = right_of (x && y) z near;
    }

pub well : (m : Model) → well_formed m ≡ true → Well m
unfolding well_formed chains_well in_runs in_order
well m e =
    let chained = chains_well m.chains in
    let run = in_runs m in
    let ordered = in_order m in
    let housed = every (residue_well m) m.residues in
    let peopled = every atom_well m.atoms in
    let four : (chained && run && ordered && housed) ≡ true = left_of (chained && run && ordered && housed) peopled e in
    let three : (chained && run && ordered) ≡ true = left_of (chained && run && ordered) housed four in
    let two : (chained && run) ≡ true = left_of (chained && run) ordered three in
    let c : chained ≡ true = left_of chained run two in
    let r : run ≡ true = right_of chained run two in
    let o : ordered ≡ true = right_of (chained && run) ordered three in
    let named : ℕ → Bool = λ c. is_name c && not (eqb c (packed (bytes "."))) in
    let in_chains = same_list (runs_of (map (λ r. chain_part r.key) m.residues)) (list_from (λ i. i) 0 (length m.chains)) in
    let in_residues = same_list (runs_of (map (λ a. a.key) m.atoms)) (map (λ r. r.key) m.residues) in
    let keys_ascend = ascends (map (λ r. r.key) m.residues) in
    let places_ascend = ascends (map (λ a. atom_place a.key a.name) m.atoms) in
    record {
      differing = left_of (differ m.chains) (every named m.chains) c;
      chains = λ n d.
          let t = every_at named m.chains (right_of (differ m.chains) (every named m.chains) c) n d in
          (left_of (is_name n) (not (eqb n (packed (bytes ".")))) t, right_of (is_name n) (not (eqb n (packed (bytes ".")))) t);
      residue_runs = list_same _ _ (left_of in_chains in_residues r);
      atom_runs = list_same _ _ (right_of in_chains in_residues r);
      residues_ascend = left_of keys_ascend places_ascend o;
      atoms_ascend = right_of keys_ascend places_ascend o;
      residues = λ t d. residue_so m t (every_at (residue_well m) m.residues (right_of (chained && run && ordered) housed four) t d);
      atoms = λ a d. atom_so a (every_at atom_well m.atoms (right_of (chained && run && ordered && housed) peopled e) a d);
    }

-- ---- the residue of a key
residue_found : (residues : List ResidueRecord) (k : ℕ) → Memᴰ k (map (λ r. r.key) residues) → Memᴰ (residue_for residues k) residues × ((residue_for residues k).key ≡ k)
unfolding residue_for
residue_found [] k d = absurd (Memᴰ.not-nil d)
residue_found (r ∷ l) k d = go (eqb r.key k) refl (Memᴰ.cases_cons d) (residue_found l k)
  where
    go : (t : Bool) → eqb r.key k ≡ t → (k ≡ r.key) ⊎ Memᴰ k (map (λ r. r.key) l)
        → (Memᴰ k (map (λ r. r.key) l) → Memᴰ (residue_for l k) l × ((residue_for l k).key ≡ k))
        → Memᴰ (cond t r (residue_for l k)) (r ∷ l) × ((cond t r (residue_for l k)).key ≡ k)
    go true e c s = (Memᴰ.head refl, eqb-true r.key k e)
    go false e (inl q) s = absurd (eqb-false r.key k e (sym q))
    go false e (inr q) s = let w = s q in (Memᴰ.tail w.0, w.1)

pub residue_itself : (residues : List ResidueRecord) → ascends (map (λ r. r.key) residues) ≡ true → (r : ResidueRecord) → Memᴰ r residues → residue_for residues r.key ≡ r
unfolding residue_for
residue_itself [] a r d = absurd (Memᴰ.not-nil d)
residue_itself (t ∷ l) a r d = go (Memᴰ.cases_cons d) (residue_itself l (ascends_all (λ r. r.key) t l a).1 r)
  where
    go : (r ≡ t) ⊎ Memᴰ r l → (Memᴰ r l → residue_for l r.key ≡ r) → cond (eqb t.key r.key) t (residue_for l r.key) ≡ r
    go (inl q) s = ap (λ (b : Bool). cond b t (residue_for l r.key)) (eq-eqb t.key r.key (ap (λ (x : ResidueRecord). x.key) (sym q))) ∙ sym q
    go (inr k) s =
        let less : t.key < r.key = all_at (λ u. t.key < u.key) l r (ascends_all (λ r. r.key) t l a).0 k in
        ap (λ (b : Bool). cond b t (residue_for l r.key)) (ne_eqb t.key r.key (λ e. omega arith)) ∙ s k

-- ---- the chain of a key
pub one_of : (l : List ℕ) (i : ℕ) → i < length l → Memᴰ (get_or l i 0) l
one_of [] i h = absurd (omega arith)
one_of (x ∷ l) zero h = Memᴰ.head refl
one_of (x ∷ l) (suc i) h = Memᴰ.tail (one_of l i (omega arith))

module _ (m : Model) (w : Well m) where
  pub residue_of_lem : (a : AtomRecord) → Memᴰ a m.atoms → Memᴰ (residue_for m.residues a.key) m.residues × ((residue_for m.residues a.key).key ≡ a.key)
  residue_of_lem a d = residue_found m.residues a.key (subst (Memᴰ a.key) w.atom_runs (in_runs_lem (map (λ a. a.key) m.atoms) a.key (Memᴰ.map (λ a. a.key) d)))

  pub atom_of_lem : (r : ResidueRecord) → Memᴰ r m.residues → (a : AtomRecord) × Memᴰ a m.atoms × (a.key ≡ r.key)
  atom_of_lem r d = Memᴰ.of_map (λ a. a.key) m.atoms (from_runs (map (λ a. a.key) m.atoms) r.key (subst (Memᴰ r.key) (sym w.atom_runs) (Memᴰ.map (λ r. r.key) d)))

  pub chain_within : (r : ResidueRecord) → Memᴰ r m.residues → chain_part r.key < length m.chains
  chain_within r d =
      let k = chain_part r.key in
      omega (arith, in_place 0 (length m.chains) k (subst (Memᴰ k) w.residue_runs (in_runs_lem (map (λ r. chain_part r.key) m.residues) k (Memᴰ.map (λ r. chain_part r.key) d))))
