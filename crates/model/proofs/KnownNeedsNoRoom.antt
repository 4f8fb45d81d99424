-- A row of an atom that is there already needs no room: its chain is met, and its residue and its atom are found.
use mathlib.Core.Path.{◌≡◌, sym, ap, ◌∙◌, subst}
use mathlib.Core.Bool.{Bool, true, false, not, cond}
use mathlib.Core.List.{List, [], ◌∷◌, ◌++◌, Memᴰ}
use Prim.Native.Nat.{ℕ}
use lib.Dec.{leb}
use lib.ListN.{length}
use Rattle.std.specs.Prelude.{None}
use Rattle.rows.specs.declared.rules.Site.{Site}
use Rattle.model.specs.Chains.{chain_place, with_chain}
use Rattle.model.specs.Fold.{start, model_of}
use Rattle.model.specs.Keys.{residue_at, atom_at}
use Rattle.model.specs.Lists.{All}
use Rattle.model.specs.Map.{find, is_none}
use Rattle.model.specs.Proper.{Proper}
use Rattle.model.specs.declared.room.Room.{Room}
use Rattle.model.specs.Room.{lacking}
use Rattle.model.specs.Rules.{same_atom}
use Rattle.model.specs.Taken.{Taken, site, sites}
use Rattle.model.proofs.ChainsFirstMet.{Met, with_chain_lem, place_past, all_met}
use Rattle.model.proofs.FoldKeepsRules.{fold_keeps_rules}
use Rattle.model.proofs.FoldParts.{chains_after}
use Rattle.model.proofs.KeysTellApart.{one_atom, key_by_residue, place_by_atom}
use Rattle.model.proofs.ListLaws.{all_at}

-- ---- the theorem
pub known_needs_no_room : (room : Room) (l : List Taken) → All Proper (sites l) → (s t : Site) → Memᴰ t (sites l) → same_atom s t ≡ true → lacking room (model_of l) (site s) ≡ None
unfolding lacking
known_needs_no_room room l p s t d e =
    let c = (model_of l).chains in
    let rules = fold_keeps_rules l p in
    let one = one_atom s t e in
    let met : Met c t.chain = subst (λ (m : List ℕ). Met m t.chain) (sym (chains_after start l)) (all_at _ (sites l) t (all_met [] (sites l)) d) in
    let met-s : Met c s.chain = subst (Met c) one.residue.chain met in
    let stays : with_chain s.chain c ≡ c = with_chain_lem s.chain c ∙ ap (λ (b : Bool). cond b c (c ++ (s.chain ∷ []))) met-s in
    let before : leb (length c) (chain_place s.chain c) ≡ false = place_past s.chain c ∙ ap not met-s in
    let residue : is_none (find (residue_at c s) (model_of l).residues) ≡ false
    = ap (λ (k : ℕ). is_none (find k (model_of l).residues)) (sym (key_by_residue c s t one.residue)) ∙ ap is_none (rules.residues.every t d).1 in
    let atom : is_none (find (atom_at c s) (model_of l).atoms) ≡ false
    = ap (λ (k : ℕ). is_none (find k (model_of l).atoms)) (sym (place_by_atom c s t one)) ∙ ap is_none (rules.atoms.every t d).1 in
    rw (stays, before, residue, atom)
