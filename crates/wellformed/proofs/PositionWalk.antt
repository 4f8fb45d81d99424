-- The keys of residues ascend, so that the chain that was met last tells whether a residue is the first of its chain, and the next of a kind whether it is
-- the last. So one walk tells of each residue its position, as the definition has it.
use mathlib.Core.Path.{◌≡◌, refl, sym, ap, ◌∙◌, subst}
use mathlib.Core.Bool.{Bool, true, not, ◌&&◌}
use mathlib.Core.List.{List, [], ◌∷◌, ◌++◌, map, map-map}
use Prim.Native.Nat.{ℕ, suc}
use lib.Dec.{eqb}
use lib.Seq.{append_snoc}
use Rattle.names.specs.Places.{ascends}
use Rattle.names.specs.Polymers.{polymer_of}
use Rattle.names.specs.Positions.{position_code}
use Rattle.model.specs.Keys.{chain_part}
use Rattle.model.specs.Records.{ResidueRecord}
use Rattle.model.specs.Termini.{position_by, is_first, is_last, ruled_position}
use Rattle.model.specs.Neighbours.{met_with, met_in, ends_chain, position_between}
use Rattle.ascii.specs.Lists.{every}
use Rattle.model.proofs.TerminiLaws.{first_is, last_is}
use Rattle.wellformed.specs.Walks.{Standing, stands_from}

abbrev pub standing : ResidueRecord → Standing
standing r = record { key = r.key; code = r.code; position = r.position }

met_next : (met : ℕ) (before : List ResidueRecord) (r : ResidueRecord) → met_in met (before ++ r ∷ []) ≡ met_with (met_in met before) r.key r.code
unfolding met_in
met_next met [] r = refl
met_next met (t ∷ before) r = met_next (met_with met t.key t.code) before r

module _ (residues : List ResidueRecord) (a : ascends (map (λ r. r.key) residues) ≡ true) where
  ruled : (before : List ResidueRecord) (r : ResidueRecord) (after : List ResidueRecord) → residues ≡ before ++ r ∷ after
      → position_between (met_in 0 before) r.key r.code (map (λ t. (t.key, t.code)) (map standing after)) ≡ ruled_position residues r
  unfolding ruled_position position_between
  ruled before r after e =
      let b : ascends (map (λ t. t.key) (before ++ r ∷ after)) ≡ true = subst (λ (l : List ResidueRecord). ascends (map (λ t. t.key) l) ≡ true) e a in
      let f : not (eqb (met_in 0 before) (suc (chain_part r.key))) ≡ is_first residues r = sym (ap (λ (l : List ResidueRecord). is_first l r) e ∙ first_is before r after b) in
      let g : ends_chain (chain_part r.key) (map (λ t. (t.key, t.code)) (map standing after)) ≡ is_last residues r =
      ap (ends_chain (chain_part r.key)) (map-map (λ t. (t.key, t.code)) standing after) ∙ sym (ap (λ (l : List ResidueRecord). is_last l r) e ∙ last_is before r after b) in
      ap (λ (t : Bool). position_code (position_by (polymer_of r.code) t (ends_chain (chain_part r.key) (map (λ t. (t.key, t.code)) (map standing after))))) f
      ∙ ap (λ (t : Bool). position_code (position_by (polymer_of r.code) (is_first residues r) t)) g

  abbrev well : ResidueRecord → Bool
  well r = eqb r.position (ruled_position residues r)

  walk : (before after : List ResidueRecord) → residues ≡ before ++ after → stands_from (met_in 0 before) (map standing after) ≡ every well after
  unfolding stands_from
  walk before [] e = refl
  walk before (r ∷ after) e =
      let met : ℕ = met_with (met_in 0 before) r.key r.code in
      ap (λ (p : ℕ). eqb r.position p && stands_from met (map standing after)) (ruled before r after e)
      ∙ ap (λ (n : ℕ). well r && stands_from n (map standing after)) (sym (met_next 0 before r))
      ∙ ap (λ (t : Bool). well r && t) (walk (before ++ r ∷ []) after (e ∙ sym (append_snoc before r after)))

  pub positions_walked : stands_from 0 (map standing residues) ≡ every well residues
  unfolding met_in
  positions_walked = walk [] residues refl
