-- What is left of an atom's rows is the earliest of greatest occupancy: a row that is strictly greater than the kept one is greater than all before it,
-- and any other leaves the kept one what it is.
use Prim.{tt}
use mathlib.Core.Path.{◌≡◌, refl, ap, ◌∙◌, subst}
use mathlib.Core.Bool.{Bool, true, false, cond}
use mathlib.Core.List.{List, [], ◌∷◌, ◌++◌, append-nil, append_assoc}
use mathlib.Core.Option.{none, some}
use lib.Ieee.{lt}
use lib.Seq.{append_snoc}
use Rattle.rows.specs.declared.rules.Site.{Site}
use Rattle.model.specs.Fold.{Atom, atom_of, greater}
use Rattle.model.specs.Lists.{All}
use Rattle.model.specs.Proper.{Finite}
use Rattle.model.specs.Rules.{Earliest}
use Rattle.model.proofs.BuiltMaps.{left}
use Rattle.model.proofs.FiniteOrder.{not_back, not_self, below_too}
use Rattle.model.proofs.ListLaws.{all_map, all_both, all_append}

abbrev pub Occupied : Site → Type 0
Occupied s = Finite s.occupancy

-- the row r by the row s
abbrev Less : Site → Site → Type 0
Less s r = lt r.occupancy s.occupancy ≡ true

abbrev NotGreater : Site → Site → Type 0
NotGreater s r = lt s.occupancy r.occupancy ≡ false

-- one more row
one_more : (t s : Site) (l : List Site) → Earliest l t → All Occupied l → Occupied t → Occupied s → (b : Bool) → lt t.occupancy s.occupancy ≡ b
    → Earliest (l ++ (s ∷ [])) (cond b s t)
one_more t s l k f g h true e =
    let less : All (Less s) l
    = all_map (λ r. Occupied r × NotGreater t r) (Less s) (λ r u. below_too t.occupancy s.occupancy r.occupancy g h u.0 e u.1) l (all_both Occupied (NotGreater t) l f k.greatest) in
    let none : All (NotGreater s) l
    = all_map (λ r. Occupied r × Less s r) (NotGreater s) (λ r u. not_back r.occupancy s.occupancy u.0 h u.1) l (all_both Occupied (Less s) l f less) in
    record { before = l; after = []; among = refl; greatest = all_append (NotGreater s) l (s ∷ []) none (not_self s.occupancy h, tt); first = less }
one_more t s l k f g h false e = record {
  before = k.before;
  after = k.after ++ (s ∷ []);
  among = ap (λ (m : List Site). m ++ (s ∷ [])) k.among ∙ append_assoc k.before (t ∷ k.after) (s ∷ []);
  greatest = all_append (NotGreater t) l (s ∷ []) k.greatest (e, tt);
  first = k.first;
}

chosen : (b : Bool) (s t : Site) → Occupied s → Occupied t → Occupied (cond b s t) × (cond b (atom_of s) (atom_of t) ≡ atom_of (cond b s t))
chosen true s t h g = (h, refl)
chosen false s t h g = (g, refl)

-- the rows of l after those of p
kept_after : (t : Site) (p l : List Site) → Earliest p t → Occupied t → All Occupied p → All Occupied l
    → (r : Site) × Earliest (p ++ l) r × (left greater (some (atom_of t)) l ≡ some (atom_of r))
kept_after t p [] w h f g = (t, rw append-nil w, refl)
kept_after t p (s ∷ l) w h f g =
    let b = lt t.occupancy s.occupancy in
    let c = chosen b s t g.0 h in
    let r = kept_after (cond b s t) (p ++ (s ∷ [])) l (one_more t s p w f h g.0 b refl) c.0 (all_append Occupied p (s ∷ []) f (g.0, tt)) g.1 in
    (r.0, subst (λ (m : List Site). Earliest m r.0) (append_snoc p s l) r.1, ap (λ (a : Atom). left greater (some a) l) c.1 ∙ r.2)

-- ---- the theorem
pub earliest_is_kept : (s : Site) (l : List Site) → All Occupied (s ∷ l) → (r : Site) × Earliest (s ∷ l) r × (left greater none (s ∷ l) ≡ some (atom_of r))
earliest_is_kept s l f = kept_after s (s ∷ []) l
    (record { before = []; after = []; among = refl; greatest = (not_self s.occupancy f.0, tt); first = tt }) f.0 (f.0, tt) f.1
