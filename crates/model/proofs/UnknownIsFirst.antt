-- A model is refused exactly where a residue is unknown, and by the place, from 1, of the first such residue.
use Prim.{tt}
use mathlib.Core.Path.{◌≡◌, refl, sym, ap, ◌∙◌}
use mathlib.Core.Bool.{Bool, true, false, cond, false≢true}
use mathlib.Core.Logic.{◌↔◌}
use mathlib.Core.List.{[], ◌∷◌, ◌++◌}
use mathlib.Core.Option.{Option, none, some, none-ne-some, some-injective}
use Prim.Native.Nat.{ℕ, suc}
use lib.ListN.{length}
use Rattle.model.specs.Classes.{is_unknown}
use Rattle.model.specs.Finished.{Finished, unknown, known, further, unknown_in, model_from, unless, finished_of}
use Rattle.model.specs.Fold.{Residue, State}
use Rattle.model.specs.Lists.{All}
use Rattle.model.specs.Map.{Entry, Map}
use Rattle.model.specs.Records.{Model}

abbrev pub AllKnown : Map Residue → Type 0
AllKnown m = All (λ e. is_unknown e.value ≡ false) m

-- the residue that has place - 1 known ones before it is unknown
pub record FirstUnknown (m : Map Residue) (place : ℕ) : Type 0 where
  pub before : Map Residue
  pub first : Entry Residue
  pub after : Map Residue
  pub residues : m ≡ before ++ first ∷ after
  pub counted : place ≡ suc (length before)
  pub others : AllKnown before
  pub itself : is_unknown first.value ≡ true

-- ---- the search
unknown_at_lem : (before : Map Residue) (e : Entry Residue) (after : Map Residue) → AllKnown before → is_unknown e.value ≡ true → unknown_in (before ++ e ∷ after) ≡ some (suc (length before))
unfolding unknown_in
unknown_at_lem [] e after a h = rw h
unknown_at_lem (x ∷ before) e after a h = rw a.0 (ap further (unknown_at_lem before e after a.1 h))

none_unknown : (m : Map Residue) → AllKnown m → unknown_in m ≡ none
unfolding unknown_in
none_unknown [] a = refl
none_unknown (e ∷ m) a = rw a.0 (ap further (none_unknown m a.1))

all_known : (m : Map Residue) → unknown_in m ≡ none → AllKnown m
unfolding unknown_in
all_known [] e = tt
all_known (x ∷ m) e = go (is_unknown x.value) refl (unknown_in m) refl e (all_known m)
  where
    go : (t : Bool) → is_unknown x.value ≡ t → (o : Option ℕ) → unknown_in m ≡ o → cond t (some 1) (further o) ≡ none → (unknown_in m ≡ none → AllKnown m) → AllKnown (x ∷ m)
    go true h o q e r = absurd (none-ne-some 1 (sym e))
    go false h none q e r = (h, r q)
    go false h (some k) q e r = absurd (none-ne-some (suc k) (sym e))

first_found : (m : Map Residue) (place : ℕ) → unknown_in m ≡ some place → FirstUnknown m place
unfolding unknown_in
first_found [] place e = absurd (none-ne-some place e)
first_found (x ∷ m) place e = go (is_unknown x.value) refl (unknown_in m) refl e (first_found m)
  where
    go : (t : Bool) → is_unknown x.value ≡ t → (o : Option ℕ) → unknown_in m ≡ o → cond t (some 1) (further o) ≡ some place
        → ((k : ℕ) → unknown_in m ≡ some k → FirstUnknown m k) → FirstUnknown (x ∷ m) place
    go true h o q e r = record { before = []; first = x; after = m; residues = refl; counted = sym (some-injective 1 place e); others = tt; itself = h }
    go false h none q e r = absurd (none-ne-some place e)
    go false h (some k) q e r =
        let f = r k q in
        record {
          before = x ∷ f.before;
          first = f.first;
          after = f.after;
          residues = ap (λ (n : Map Residue). x ∷ n) f.residues;
          counted = sym (some-injective (suc k) place e) ∙ ap suc f.counted;
          others = (h, f.others);
          itself = f.itself;
        }

-- ---- the two answers
abbrev is_known : Finished → Bool
is_known (unknown place) = false
is_known (known m) = true

placed : (o : Option ℕ) (m : Model) (place : ℕ) → unless o m ≡ unknown place → o ≡ some place
placed none m place e = absurd (false≢true (sym (ap is_known e)))
placed (some k) m place e = cc

unplaced : (o : Option ℕ) (m n : Model) → unless o m ≡ known n → (o ≡ none) × (m ≡ n)
unplaced none m n e = (refl, cc)
unplaced (some k) m n e = absurd (false≢true (ap is_known e))

-- ---- the theorems
pub unknown_is_first : (st : State) (place : ℕ) → (finished_of st ≡ unknown place) ↔ FirstUnknown st.residues place
unfolding finished_of
unknown_is_first st place = (
  λ e. first_found st.residues place (placed (unknown_in st.residues) (model_from st) place e),
  λ f. ap (λ (o : Option ℕ). unless o (model_from st)) (ap unknown_in f.residues ∙ unknown_at_lem f.before f.first f.after f.others f.itself ∙ ap {B = Option ℕ} some (sym f.counted)),
)

pub known_has_none : (st : State) (m : Model) → (finished_of st ≡ known m) ↔ (AllKnown st.residues × (model_from st ≡ m))
unfolding finished_of
known_has_none st m = (
  λ e. let u = unplaced (unknown_in st.residues) (model_from st) m e in (all_known st.residues u.0, u.1),
  λ a. ap (λ (o : Option ℕ). unless o (model_from st)) (none_unknown st.residues a.0) ∙ ap known a.1,
)
