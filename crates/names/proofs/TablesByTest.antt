-- A rule that one computed test shows for a whole table holds at each place of the table.
use mathlib.Core.Path.{◌≡◌, refl, sym, ap, ◌∙◌, subst}
use mathlib.Core.List.{List, [], ◌∷◌, map}
use Prim.Native.Nat.{ℕ, zero, suc, ◌+◌, ◌-◌, ◌≤◌, ◌<◌}
use native.Mathlib.Nat.{add-zero, zero-add, add-suc, suc-add, le_of_suc-le-suc, not-suc-le-zero}
use native.Mathlib.Omega.{arith}
use native.Mathlib.Decide.{dec_lt}
use denote.Ref.{Bor}
use Rattle.std.specs.Prelude.{Option, Some, None, slice_get, option_copied}
use Rattle.std.specs.Slice.{IsItemAt}
use Rattle.std.proofs.lemmas.Option.{slice_get_past, slice_get_read}
use lib.ListN.{length, get_or, length-map, get_or-map, get_or-eq_default}

-- the n places from i on
abbrev pub places : ℕ → ℕ → List ℕ
places i zero = []
places i (suc n) = i ∷ places (suc i) n

get_d_places : {B : Type 0} (g : ℕ → B) (e : B) (i n k : ℕ) → k < n → get_or (map g (places i n)) k e ≡ g (i + k)
get_d_places g e i zero k h = absurd (not-suc-le-zero h)
get_d_places g e i (suc n) zero h = ap g (sym (add-zero i))
get_d_places g e i (suc n) (suc k) h = get_d_places g e (suc i) n k (le_of_suc-le-suc h) ∙ ap g (suc-add i k ∙ sym (add-suc i k))

-- the test: f of the entries, one after the other, is g of their places
pub tabled : {A B : Type 0} (f : A → B) (g : ℕ → B) (l : List A) (d : A) → map f l ≡ map g (places 0 (length l)) → (k : ℕ) → k < length l → f (get_or l k d) ≡ g k
tabled {B = B} f g l d test k h =
    sym (get_or-map f l k d) ∙ ap (λ (m : List B). get_or m k (f d)) test ∙ get_d_places g (f d) 0 (length l) k h ∙ ap g (zero-add k)

-- within a table no default is read
any_default : {A : Type 0} (l : List A) (k : ℕ) (d e : A) → k < length l → get_or l k d ≡ get_or l k e
any_default [] k d e h = absurd (not-suc-le-zero h)
any_default (x ∷ l) zero d e h = refl
any_default (x ∷ l) (suc k) d e h = any_default l k d e (le_of_suc-le-suc h)

-- an entry of a table, read and then made the answer, is the answer's own table read
pub answered : {A B : Type 0} (f : A → B) (l : List A) (d : A) (e : B) (k : ℕ) → k < length l → f (get_or l k d) ≡ get_or (map f l) k e
answered f l d e k h = sym (get_or-map f l k d) ∙ any_default (map f l) k (f d) e (subst (λ (n : ℕ). k < n) (sym (length-map l f)) h)

-- what stands at a place, if anything does: what `get` lends of a table
looked_up_lem : {A : Type 0} (l : List A) (k : ℕ) → slice_get l k ≡ get_or (map Some l) k None
looked_up_lem [] k = refl
looked_up_lem (x ∷ l) zero = refl
looked_up_lem (x ∷ l) (suc k) = looked_up_lem l k

copied_at : {A : Type 0} (l : List A) (k : ℕ) (r : Option (Bor A)) → IsItemAt l k r → option_copied r ≡ slice_get l k
copied_at l k None h = sym (slice_get_past l k h.3)
copied_at l k (Some x) h = sym (slice_get_read l (length l) k x.now refl h.3.0 (h.3.1 x.now))

pub looked_up : {A : Type 0} (l : List A) (k : ℕ) (r : Option (Bor A)) → IsItemAt l k r → option_copied r ≡ get_or (map Some l) k None
looked_up l k r h = copied_at l k r h ∙ looked_up_lem l k

-- the same where the places count from 1, and nothing stands at 0
pub looked_up_from_one : {A : Type 0} (l : List A) (n k : ℕ) (r : Option (Bor A)) → (1 ≤ n) × (k ≡ n - 1) → IsItemAt l k r → option_copied r ≡ get_or (None ∷ map Some l) n None
looked_up_from_one l zero k r e h = absurd (omega arith)
looked_up_from_one l (suc n) k r e h = let same : n ≡ k = omega arith in looked_up l k r h ∙ ap (λ (m : ℕ). get_or (map Some l) m None) (sym same)

-- where the entries are numbered by their places, what stands at place k and is not the default has the number k
pub numbered : {A : Type 0} (number : A → ℕ) (l : List A) (d a : A) → map number l ≡ map (λ (k : ℕ). k) (places 0 (length l)) → (a ≡ d → ⊥) → (k : ℕ) → get_or l k d ≡ a → number a ≡ k
numbered number l d a test n k e = go (dec_lt k (length l))
  where
    past : (k < length l → ⊥) → length l ≤ k
    past h = omega arith

    go : Dec (k < length l) → number a ≡ k
    go (yes h) = sym (ap number e) ∙ tabled number (λ (k : ℕ). k) l d test k h
    go (no h) = absurd (n (sym e ∙ get_or-eq_default l d (past h)))
