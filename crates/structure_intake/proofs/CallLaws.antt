-- A call whose result has 28 bytes tells what is served; any other is refused, and changes nothing.
use mathlib.Core.Path.{◌≡◌, sym, ap, ◌∙◌, subst}
use mathlib.Core.Bool.{Bool, true, false, cond}
use mathlib.Core.List.{List}
use Prim.Native.Nat.{ℕ}
use Rattle.std.specs.Prelude.{Result}
use Rattle.refusals.specs.declared.reasons.Refusal.{Refusal}
use Rattle.rows.specs.Settings.{assuming}
use Rattle.rows.specs.declared.settings.Settings.{Settings}
use Rattle.model.specs.Lent.{Lent}
use Rattle.results.specs.Results.{status_in, numbers_in, bytes_of, is_whole}
use Rattle.results.specs.declared.answers.Served.{Served}
use Rattle.structure_intake.specs.Calls.{bad_result, status_by, records_by, buffer_by, result_by, Calls, CallsOwn}
use Rattle.service.specs.Serving.{Serves, ServesOwn}

module _ {A : Type 0} (b : Bool) (x y : A) where
  if_so : b ≡ true → x ≡ cond b x y
  if_so e = sym (ap (λ (t : Bool). cond t x y) e)

  if_not : b ≡ false → y ≡ cond b x y
  if_not e = sym (ap (λ (t : Bool). cond t x y) e)

module _ (text out result : List ℕ) where
  abbrev whole : Bool
  whole = is_whole result

  -- ---- in the caller's records
  pub called : (settings : Settings) → settings ≡ assuming → (l after : Lent) (bytes numbers : List ℕ) (answer : Result Served Refusal) (status : ℕ) → is_whole result ≡ true
      → Serves settings l text out answer after bytes → numbers ≡ bytes_of (numbers_in answer) → status ≡ status_in answer → Calls l text out result status after bytes numbers
  unfolding status_by records_by buffer_by result_by
  called settings named l after bytes numbers answer status e served n t =
      let s = subst (λ (x : Settings). Serves x l text out answer after bytes) named served in
      record {
        answered = t ∙ ap status_in s.answered ∙ if_so whole _ _ e;
        left = s.left ∙ if_so whole _ _ e;
        written = s.written ∙ if_so whole _ _ e;
        told = n ∙ ap (λ (a : Result Served Refusal). bytes_of (numbers_in a)) s.answered ∙ if_so whole _ _ e;
      }

  pub not_called : (l : Lent) → is_whole result ≡ false → Calls l text out result bad_result l out result
  unfolding status_by records_by buffer_by result_by
  not_called l e = record { answered = if_not whole _ _ e; left = if_not whole _ _ e; written = if_not whole _ _ e; told = if_not whole _ _ e }

  -- ---- in records of its own
  pub called_own : (settings : Settings) → settings ≡ assuming → (bytes numbers : List ℕ) (answer : Result Served Refusal) (status : ℕ) → is_whole result ≡ true
      → ServesOwn settings text out answer bytes → numbers ≡ bytes_of (numbers_in answer) → status ≡ status_in answer → CallsOwn text out result status bytes numbers
  unfolding status_by buffer_by result_by
  called_own settings named bytes numbers answer status e served n t =
      let s = subst (λ (x : Settings). ServesOwn x text out answer bytes) named served in
      record {
        answered = t ∙ ap status_in s.answered ∙ if_so whole _ _ e;
        written = s.written ∙ if_so whole _ _ e;
        told = n ∙ ap (λ (a : Result Served Refusal). bytes_of (numbers_in a)) s.answered ∙ if_so whole _ _ e;
      }

  pub not_called_own : is_whole result ≡ false → CallsOwn text out result bad_result out result
  unfolding status_by buffer_by result_by
  not_called_own e = record { answered = if_not whole _ _ e; written = if_not whole _ _ e; told = if_not whole _ _ e }
