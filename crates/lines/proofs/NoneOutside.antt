-- No byte is outside exactly where the text is in the domain: both walk the same text by the same test.
use mathlib.Core.Path.{◌≡◌, refl}
use mathlib.Core.List.{List, [], ◌∷◌}
use mathlib.Core.Bool.{Bool, true, false, ◌&&◌, ◌||◌, cond, false≢true}
use Prim.Native.Nat.{ℕ}
use native.Mathlib.Omega.{arith}
use lib.Dec.{eqb}
use Rattle.std.specs.Prelude.{Option, Some, None}
use Rattle.ascii.specs.Bytes.{first, is_text_byte}
use Rattle.ascii.specs.Lists.{every}
use Rattle.lines.specs.declared.domain.Outside.{Outside}
use Rattle.lines.specs.Domain.{is_allowed, in_domain, line_after, outside_from, outside_of, stands_anywhere}

none_from : (line : ℕ) (text : List ℕ) → in_domain text ≡ true → outside_from line text ≡ None
unfolding in_domain outside_from
none_from line [] e = refl
none_from line (b ∷ bs) e = go (is_allowed b (first bs)) e (none_from (line_after line b) bs)
  where
    go : (t : Bool) → (t && in_domain bs) ≡ true → (in_domain bs ≡ true → outside_from (line_after line b) bs ≡ None) → cond t (outside_from (line_after line b) bs) (Some (record { line = line; byte = b })) ≡ None
    go true e further = further e
    go false e further = absurd (false≢true e)

domain_from : (line : ℕ) (text : List ℕ) → outside_from line text ≡ None → in_domain text ≡ true
unfolding in_domain outside_from
domain_from line [] e = refl
domain_from line (b ∷ bs) e = go (is_allowed b (first bs)) e (domain_from (line_after line b) bs)
  where
    differ : ◌≡◌ {A = Option Outside} (Some (record { line = line; byte = b })) None → ⊥
    differ e = let z : ◌≡◌ {A = ℕ} 0 1 = cc in omega arith

    go : (t : Bool) → cond t (outside_from (line_after line b) bs) (Some (record { line = line; byte = b })) ≡ None → (outside_from (line_after line b) bs ≡ None → in_domain bs ≡ true) → (t && in_domain bs) ≡ true
    go true e further = further e
    go false e further = absurd (differ e)

pub none_outside : (text : List ℕ) → in_domain text ≡ true → outside_of text ≡ None
none_outside text e = none_from 1 text e

pub in_domain_lem : (text : List ℕ) → outside_of text ≡ None → in_domain text ≡ true
in_domain_lem text e = domain_from 1 text e

-- a text of bytes that may stand anywhere is in the domain
anywhere_in_domain : (text : List ℕ) → every stands_anywhere text ≡ true → in_domain text ≡ true
unfolding in_domain
anywhere_in_domain [] e = refl
anywhere_in_domain (b ∷ bs) e = go (is_text_byte b) (eqb b 10) (eqb b 13 && eqb (first bs) 10) e (anywhere_in_domain bs)
  where
    go : (t u v : Bool) → ((t || u) && every stands_anywhere bs) ≡ true → (every stands_anywhere bs ≡ true → in_domain bs ≡ true) → ((t || (u || v)) && in_domain bs) ≡ true
    go true u v e further = further e
    go false true v e further = further e
    go false false v e further = absurd (false≢true e)

pub none_odd : (text : List ℕ) → every stands_anywhere text ≡ true → outside_of text ≡ None
none_odd text e = none_outside text (anywhere_in_domain text e)
