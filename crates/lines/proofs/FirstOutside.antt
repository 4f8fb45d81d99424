-- A byte is answered exactly where it is the first that may not stand where it stands, and with it its line: one more than the bytes 10 before it.
use mathlib.Core.Path.{◌≡◌, refl, sym, ap, subst, ◌∙◌}
use mathlib.Core.Logic.{◌↔◌}
use mathlib.Core.List.{List, [], ◌∷◌, ◌++◌}
use mathlib.Core.Bool.{Bool, true, false, ◌&&◌, cond, false≢true}
use Prim.Native.Nat.{ℕ, suc, ◌+◌}
use native.Mathlib.Omega.{arith}
use lib.Dec.{eqb}
use Rattle.std.specs.Prelude.{Option, Some}
use Rattle.ascii.specs.Bytes.{first}
use Rattle.lines.specs.declared.domain.Outside.{Outside}
use Rattle.lines.specs.Domain.{is_allowed, line_after, outside_from, outside_of}

-- how many bytes 10 there are
abbrev feeds : List ℕ → ℕ
feeds [] = 0
feeds (b ∷ bs) = cond (eqb b 10) (suc (feeds bs)) (feeds bs)

-- each byte of a text may stand there, the bytes after it behind it
abbrev allowed_before : List ℕ → List ℕ → Bool
allowed_before [] after = true
allowed_before (b ∷ bs) after = is_allowed b (first (bs ++ after)) && allowed_before bs after

abbrev at_line : ℕ → ℕ → Option Outside
at_line byte line = Some (record { line = line; byte = byte })

-- in a text whose first byte is in this line
pub record FirstOutside (from : ℕ) (text : List ℕ) (line byte : ℕ) : Type 0 where
  pub before : List ℕ
  pub after : List ℕ
  pub bytes : text ≡ before ++ byte ∷ after
  pub allowed : allowed_before before (byte ∷ after) ≡ true
  pub outside : is_allowed byte (first after) ≡ false
  pub counted : line ≡ from + feeds before

next_line : (from b : ℕ) (bs : List ℕ) → line_after from b + feeds bs ≡ from + feeds (b ∷ bs)
next_line from b bs = go (eqb b 10)
  where
    go : (t : Bool) → cond t (from + 1) from + feeds bs ≡ from + cond t (suc (feeds bs)) (feeds bs)
    go true = omega arith
    go false = omega arith

answered : (from line byte : ℕ) (text : List ℕ) → outside_from from text ≡ Some (record { line = line; byte = byte }) → FirstOutside from text line byte
unfolding outside_from
answered from line byte [] e = let z : ◌≡◌ {A = ℕ} 0 1 = cc in absurd (omega arith)
answered from line byte (b ∷ bs) e = go (is_allowed b (first bs)) refl e (answered (line_after from b) line byte bs)
  where
    go : (t : Bool) → is_allowed b (first bs) ≡ t → cond t (outside_from (line_after from b) bs) (Some (record { line = from; byte = b })) ≡ Some (record { line = line; byte = byte })
        → (outside_from (line_after from b) bs ≡ Some (record { line = line; byte = byte }) → FirstOutside (line_after from b) bs line byte) → FirstOutside from (b ∷ bs) line byte
    go true h e later =
        let f = later e in
        record {
          before = b ∷ f.before;
          after = f.after;
          bytes = ap (λ (l : List ℕ). b ∷ l) f.bytes;
          allowed = rw (← f.bytes) (rw h f.allowed);
          outside = f.outside;
          counted = f.counted ∙ next_line from b f.before;
        }
    go false h e later =
        let same : ◌≡◌ {A = Outside} (record { line = from; byte = b }) (record { line = line; byte = byte }) = cc in
        let from_is : from ≡ line = ap (λ (o : Outside). o.line) same in
        let byte-is : b ≡ byte = ap (λ (o : Outside). o.byte) same in
        record {
          before = [];
          after = bs;
          bytes = ap (λ (x : ℕ). x ∷ bs) byte-is;
          allowed = refl;
          outside = subst (λ (x : ℕ). is_allowed x (first bs) ≡ false) byte-is h;
          counted = omega arith;
        }

answers : (from byte : ℕ) (before after : List ℕ) → allowed_before before (byte ∷ after) ≡ true → is_allowed byte (first after) ≡ false
    → outside_from from (before ++ byte ∷ after) ≡ Some (record { line = from + feeds before; byte = byte })
unfolding outside_from
answers from byte [] after a h = rw h (ap (at_line byte) (omega arith))
answers from byte (b ∷ bs) after a h = go (is_allowed b (first (bs ++ byte ∷ after))) a (answers (line_after from b) byte bs after)
  where
    go : (t : Bool) → (t && allowed_before bs (byte ∷ after)) ≡ true
        → (allowed_before bs (byte ∷ after) ≡ true → is_allowed byte (first after) ≡ false → outside_from (line_after from b) (bs ++ byte ∷ after) ≡ Some (record { line = line_after from b + feeds bs; byte = byte }))
        → cond t (outside_from (line_after from b) (bs ++ byte ∷ after)) (Some (record { line = from; byte = b })) ≡ Some (record { line = from + feeds (b ∷ bs); byte = byte })
    go true a later = later a h ∙ ap (at_line byte) (next_line from b bs)
    go false a later = absurd (false≢true a)

-- ---- the theorem
pub first_outside : (text : List ℕ) (line byte : ℕ) → (outside_of text ≡ Some (record { line = line; byte = byte })) ↔ FirstOutside 1 text line byte
first_outside text line byte = (
  answered 1 line byte text,
  λ f. ap outside_of f.bytes ∙ answers 1 byte f.before f.after f.allowed f.outside ∙ ap (at_line byte) (sym f.counted),
)
