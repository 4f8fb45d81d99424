-- The bytes of a packed name are its first one, and those of what is left without it; so a test of each is a test of the first, and one of the rest.
use mathlib.Core.Path.{◌≡◌, refl, sym, ap, ◌∙◌, subst}
use mathlib.Core.Bool.{Bool, true, false, ◌&&◌, ◌||◌, and-false, false≢true}
use Prim.Native.Nat.{ℕ, ◌/◌, ◌^◌, ◌≤◌, ◌<◌, compare, Ordering}
use native.Mathlib.Omega.{arith}
use lib.Dec.{eqb, leb, ltb}
use lib.ListN.{drop}
use borrow.Author.Tests.{lt-ltb, leb-true, eqb-true}
use Rattle.numbers.proofs.Comparing.{Compared, compared}
use Rattle.names.specs.Packing.{unpacked}
use Rattle.names.proofs.PackingTurns.{unpacked_none, unpacked_first, first_in_front}
use Rattle.ascii.specs.Bytes.{first, is_text_byte}
use Rattle.ascii.specs.Lists.{every}
use Rattle.model.specs.WellFormed.{is_name}
use Rattle.model.proofs.ListLaws.{left_of, right_of}

abbrev pub text_bytes : ℕ → Bool
text_bytes name = every is_text_byte (unpacked name)

module _ (name : ℕ) (some : name ≡ 0 → ⊥) where
  abbrev others : Bool
  others = every is_text_byte (drop 1 (unpacked name))

  turn : text_bytes name ≡ (is_text_byte (first (unpacked name)) && others)
  turn = ap (every is_text_byte) (first_in_front name some)

  -- where the rest is the name without its first byte
  pub bytes_on : (rest : ℕ) → unpacked rest ≡ drop 1 (unpacked name) → is_text_byte (first (unpacked name)) ≡ true → text_bytes name ≡ text_bytes rest
  bytes_on rest left e = turn ∙ ap (λ (t : Bool). t && others) e ∙ sym (ap (every is_text_byte) left)

  pub bytes_fail : is_text_byte (first (unpacked name)) ≡ false → text_bytes name ≡ false
  bytes_fail e = turn ∙ ap (λ (t : Bool). t && others) e

module _ (name : ℕ) where
  pub bytes_end : name ≡ 0 → text_bytes name ≡ true
  bytes_end e = ap (λ (n : ℕ). text_bytes n) e ∙ ap (every is_text_byte) (unpacked_none 8)

  -- ---- the whole name
  pub no_byte : name ≡ 0 → is_name name ≡ false
  unfolding is_name
  no_byte e = rw e

  pub named : (name ≡ 0 → ⊥) → is_name name ≡ text_bytes name
  unfolding is_name
  named h = ap (λ (t : Bool). t && text_bytes name) (lt-ltb 0 name (omega arith))

-- ---- a name is below the step of a key
text_byte : (b : ℕ) → is_text_byte b ≡ true → b ≤ 126
text_byte b e = go (eqb b 9) (leb 32 b) (leb b 126) refl refl e
  where
    go : (t u w : Bool) → eqb b 9 ≡ t → leb b 126 ≡ w → (t || (u && w)) ≡ true → b ≤ 126
    go true u w p q h = omega (arith, eqb-true b 9 p)
    go false u true p q h = leb-true b 126 q
    go false u false p q h = absurd (false≢true (sym (and-false u) ∙ h))

pub name_below : (name : ℕ) → is_name name ≡ true → name < 2 ^ 64
unfolding is_name
name_below name e = go (compare 0 name) (compared 0 name)
  where
    top : (name ≡ 0 → ⊥) → text_bytes name ≡ true → name / 256 ^ 7 ≤ 126
    top h t =
        let b = first (unpacked name) in
        subst (λ (x : ℕ). x ≤ 126) (unpacked_first 7 name) (text_byte b (left_of (is_text_byte b) (others name h) (sym (turn name h) ∙ t)))

    go : (o : Ordering) → Compared o 0 name → name < 2 ^ 64
    go Ordering.lt l = let h = top (λ z. omega arith) (right_of (ltb 0 name) (text_bytes name) e) in omega arith
    go Ordering.eq l = omega arith
    go Ordering.gt l = omega arith
