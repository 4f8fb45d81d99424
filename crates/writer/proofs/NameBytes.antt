-- The bytes of a packed name are its first one, and those of what is left without it; so a byte stands in it where it is the first, or stands in what is left.
use mathlib.Core.Path.{◌≡◌, sym, ap, ◌∙◌}
use mathlib.Core.Bool.{Bool, true, false, ◌||◌}
use Prim.Native.Nat.{ℕ}
use lib.Dec.{eqb}
use lib.ListN.{drop}
use borrow.Author.Tests.{eq-eqb, ne_eqb}
use Rattle.ascii.specs.Bytes.{first}
use Rattle.names.specs.Packing.{unpacked}
use Rattle.names.proofs.PackingTurns.{unpacked_none, first_in_front}
use Rattle.tokens.specs.Quote.{has}

module _ (b name : ℕ) where
  pub has_end : name ≡ 0 → has b (unpacked name) ≡ false
  unfolding has
  has_end e = ap (λ (n : ℕ). has b (unpacked n)) e ∙ ap (has b) (unpacked_none 8)

  module _ (some : name ≡ 0 → ⊥) where
    abbrev others : Bool
    others = has b (drop 1 (unpacked name))

    turn : has b (unpacked name) ≡ (eqb (first (unpacked name)) b || others)
    unfolding has
    turn = ap (has b) (first_in_front name some)

    pub has_found : first (unpacked name) ≡ b → has b (unpacked name) ≡ true
    has_found e = turn ∙ ap (λ (t : Bool). t || others) (eq-eqb (first (unpacked name)) b e)

    -- where the rest is the name without its first byte
    pub has_on : (rest : ℕ) → unpacked rest ≡ drop 1 (unpacked name) → (first (unpacked name) ≡ b → ⊥) → has b (unpacked name) ≡ has b (unpacked rest)
    has_on rest left e = turn ∙ ap (λ (t : Bool). t || others) (ne_eqb (first (unpacked name)) b e) ∙ sym (ap (has b) left)
