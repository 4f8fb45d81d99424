-- A name is walked from its number byte by byte; one whose bytes all stand behind the quotes in ASCII is written as it is.
use mathlib.Core.Path.{◌≡◌, refl, sym, ap, ◌∙◌}
use mathlib.Core.Bool.{Bool, true, ◌&&◌}
use mathlib.Core.List.{List, [], ◌∷◌}
use Prim.Native.Nat.{ℕ, ◌+◌, ◌^◌, ◌<◌}
use native.Mathlib.Omega.{arith}
use lib.ListN.{length, drop}
use borrow.Author.Tests.{ne_eqb}
use Rattle.ascii.specs.Bytes.{first}
use Rattle.tokens.specs.Kinds.{is_plain}
use Rattle.tokens.specs.Quote.{all_plain}
use Rattle.tokens.proofs.QuoteLaws.{quote_bare}
use Rattle.names.specs.Packing.{unpacked}
use Rattle.names.proofs.PackingTurns.{unpacked_none, first_in_front}
use Rattle.row_texts.specs.Emitted.{Emitted}
use Rattle.row_texts.specs.Fields.{name_text}
use Rattle.row_texts.proofs.EmittedLaws.{then, stored_emits}

plain_behind : (b : ℕ) → 39 < b → is_plain b ≡ true
plain_behind b h = simp (ne_eqb b 9 (λ e. omega arith), ne_eqb b 32 (λ e. omega arith), ne_eqb b 34 (λ e. omega arith), ne_eqb b 39 (λ e. omega arith))

-- a turn of a walk: the byte in front, and the number that has the bytes behind it
module _ (rest more : ℕ) {b : ℕ} (some : rest ≡ 0 → ⊥) (front : b ≡ first (unpacked rest)) (behind : unpacked more ≡ drop 1 (unpacked rest)) where
  pub front_and_behind : unpacked rest ≡ b ∷ unpacked more
  front_and_behind = rw (front, behind) (first_in_front rest some)

  pub plain_turn : 39 < b → all_plain (unpacked rest) ≡ all_plain (unpacked more)
  unfolding all_plain
  plain_turn h = ap all_plain front_and_behind ∙ ap (λ (t : Bool). t && all_plain (unpacked more)) (plain_behind b h)

pub plain_last : (name n : ℕ) {rest : ℕ} → (name ≡ 0 → ⊥) → rest ≡ 0 → length (unpacked name) ≡ n + length (unpacked rest) → all_plain (unpacked name) ≡ all_plain (unpacked rest)
    → (name_text name ≡ unpacked name) × (n ≡ length (unpacked name))
unfolding all_plain
plain_last name n some none long plain =
    let empty = unpacked_none 8 in
    let all : length (unpacked name) ≡ n = long ∙ rw (none, empty) (omega arith) in
    (quote_bare (unpacked name) (λ e. omega (arith, ap length (first_in_front name some))) (plain ∙ rw (none, empty)), sym all)

-- what is put of a name so far, and then the bytes of the rest, is the whole name
pub record Putting (out₀ : List ℕ) (at name : ℕ) (out : List ℕ) (next rest : ℕ) : Type 0 where
  pub same : length out ≡ length out₀
  pub onward : (end : ℕ) (after : List ℕ) → Emitted out next (unpacked rest) end after → Emitted out₀ at (unpacked name) end after

pub putting_first : (out : List ℕ) (at name : ℕ) → Putting out at name out at name
putting_first out at name = record { same = refl; onward = λ end after e. e }

module _ {out₀ out : List ℕ} {at name next rest : ℕ} (p : Putting out₀ at name out next rest) where
  pub putting_turn : {b more between : ℕ} {middle : List ℕ} → unpacked rest ≡ b ∷ unpacked more → Emitted out next (b ∷ []) between middle → length out₀ < 2 ^ 64
      → Putting out₀ at name middle between more
  putting_turn split e short = record {
    same = e.same ∙ p.same;
    onward = λ end after q. p.onward end after (rw split (then e (λ _. q) (omega (arith, p.same))));
  }

  pub putting_last : rest ≡ 0 → Emitted out₀ at (unpacked name) next out
  putting_last none = p.onward next out (rw (none, unpacked_none 8) (stored_emits (record { bytes = refl; place = omega arith })))
