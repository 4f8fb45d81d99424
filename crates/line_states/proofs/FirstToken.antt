-- A line's first token decides what it does; no token is empty, so there is none exactly where none of some length is found. A token that begins with
-- neither _ nor l is no item and no `loop_`.
use mathlib.Core.Path.{◌≡◌, refl, ap, ◌∙◌}
use mathlib.Core.List.{List, [], ◌∷◌}
use Prim.Native.Nat.{ℕ, ◌<◌}
use native.Mathlib.Omega.{arith}
use lib.ListN.{length, get_or}
use borrow.Author.Tests.{ne_eqb}
use Rattle.ascii.specs.Bytes.{byte}
use Rattle.ascii.specs.Words.{starts_with, same_bytes}
use Rattle.tokens.specs.Tokens.{tokens_of, token_at}
use Rattle.tokens.proofs.NoTokenIsEmpty.{token_some}
use Rattle.line_states.specs.declared.heads.Heads.{Heads}
use Rattle.line_states.specs.declared.reading.Does.TheVariants.{Nothing}
use Rattle.line_states.specs.States.{moved, other_in, moved_by_token, moved_by_tokens, moved_by}
use Rattle.line_states.proofs.FirstByte.{Begin}

module _ (heads : Heads) (line : List ℕ) where
  pub no_token : length (token_at line 0) ≡ 0 → moved_by heads line ≡ moved heads Nothing
  unfolding token_at moved_by
  no_token e = go (tokens_of line) (token_some line 0) e
    where
      go : (ts : List (List ℕ)) → (0 < length ts → 0 < length (get_or ts 0 [])) → length (get_or ts 0 []) ≡ 0 → moved_by_tokens heads ts ≡ moved heads Nothing
      go [] some e = refl
      go (t ∷ ts) some e = absurd (omega (arith, some (omega arith)))

  pub some_token : (length (token_at line 0) ≡ 0 → ⊥) → moved_by heads line ≡ moved_by_token heads (token_at line 0)
  unfolding token_at moved_by
  some_token n = go (tokens_of line) n
    where
      go : (ts : List (List ℕ)) → (length (get_or ts 0 []) ≡ 0 → ⊥) → moved_by_tokens heads ts ≡ moved_by_token heads (get_or ts 0 [])
      go [] n = absurd (n refl)
      go (t ∷ ts) n = refl

  pub nothing_moves : tokens_of line ≡ [] → moved_by heads line ≡ moved heads Nothing
  unfolding moved_by
  nothing_moves e = ap (moved_by_tokens heads) e

  other_token : (b : ℕ) (more : List ℕ) → (b ≡ byte "_" → ⊥) → (b ≡ byte "l" → ⊥) → moved_by_token heads (b ∷ more) ≡ other_in heads.state heads
  unfolding moved_by_token starts_with same_bytes
  other_token b more item loop = rw (ne_eqb b (byte "_") item, ne_eqb b (byte "l") loop)

  pub other_moves : (b : ℕ) → Begin b (tokens_of line) → (b ≡ byte "_" → ⊥) → (b ≡ byte "l" → ⊥) → moved_by heads line ≡ other_in heads.state heads
  unfolding moved_by
  other_moves b begin item loop = ap (moved_by_tokens heads) begin.is ∙ other_token b begin.more item loop
