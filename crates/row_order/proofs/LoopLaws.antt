-- What a line does where the rows of an atom loop are awaited: a row opens the loop or finds it open, and a line that is passed over leaves it as it is; the
-- columns stay in either case.
use mathlib.Core.Path.{◌≡◌, refl, sym}
use mathlib.Core.Bool.{Bool, true, false, not, ◌&&◌, ◌||◌, cond, false≢true}
use mathlib.Core.List.{List, [], ◌∷◌}
use Prim.Native.Nat.{ℕ}
use lib.Dec.{eqb}
use borrow.Author.Tests.{eqb-true}
use Rattle.ascii.specs.Bytes.{bytes}
use Rattle.ascii.specs.Words.{starts_with, same_bytes}
use Rattle.tokens.specs.Tokens.{tokens_of}
use Rattle.token_values.specs.Words.{is_loop, is_cell_item, is_item}
use Rattle.line_states.specs.Heads.{in_state}
use Rattle.line_states.specs.States.{moved, other_in, moved_by_token, moved_by_tokens, moved_by}
use Rattle.line_states.specs.declared.heads.Heads.{Heads}
use Rattle.line_states.specs.declared.heads.State.{State}
use Rattle.line_states.specs.declared.heads.State.TheVariants.{Base, Header, AtomLoop, OtherLoop}
use Rattle.line_states.specs.declared.reading.Does.{Does}
use Rattle.line_states.specs.declared.reading.Does.TheVariants.{Nothing}
use Rattle.model.proofs.ListLaws.{left_of, right_of}
use Rattle.row_order.specs.Loops.{are_passed_over, is_passed_over, are_of_row, is_row, stands_among_rows, awaits_in, awaits_rows}

not_true : (b : Bool) → not b ≡ true → b ≡ false
not_true true e = sym e
not_true false e = refl

-- ---- first tokens
module _ (token : List ℕ) where
  cell_is_no_loop : is_cell_item token ≡ true → is_loop token ≡ false
  unfolding starts_with same_bytes
  cell_is_no_loop e = go token e
    where
      go : (t : List ℕ) → starts_with t (bytes "_cell.") ≡ true → same_bytes t (bytes "loop_") ≡ false
      go [] e = refl
      go (b ∷ s) e = rw (eqb-true b 95 (left_of (eqb b 95) _ e))

  no_item_is_no_cell : is_item token ≡ false → is_cell_item token ≡ false
  unfolding starts_with
  no_item_is_no_cell e = go token e
    where
      at : (t : Bool) (r : Bool) → (t && true) ≡ false → (t && r) ≡ false
      at true r e = absurd (false≢true (sym e))
      at false r e = refl

      go : (t : List ℕ) → starts_with t (bytes "_") ≡ false → starts_with t (bytes "_cell.") ≡ false
      go [] e = refl
      go (b ∷ s) e = at (eqb b 95) _ e

-- ---- a line that is passed over
passed_over : (heads : Heads) (line : List ℕ) → is_passed_over line ≡ true → moved_by heads line ≡ moved heads Nothing
unfolding moved_by moved_by_token
passed_over heads line e = go (tokens_of line) e
  where
    go : (tokens : List (List ℕ)) → are_passed_over tokens ≡ true → moved_by_tokens heads tokens ≡ moved heads Nothing
    go [] e = refl
    go (token ∷ tokens) e = rw (cell_is_no_loop token e, e)

-- ---- a row
module _ (heads : Heads) (awaits : awaits_rows heads ≡ true) where
  awaited : other_in heads.state heads ≡ moved (in_state AtomLoop heads) Does.Row
  awaited = go heads.state refl awaits
    where
      go : (state : State) → heads.state ≡ state → awaits_in state heads.atom_site ≡ true → other_in state heads ≡ moved (in_state AtomLoop heads) Does.Row
      go Base e a = absurd (false≢true a)
      go Header e a = rw a
      go AtomLoop e a = λ i. moved (in_state (e i) heads) Does.Row
      go OtherLoop e a = absurd (false≢true a)

  row_taken_lem : (line : List ℕ) → is_row line ≡ true → moved_by heads line ≡ moved (in_state AtomLoop heads) Does.Row
  unfolding moved_by moved_by_token
  row_taken_lem line e = go (tokens_of line) e
    where
      go : (tokens : List (List ℕ)) → are_of_row tokens ≡ true → moved_by_tokens heads tokens ≡ moved (in_state AtomLoop heads) Does.Row
      go [] e = absurd (false≢true e)
      go (token ∷ tokens) e =
          let loop = not_true (is_loop token) (left_of (not (is_loop token)) (not (is_item token)) e) in
          let item = not_true (is_item token) (right_of (not (is_loop token)) (not (is_item token)) e) in
          rw (loop, no_item_is_no_cell token item, item) awaited

  -- ---- either: a row leaves the loop open
  pub among_moves : (line : List ℕ) → stands_among_rows line ≡ true → moved_by heads line ≡ cond (is_row line) (moved (in_state AtomLoop heads) Does.Row) (moved heads Nothing)
  among_moves line e = go (is_row line) refl e
    where
      go : (b : Bool) → is_row line ≡ b → (b || is_passed_over line) ≡ true → moved_by heads line ≡ cond b (moved (in_state AtomLoop heads) Does.Row) (moved heads Nothing)
      go true r e = row_taken_lem line r
      go false r e = passed_over heads line e
