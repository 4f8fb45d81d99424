-- A loop never has more than 64 headers: none at the start and at `loop_`, and one more only where there were fewer than 64.
use mathlib.Core.Path.{◌≡◌, refl}
use mathlib.Core.List.{List, [], ◌∷◌}
use mathlib.Core.Bool.{Bool, true, false, cond}
use Prim.Native.Nat.{ℕ, ◌≤◌, ◌<◌}
use native.Mathlib.Omega.{arith}
use lib.Dec.{ltb}
use borrow.Author.Tests.{ltb-true}
use Rattle.tokens.specs.Tokens.{tokens_of}
use Rattle.token_values.specs.Words.{is_loop, is_cell_item, is_item}
use Rattle.line_states.specs.declared.heads.Heads.{Heads}
use Rattle.line_states.specs.declared.heads.State.{State}
use Rattle.line_states.specs.declared.heads.State.TheVariants.{Base, Header, AtomLoop, OtherLoop}
use Rattle.line_states.specs.declared.reading.Does.TheVariants.{Nothing, TooManyHeaders}
use Rattle.line_states.specs.declared.reading.Moved.{Moved}
use Rattle.line_states.specs.Heads.{start_heads, with_header}
use Rattle.line_states.specs.States.{moved, recorded_of, item_in, other_in, moved_by_token, moved_by_tokens, moved_by}

pub start_fits : start_heads.headers ≤ 64
start_fits = omega arith

record Fit (m : Moved) : Type 0 where
  pub below : m.heads.headers ≤ 64

either : (t : Bool) {m n : Moved} → Fit m → Fit n → Fit (cond t m n)
either true f g = f
either false f g = g

module _ (heads : Heads) (fits : heads.headers ≤ 64) where
  recorded_fits : (token : List ℕ) → Fit (recorded_of heads token)
  recorded_fits token = go (ltb heads.headers 64) (ltb-true heads.headers 64)
    where
      go : (t : Bool) → (t ≡ true → heads.headers < 64) → Fit (cond t (moved (with_header heads token) Nothing) (moved heads TooManyHeaders))
      go true room = record { below = omega (arith, room refl) }
      go false room = record { below = fits }

  item_fits : (state : State) (token : List ℕ) → Fit (item_in state heads token)
  item_fits Base token = record { below = fits }
  item_fits Header token = recorded_fits token
  item_fits AtomLoop token = record { below = fits }
  item_fits OtherLoop token = record { below = fits }

  other_fits : (state : State) → Fit (other_in state heads)
  other_fits Base = record { below = fits }
  other_fits Header = either heads.atom_site (record { below = fits }) (record { below = fits })
  other_fits AtomLoop = record { below = fits }
  other_fits OtherLoop = record { below = fits }

  token_fits : (token : List ℕ) → Fit (moved_by_token heads token)
  unfolding moved_by_token
  token_fits token =
      either (is_loop token) (record { below = omega arith })
      (either (is_cell_item token) (record { below = fits })
      (either (is_item token) (item_fits heads.state token)
      (other_fits heads.state)))

  pub headers_fit : (line : List ℕ) → (moved_by heads line).heads.headers ≤ 64
  unfolding moved_by
  headers_fit line = go (tokens_of line)
    where
      go : (ts : List (List ℕ)) → (moved_by_tokens heads ts).heads.headers ≤ 64
      go [] = fits
      go (token ∷ ts) = (token_fits token).below
