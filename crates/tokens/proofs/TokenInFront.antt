-- A token is no longer than its line, so that a cell as long as the line holds any token of it whole.
use mathlib.Core.Path.{◌≡◌, refl, ap, ◌∙◌}
use mathlib.Core.List.{List}
use Prim.Native.Nat.{ℕ, ◌+◌, ◌-◌, ◌≤◌}
use native.Mathlib.Nat.{le_trans}
use native.Mathlib.Omega.{arith}
use lib.ListN.{length, take, drop}
use lib.Seq.{sets, length-sets, sets-eq, take_at}
use Rattle.tokens.specs.Split.{Copied}
use Rattle.tokens.specs.Tokens.{token_at}
use Rattle.tokens.proofs.TokensStandInTheCell.{token_fits}
use Rattle.tokens.proofs.TrimLaws.{front_is}

front_stored : (token cell : List ℕ) → length token ≤ length cell → take (length token) (sets cell 0 token) ≡ token
front_stored token cell h =
    ap (take (length token)) (sets-eq token cell 0 (omega arith))
    ∙ take_at token (drop (0 + length token) cell) (length token) refl

pub copied : (line : List ℕ) (k : ℕ) (cell : List ℕ) {n : ℕ} {after : List ℕ} → length line ≤ length cell → n ≡ length (token_at line k) → after ≡ sets cell 0 (token_at line k) → Copied (token_at line k) n after
copied line k cell {n} {after} h e f = record {
  within = omega (arith, fits, ap length f, length-sets cell 0 (token_at line k));
  front = ap (λ (m : ℕ). take m after) e ∙ ap (take (length (token_at line k))) f ∙ front_stored (token_at line k) cell (le_trans fits h);
}
  where
    fits : length (token_at line k) ≤ length line
    fits = token_fits line k

-- the token, as a slice `&cell[0..n]` has it
pub lent : {token : List ℕ} {n : ℕ} {cell : List ℕ} → Copied token n cell → take (n - 0) (drop 0 cell) ≡ token
lent {token} {n} {cell} c = front_is n cell ∙ c.front
