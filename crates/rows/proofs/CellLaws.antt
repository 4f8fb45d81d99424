-- The tokens of a line in a cell: there is room for all that a column may ask for, and what lies between two places is the token at the column.
use mathlib.Core.Path.{◌≡◌, refl, sym, ap, ◌∙◌}
use mathlib.Core.Bool.{Bool, true, false, cond}
use mathlib.Core.List.{List, [], ◌∷◌}
use Prim.Native.Nat.{ℕ, suc, ◌-◌, ◌≤◌, ◌<◌, min, zero-le}
use native.Mathlib.Nat.{le_trans}
use native.Mathlib.Omega.{arith}
use lib.Dec.{ltb}
use lib.ListN.{length, get_or, take, drop, length-append}
use lib.Seq.{sets}
use borrow.Author.Tests.{ltb-true, ltb-false}
use Rattle.tokens.specs.declared.split.Part.{Part}
use Rattle.tokens.specs.Split.{joined, places_from, token_in, IsPart}
use Rattle.tokens.specs.Tokens.{tokens_of, token_at}
use Rattle.tokens.proofs.NoTokenIsEmpty.{token_some, token_past}
use Rattle.tokens.proofs.TokensStandInTheCell.{tokens_fit, token_stands}
use Rattle.rows.specs.Fields.{InCell}

-- as a slice `&cell[start..end]` has it
pub lent : {line cell places : List ℕ} {n k : ℕ} {part : Part} → IsPart cell (token_in cell places n k) part → k < 256 → InCell line cell places n
    → take (part.end - part.start) (drop part.start cell) ≡ token_at line k
lent {k = k} p h i = p.there ∙ i.tokens k h

-- tokens that are not empty are no more than their bytes
few : (ts : List (List ℕ)) → ((k : ℕ) → k < length ts → 0 < length (get_or ts k [])) → length ts ≤ length (joined ts)
unfolding joined
few [] f = zero-le
few (t ∷ ts) f = omega (arith, length-append t (joined ts), f 0 (omega arith), few ts (λ k h. f (suc k) (omega arith)))

tokens_few : (line : List ℕ) → length (tokens_of line) ≤ length line
unfolding token_at
tokens_few line = le_trans (few (tokens_of line) (token_some line)) (tokens_fit line)

pub in_room : (line cell places : List ℕ) → length line ≤ length cell → min 256 (length line) < length places → (k : ℕ) → k < 256
    → token_in (sets cell 0 (joined (tokens_of line))) (sets places 0 (places_from 0 (tokens_of line))) (length (tokens_of line)) k ≡ token_at line k
unfolding token_in
in_room line cell places fits wide k h = go (ltb k n) refl
  where
    n : ℕ
    n = length (tokens_of line)

    in_cell : List ℕ
    in_cell = sets cell 0 (joined (tokens_of line))

    in_places : List ℕ
    in_places = sets places 0 (places_from 0 (tokens_of line))

    go : (t : Bool) → ltb k n ≡ t → token_in in_cell in_places n k ≡ token_at line k
    go true e = token_stands line cell places k fits (omega (arith, ltb-true k n e, tokens_few line, h, wide))
    go false e =
        ap (λ t. cond t (take (get_or in_places (suc k) 0 - get_or in_places k 0) (drop (get_or in_places k 0) in_cell)) []) e
        ∙ sym (token_past line k (ltb-false k n e))
