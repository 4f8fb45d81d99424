-- No token is empty, since only a token that has bytes is ended; so the k-th token is empty exactly where a line has no more than k.
use mathlib.Core.Path.{◌≡◌, refl, ap}
use mathlib.Core.List.{List, [], ◌∷◌, ◌++◌}
use mathlib.Core.Bool.{Bool, true, false, not, cond}
use Prim.Native.Nat.{ℕ, zero, suc, ◌≤◌, ◌<◌}
use native.Mathlib.Omega.{arith}
use lib.Dec.{T, eqb, ltb, ltb→lt, nltb→le}
use lib.ListN.{length, get_or}
use borrow.Author.Tests.{lt-ltb}
use Rattle.ascii.specs.Bytes.{byte, first}
use Rattle.tokens.specs.declared.tokenize.Act.{Act}
use Rattle.tokens.specs.declared.tokenize.Act.TheVariants.{Add, End, Turn}
use Rattle.tokens.specs.Trim.{trim}
use Rattle.tokens.specs.Tokens.{act_of, by_act, ended, scan, tokens_from, tokens_of, token_at}

abbrev Full : List (List ℕ) → Type 0
Full ts = (k : ℕ) → k < length ts → 0 < length (get_or ts k [])

ended_full : (token : List ℕ) (ts : List (List ℕ)) → Full ts → Full (ended token ts)
ended_full [] ts f k h = f k h
ended_full (c ∷ cs) ts f zero h = omega arith
ended_full (c ∷ cs) ts f (suc k) h = f k (omega arith)

none_full : Full []
none_full k h = absurd (omega arith)

scan_full : (s : List ℕ) (q : ℕ) (token : List ℕ) → Full (scan q token s)
unfolding scan
scan_full [] q token = ended_full token [] none_full
scan_full (b ∷ s) q token = go (act_of q (length token) b) (scan_full s q (token ++ b ∷ [])) (ended_full token (scan q [] s) (scan_full s q [])) (λ r. scan_full s r token)
  where
    go :
        (a : Act) → Full (scan q (token ++ b ∷ []) s) → Full (ended token (scan q [] s)) → ((r : ℕ) → Full (scan r token s))
        → Full (by_act a (scan q (token ++ b ∷ []) s) (ended token (scan q [] s)) (λ r. scan r token s))
    go Add add end turn = add
    go End add end turn = end
    go (Turn r) add end turn = turn r

tokens_full : (line : List ℕ) → Full (tokens_of line)
unfolding tokens_of
tokens_full line = go (eqb (first (trim line)) (byte "#"))
  where
    go : (t : Bool) → Full (cond t [] (tokens_from (trim line)))
    go true = none_full
    go false = scan_full (trim line) 0 []

pub token_some : (line : List ℕ) (k : ℕ) → k < length (tokens_of line) → 0 < length (token_at line k)
unfolding token_at
token_some line k h = tokens_full line k h

-- past the last token there is none
past : (ts : List (List ℕ)) (k : ℕ) → length ts ≤ k → get_or ts k [] ≡ []
past [] k h = refl
past (t ∷ ts) zero h = absurd (omega arith)
past (t ∷ ts) (suc k) h = past ts k (omega arith)

pub token_past : (line : List ℕ) (k : ℕ) → length (tokens_of line) ≤ k → token_at line k ≡ []
unfolding token_at
token_past line k h = past (tokens_of line) k h

-- a line reaches column k exactly where its k-th token has bytes
pub token_reached : (line : List ℕ) (k : ℕ) → ltb 0 (length (token_at line k)) ≡ ltb k (length (tokens_of line))
token_reached line k = go (ltb k (length (tokens_of line))) (ltb→lt k (length (tokens_of line))) (nltb→le k (length (tokens_of line)))
  where
    go : (t : Bool) → (T t → k < length (tokens_of line)) → (T (not t) → length (tokens_of line) ≤ k) → ltb 0 (length (token_at line k)) ≡ t
    go true below above = lt-ltb 0 (length (token_at line k)) (token_some line k (below tt))
    go false below above = ap (λ (t : List ℕ). ltb 0 (length t)) (token_past line k (above tt))
