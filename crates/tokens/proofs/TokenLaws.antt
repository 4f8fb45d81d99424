-- A comment has no tokens; any other line has those of its trimmed text.
use mathlib.Core.Path.{◌≡◌, refl}
use mathlib.Core.List.{List, []}
use mathlib.Core.Bool.{Bool, true, false, cond}
use Prim.Native.Nat.{ℕ}
use lib.Dec.{eqb}
use borrow.Author.Tests.{ne_eqb}
use Rattle.ascii.specs.Bytes.{byte, first}
use Rattle.tokens.specs.Trim.{trim, content_of}
use Rattle.tokens.specs.Tokens.{scan, tokens_from, tokens_of}

pub line_tokens : (line : List ℕ) → (first (trim line) ≡ byte "#" → ⊥) → tokens_of line ≡ tokens_from (trim line)
unfolding tokens_of
line_tokens line n = rw (ne_eqb (first (trim line)) (byte "#") n)

-- the tokens of a line are those of its content
pub content_tokens : (line : List ℕ) → tokens_from (content_of line) ≡ tokens_of line
unfolding content_of tokens_of scan
content_tokens line = go (eqb (first (trim line)) (byte "#"))
  where
    go : (t : Bool) → tokens_from (cond t [] (trim line)) ≡ cond t [] (tokens_from (trim line))
    go true = refl
    go false = refl
