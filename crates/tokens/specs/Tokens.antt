-- The tokens of a line, as document 01's "Reading a line" has them.
use Rattle.std.specs.Prelude.{ℕ, cond, List, [], ◌∷◌, ◌++◌, eqb, length, get_or}
use Rattle.ascii.specs.Bytes.{byte, first}
use Rattle.tokens.specs.declared.kinds.Kind.{Kind}
use Rattle.tokens.specs.declared.kinds.Kind.TheVariants.{Blank, Quote, Plain}
use Rattle.tokens.specs.declared.tokenize.Act.{Act}
use Rattle.tokens.specs.declared.tokenize.Act.TheVariants.{Add, End, Turn}
use Rattle.tokens.specs.Kinds.{kind_of}
use Rattle.tokens.specs.Trim.{trim}

-- outside a quote a blank ends the token; a quote opens if the token so far, of n bytes, is empty, else it is a plain byte
abbrev pub outside : Kind → ℕ → ℕ → Act
outside Blank n b = End
outside Quote n b = cond (eqb n 0) (Turn b) Add
outside Plain n b = Add

-- what byte b does, where q is the open quote, 0 if none is open: inside, the same quote closes
abbrev pub act_of : ℕ → ℕ → ℕ → Act
act_of q n b = cond (eqb q 0) (outside (kind_of b) n b) (cond (eqb b q) (Turn 0) Add)

abbrev pub by_act : {X : Type 0} → Act → X → X → (ℕ → X) → X
by_act Add add end turn = add
by_act End add end turn = end
by_act (Turn q) add end turn = turn q

-- the token, if it is not empty, and then the tokens ts
abbrev pub ended : List ℕ → List (List ℕ) → List (List ℕ)
ended [] ts = ts
ended (c ∷ cs) ts = (c ∷ cs) ∷ ts

-- the tokens from here on, where q is the open quote and token is the token so far
unfoldable pub scan : ℕ → List ℕ → List ℕ → List (List ℕ)
scan q token [] = ended token []
scan q token (b ∷ s) =
    by_act (act_of q (length token) b)
    (scan q (token ++ b ∷ []) s)
    (ended token (scan q [] s))
    (λ r. scan r token s)

-- the tokens of a text at whose start no quote is open and no token is begun
abbrev pub tokens_from : List ℕ → List (List ℕ)
tokens_from s = scan 0 [] s

-- the tokens of a line are those of the trimmed line; there are none where that begins #, as there are none where it is empty
unfoldable pub tokens_of : List ℕ → List (List ℕ)
tokens_of line = cond (eqb (first (trim line)) (byte "#")) [] (tokens_from (trim line))

-- the k-th token, from 0; empty where the line has fewer
unfoldable pub token_at : List ℕ → ℕ → List ℕ
token_at line k = get_or (tokens_of line) k []
