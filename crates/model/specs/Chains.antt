-- The chains of a model, by their packed names, in first-met order.
use Rattle.std.specs.Prelude.{cond, List, [], ◌∷◌, ℕ, suc, eqb}

-- where a chain stands, from 0; the length of the list where it is not in it
unfoldable pub chain_place : ℕ → List ℕ → ℕ
chain_place c [] = 0
chain_place c (d ∷ l) = cond (eqb c d) 0 (suc (chain_place c l))

-- a chain that is newly met comes to the end
unfoldable pub with_chain : ℕ → List ℕ → List ℕ
with_chain c [] = c ∷ []
with_chain c (d ∷ l) = cond (eqb c d) (d ∷ l) (d ∷ with_chain c l)
