use mathlib.Core.List.{[]}
use Prim.Native.Nat.{◌≤◌}
use lib.ListN.{get_or}
use Rattle.tokens.specs.Tokens.{tokens_from}
use Rattle.tokens.specs.Walk.{Going}
use Rattle.tokens.proofs.tokenize.token_from.Given as goal

abbrev pub invariant-loop-b : goal.invariant-loop-b
invariant-loop-b l = (l.len ≤ l.b-index) × Going l.text l.initial.cell (get_or (tokens_from l.text) l.k []) l.b-index l.quote l.left l.len l.cell
