-- A local is handed to a callee as it stands.
--     hands n          at entry n of the context is the local's cell, which is `refl`, and the other operands follow
-- Assumes `Logic`.
use mathlib.Core.Path.{◌≡◌}
use Prim.Native.Nat.{ℕ, zero}
use mathlib.Core.List.{List, [], ◌∷◌}
use seplogic.Ra.Ura.{Ura}
use mir.Syntax.{Opd, copy, place}
use mir.Val.{Val}
use base.Fml.{Share, fat}
use prog.Wp.{Env, spot_of}
use types.Logic.{Logic}
use types.Kit.{Item, ‵, nth}
use types.Run.{Opds, look, stop, from, load, and_then}

module _ {M : Type 1} {𝓤 : Ura M} {𝓛 : Logic 𝓤} {K : Type 0} {Γ : List (Item 𝓤)} {E : Env 𝓤 𝓛.H} where
  open 𝓛 use {H}

  pub hands : K → {i : ℕ} {xs : List Opd} {v : Val} {vs : List Val} (n : ℕ) {q : Share} → nth 𝓛 n Γ ≡ ‵ (fat q (spot_of 𝓤 H E i).0 (spot_of 𝓤 H E i).1 zero v) → Opds K 𝓛 Γ E xs vs
      → Opds K 𝓛 Γ E (copy (place i []) ∷ xs) (v ∷ vs)
  hands t n e rest = and_then t (load t (from t (stop t)) (look t n e)) rest
