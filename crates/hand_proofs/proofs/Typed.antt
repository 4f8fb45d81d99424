-- A machine value has its MIR type, which storing it into a local asks.
--     typed            of a slice, where its length fits.        count_typed      of a `usize`, where it fits.        unit_typed       of what a function returns that returns nothing
-- Assumes nothing.
use mathlib.Core.Path.{◌≡◌, sym, subst}
use Prim.Native.Nat.{ℕ, ◌<◌, ◌^◌}
use lib.Dec.{T as Holds}
use mir.Syntax.{w64, ty_unit}
use mir.Val.{Val, WT, Fits, has_ty, vunit}

pub typed : {n : ℕ} → n < 2 ^ 64 → Unit {0} × (Unit {0} × (Fits w64 n × Unit {0}))
typed fits = (tt, (tt, (record { fits = fits }, tt)))

pub count_typed : {n : ℕ} → n < 2 ^ 64 → Unit {0} × Fits w64 n
count_typed fits = (tt, record { fits = fits })

pub unit_typed : {v : Val} → v ≡ vunit → Holds (has_ty ty_unit v) × WT v
unit_typed e = subst (λ (u : Val). Holds (has_ty ty_unit u) × WT u) (sym e) (tt, tt)
