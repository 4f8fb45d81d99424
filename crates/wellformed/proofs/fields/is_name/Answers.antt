-- The bytes that are left are tested as the whole name is, and none is left where the rest is 0.
use mathlib.Core.Path.{◌≡◌, refl, sym, ap, ◌∙◌}
use mathlib.Core.Bool.{Bool}
use Prim.Native.Nat.{ℕ}
use native.Mathlib.Omega.{arith}
use Rattle.ascii.specs.Bytes.{first, is_text_byte}
use Rattle.names.specs.Packing.{unpacked}
use Rattle.names.proofs.PackingTurns.{one_less}
use Rattle.wellformed.proofs.NameLaws.{bytes_on, bytes_fail, bytes_end, no_byte, named}
use Rattle.wellformed.proofs.fields.is_name.Goals as goal

-- what was tested is the first byte of what is left
tested : {b : ℕ} {t u : Bool} (rest : ℕ) → b ≡ first (unpacked rest) → t ≡ is_text_byte b → t ≡ u → is_text_byte (first (unpacked rest)) ≡ u
tested rest e f g = sym (f ∙ ap is_text_byte e) ∙ g

pub returns-then-name-eq0 : goal.returns-then-name-eq0
returns-then-name-eq0 c = sym (no_byte _ c.if-name-eq0.true)

pub loop-rest-init : goal.loop-rest-init
loop-rest-init c = refl

pub returns-then-not-is_text_byte : goal.returns-then-not-is_text_byte
returns-then-not-is_text_byte c =
    let a = c.args in
    let l = c.loop-rest in
    sym (named a.name c.if-name-eq0.false ∙ l.invariant ∙ bytes_fail l.rest c.loop-rest-test.true (tested l.rest c.first_byte.ensures c.is_text_byte.ensures c.if-not-is_text_byte.true))

pub loop-rest-smaller : goal.loop-rest-smaller
loop-rest-smaller c =
    omega (arith, one_less c.loop-rest.rest c.after_first-rest.result c.loop-rest-test.true c.after_first-rest.ensures)

pub loop-rest-preserved : goal.loop-rest-preserved
loop-rest-preserved c =
    let l = c.loop-rest in
    l.invariant ∙ bytes_on l.rest c.loop-rest-test.true c.after_first-rest.result c.after_first-rest.ensures (tested l.rest c.first_byte.ensures c.is_text_byte.ensures c.if-not-is_text_byte.false)

pub returns : goal.returns
returns c =
    let a = c.args in
    sym (named a.name c.if-name-eq0.false ∙ c.loop-rest.invariant ∙ bytes_end _ c.loop-rest-test.false)
