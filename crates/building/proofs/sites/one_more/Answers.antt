-- One more is counted up to the greatest number that there is.
use mathlib.Core.Path.{◌≡◌, refl, sym, ◌∙◌}
use mathlib.Core.Bool.{Bool, true, false}
use Prim.Native.Nat.{ℕ, suc, ◌+◌, ◌^◌, ◌<◌, min}
use native.Mathlib.Decide.{dec_lt}
use native.Mathlib.Omega.{arith}
use mir.Val.{bool_byte}
use Rattle.building.specs.Sites.{one_more}
use Rattle.building.proofs.CountLaws.{none_more, greatest, counts_up}
use Rattle.building.proofs.sites.one_more.Goals as goal

counted : (more : Bool) (n r : ℕ) → n < 2 ^ 64 → r ≡ min (n + bool_byte more) 18446744073709551615 → r ≡ one_more more n
counted false n r h e = let s : r ≡ n = omega (arith, e, h) in s ∙ sym (none_more n false refl)
counted true n r h e = go (dec_lt n 18446744073709551615)
  where
    go : Dec (n < 18446744073709551615) → r ≡ one_more true n
    go (yes l) = let s : r ≡ suc n = omega (arith, e, l) in s ∙ sym (counts_up n true refl l)
    go (no l) = let s : r ≡ n = omega (arith, e, h, l) in s ∙ sym (greatest n true (omega arith))

pub returns : goal.returns
returns c = counted c.args.more c.args.n c.saturating_add.result c.ranges.n.fits c.saturating_add.ensures
