-- Four bytes copied to a place are put there.
use mathlib.Core.Path.{refl, sym, ap, ◌∙◌}
use Prim.Native.Nat.{◌+◌, ◌-◌}
use native.Mathlib.Omega.{arith}
use lib.ListN.{take}
use lib.Seq.{sets-eq}
use Rattle.std.proofs.lemmas.Slice.{put_mid-paste}
use Rattle.results.specs.Results.{little_endian}
use Rattle.results.proofs.results.put_number.Goals as goal

pub returns : goal.returns
returns c =
    let r = c.args.res.now in
    let at = c.args.at in
    let four = c.copy_from_slice.ensures.after ∙ ap (take 4) c.to_le_bytes-bytes.ensures in
    put_mid-paste at (at + 4 - at) r c.copy_from_slice.new.self (little_endian c.args.n) 4 four (omega arith) refl
    ∙ sym (sets-eq (little_endian c.args.n) r at c.requires)
