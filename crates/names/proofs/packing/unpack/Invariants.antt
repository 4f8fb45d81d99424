use mathlib.Core.Path.{◌≡◌}
use lib.ListN.{length}
use Rattle.names.specs.Packing.{unpacked, cell_of}
use Rattle.names.proofs.CellTurns.{filling}
use Rattle.names.proofs.packing.unpack.Given as goal

abbrev pub invariant-loop-byte : goal.invariant-loop-byte
invariant-loop-byte l = filling (length l.initial.cell) l.cell l.byte-index (unpacked l.rest) ≡ cell_of (length l.initial.cell) (unpacked l.name)
