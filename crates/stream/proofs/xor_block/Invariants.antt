-- `stream::xor_block` meets its contract. The invariant: the block's first i bytes are applied. Assumes nothing.
use mathlib.Core.Path.{◌≡◌}
use lib.ListN.{take, drop}
use Rattle.words.specs.Xor.{xors}
use Rattle.slices.specs.Over.{over}
use Rattle.stream.proofs.xor_block.Given as goal

abbrev pub invariant-loop-i : goal.invariant-loop-i
invariant-loop-i l = l.out ≡ over (take l.i (xors l.initial.out (drop l.from l.block))) l.initial.out
