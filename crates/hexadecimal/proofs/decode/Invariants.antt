-- `hexadecimal::decode` meets its contract. The invariant: the bytes of the first i pairs of digits stand over the front.
-- Assumes nothing.
use mathlib.Core.Path.{◌≡◌}
use lib.ListN.{take}
use Rattle.slices.specs.Over.{over}
use Rattle.hexadecimal.specs.Rfc4648.{decode}
use Rattle.hexadecimal.proofs.decode.Given as goal

abbrev pub invariant-loop-i : goal.invariant-loop-i
invariant-loop-i l = l.out ≡ over (take l.i (decode l.s)) l.initial.out
