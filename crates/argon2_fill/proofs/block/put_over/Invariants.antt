-- `argon2_fill::block::put_over` meets its contract. The invariant: the first i words are put. Assumes nothing.
use mathlib.Core.Path.{◌≡◌}
use lib.ListN.{length, take}
use Rattle.words.specs.Xor.{xors}
use Rattle.slices.specs.Over.{over}
use Rattle.argon2_fill.proofs.block.put_over.Given as goal

abbrev pub invariant-loop-i : goal.invariant-loop-i
invariant-loop-i l =
    (length l.out ≡ length l.initial.out) × (l.out ≡ over (take l.i (xors (xors l.z l.r) (take 128 l.initial.out))) l.initial.out)
