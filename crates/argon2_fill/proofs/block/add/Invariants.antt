-- `argon2_fill::block::add` meets its contract. The invariant: the first i words are added to. Assumes nothing.
use mathlib.Core.Path.{◌≡◌}
use lib.ListN.{length, take}
use Rattle.words.specs.Xor.{xors}
use Rattle.slices.specs.Over.{over}
use Rattle.argon2_fill.proofs.block.add.Given as goal

abbrev pub invariant-loop-i : goal.invariant-loop-i
invariant-loop-i l = (length l.r ≡ 128) × (l.r ≡ over (take l.i (xors l.z l.initial.r)) l.initial.r)
