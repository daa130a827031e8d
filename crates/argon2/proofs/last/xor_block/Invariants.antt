-- `argon2::last::xor_block` meets its contract. The invariant: the first i words are added to. Assumes nothing.
use mathlib.Core.Path.{◌≡◌}
use lib.ListN.{length, take}
use Rattle.words.specs.Xor.{xors}
use Rattle.slices.specs.Over.{over}
use Rattle.argon2.proofs.last.xor_block.Given as goal

abbrev pub invariant-loop-i : goal.invariant-loop-i
invariant-loop-i l = (length l.c ≡ 128) × (l.c ≡ over (take l.i (xors l.initial.c (take 128 l.s))) l.initial.c)
