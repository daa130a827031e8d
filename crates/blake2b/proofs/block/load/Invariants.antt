-- `blake2b::block::load` meets its contract. The invariant: the first i words are the block's. Assumes nothing.
use mathlib.Core.Path.{◌≡◌}
use lib.ListN.{length, take}
use Rattle.blake2b.specs.Rfc7693.{block_words}
use Rattle.blake2b.proofs.block.load.Given as goal

abbrev pub invariant-loop-i : goal.invariant-loop-i
invariant-loop-i l = (length l.m ≡ 16) × (take l.i l.m ≡ block_words l.i l.s)
