-- `fips180::block::load` meets its contract. The invariant: the first i words are the block's. Assumes nothing.
use Rattle.std.proofs.Common.{◌≡◌, length, map, take}
use Rattle.fips180.specs.Fips180.{block_words}
use Rattle.fips180.proofs.block.load.Given as goal

abbrev pub invariant-loop-i : goal.invariant-loop-i
invariant-loop-i g l =
    (length l.w ≡ length l.initial.w)
    × (take l.i (map g.W.Word.number l.w) ≡ block_words g.W.Word.sha2 l.i l.block)
