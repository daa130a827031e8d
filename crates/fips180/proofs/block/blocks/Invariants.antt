-- `fips180::block::blocks` meets its contract. The invariant: hashing what is left gives what the whole gives. Assumes
-- nothing.
use Rattle.std.proofs.Common.{◌≡◌, map}
use Rattle.fips180.specs.Fips180.{hash_blocks, parse}
use Rattle.fips180.specs.Lent.{lending}
use Rattle.fips180.specs.Working.{words}
use Rattle.fips180.proofs.block.blocks.Given as goal

abbrev pub invariant-loop-block : goal.invariant-loop-block
invariant-loop-block g l =
    let n = g.W.Word.number in
    let p = lending (map n l.k) g.W.Word.sha2 in
    (l.block-iterator.size ≡ g.W.Word.BLOCK)
    × (hash_blocks p (words n l.c) (parse p l.block-iterator.rest.now) ≡ hash_blocks p (words n l.initial.c) (parse p l.s))
