-- `blake2b::block::load` meets its contract. The invariant: the first i words are the block's. Assumes nothing.
use native.Mathlib.Omega.{arith}
use lib.ListN.{length-set}
use Rattle.blake2b.proofs.Laws.Block.{block_words_none, block_words_more, block_words_all}
use borrow.Author.Rules.{rules}
use Rattle.blake2b.proofs.block.load.Goals as goal

pub loop-i-init : goal.loop-i-init
loop-i-init c = (search rules, block_words_none c.args.s.now c.args.m.now)

pub loop-i-preserved : goal.loop-i-preserved
loop-i-preserved c =
    let l = c.loop-i in (
      simp length-set (search rules),
      block_words_more c.args.s.now l.m l.i c.word_at.result (omega arith) l.invariant.1 c.word_at.ensures,
    )

pub returns : goal.returns
returns c =
    let l = c.loop-i in
    block_words_all c.args.s.now l.m l.i 16 (omega arith) l.invariant.0 l.invariant.1
