-- `fips180::block::load` meets its contract. Assumes nothing.
use Rattle.std.proofs.Common.{refl, arith}
use Rattle.std.proofs.Math.ListN.{length-set}
use Rattle.fips180.specs.Fips180.{block_words}
use Rattle.fips180.proofs.Laws.Numbers.{block_words_read}
use Rattle.fips180.proofs.block.load.Goals as goal

pub loop-i-init : goal.loop-i-init
unfolding block_words
loop-i-init g c = (refl, refl)

pub loop-i-preserved : goal.loop-i-preserved
loop-i-preserved g c =
    let l = c.loop-i in
    let n = g.W.Word.number in (
      simp length-set l.invariant.0,
      block_words_read n l.w g.W.Word.sha2 l.i c.word.result (omega arith) c.args.block.now l.invariant.1 c.word.ensures,
    )
