-- `fips180::block::extend` meets its contract. Assumes nothing.
use Rattle.std.proofs.Common.{map, take, refl, arith}
use Rattle.std.proofs.Math.ListN.{length-set}
use Rattle.fips180.specs.Fips180.{grow}
use Rattle.fips180.proofs.Laws.Numbers.{grow_next}
use Rattle.fips180.proofs.block.extend.Goals as goal

pub loop-i-init : goal.loop-i-init
unfolding grow
loop-i-init g c = (omega arith, refl, refl)

pub loop-i-preserved : goal.loop-i-preserved
loop-i-preserved g c =
    let l = c.loop-i in
    let n = g.W.Word.number in (
      omega arith,
      simp length-set l.invariant.1,
      grow_next n l.w g.W.Word.sha2 l.i c.next_word.result (omega arith) (take 16 (map n c.args.w.now)) _ _ _ _
          l.invariant.0 l.invariant.2 c.index-w-i.is c.index-w-i-in-loop-i.is c.index-w-i-in-loop-i-2.is
          c.index-w-i-in-loop-i-3.is c.next_word.ensures,
    )
