-- `states::arrays::put_words64` meets its contract. The invariant: the first i words are written. Assumes nothing.
use native.Mathlib.Omega.{arith}
use Rattle.states.proofs.Laws.Words.{word_bytes_none, word_bytes_more, word_bytes_all}
use Rattle.states.proofs.arrays.put_words64.Goals as goal

pub loop-i-init : goal.loop-i-init
loop-i-init c = word_bytes_none 8 c.args.w.now c.args.out.now c.args.at

pub loop-i-preserved : goal.loop-i-preserved
loop-i-preserved c =
    let l = c.loop-i in
    let a = c.args in
    word_bytes_more 8 a.w.now a.out.now l.out a.at l.i _ (omega arith) (omega arith) l.invariant c.bytes64.ensures
    c.put.ensures

pub returns : goal.returns
returns c =
    let l = c.loop-i in
    let a = c.args in
    word_bytes_all 8 a.w.now a.out.now l.out a.at l.i (omega arith) l.invariant
