-- `states::arrays::read_words64` meets its contract. The invariant: the first i words are read. Assumes nothing.
use mathlib.Core.Path.{refl}
use native.Mathlib.Omega.{arith}
use lib.ListN.{length}
use Rattle.states.specs.Words.{words_at}
use Rattle.states.proofs.Laws.Words.{words_at_more, words_at_all}
use borrow.Author.Rules.{rules}
use Rattle.states.proofs.arrays.read_words64.Goals as goal

pub loop-i-init : goal.loop-i-init
unfolding words_at
loop-i-init c = refl

pub loop-i-preserved : goal.loop-i-preserved
loop-i-preserved c =
    let l = c.loop-i in
    words_at_more 8 c.args.s.now l.w c.args.at l.i _ (omega arith) l.invariant c.u64_at.ensures

pub returns : goal.returns
returns c =
    let l = c.loop-i in
    let a = c.args in
    words_at_all 8 a.s.now l.w a.at l.i (length a.w.now) (omega arith) (search rules) l.invariant
