-- `unlocking::stack::unspaced` meets its contract. The invariant: what is left of the text has the same behind its
-- spaces. Assumes nothing.
use mathlib.Core.Path.{◌∙◌}
use native.Mathlib.Omega.{arith}
use Rattle.slices.proofs.Laws.Parts.{part-tail}
use Rattle.unlocking.proofs.Laws.Stack.{unspaced_stop, unspaced_more, unspaced_none}
use borrow.Author.Rules.{rules}
use Rattle.unlocking.proofs.stack.unspaced.Goals as goal

pub returns-then-x-ne32 : goal.returns-then-x-ne32
returns-then-x-ne32 c =
    part-tail c.loop-at.at c.args.s.now
    ∙ unspaced_stop c.args.s.now c.loop-at.at (search rules) c.if-x-ne32.true ∙ c.loop-at.invariant

pub loop-at-preserved : goal.loop-at-preserved
loop-at-preserved c =
    unspaced_more c.args.s.now c.loop-at.at (search rules) c.if-x-ne32.false ∙ c.loop-at.invariant

pub returns : goal.returns
returns c = unspaced_none c.args.s.now c.loop-at.at (omega arith) ∙ c.loop-at.invariant
