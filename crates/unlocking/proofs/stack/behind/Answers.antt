-- `unlocking::stack::behind` meets its contract. The invariant: what is left of the text has the same behind the word's
-- first place. Assumes nothing.
use mathlib.Core.Path.{◌∙◌}
use native.Mathlib.Omega.{arith}
use Rattle.slices.proofs.Laws.Parts.{part-tail}
use Rattle.unlocking.proofs.Laws.Stack.{behind_first, behind_more, behind_none}
use borrow.Author.Rules.{rules}
use Rattle.unlocking.proofs.stack.behind.Goals as goal

pub returns-in-Some : goal.returns-in-Some
returns-in-Some c =
    let a = c.args in
    let at = c.loop-at.at in
    let e = part-tail at a.s.now in
    let s = c.in-Some.ensures.cases in
    rw e at s.1 ∙ behind_first a.w.now a.s.now at (search rules) (rw e at s.0) ∙ c.loop-at.invariant

pub loop-at-preserved : goal.loop-at-preserved
loop-at-preserved c =
    let a = c.args in
    let at = c.loop-at.at in
    let e = part-tail at a.s.now in
    behind_more a.w.now a.s.now at (search rules) (rw e at c.in_default.ensures.cases) ∙ c.loop-at.invariant

pub returns : goal.returns
returns c =
    behind_none c.args.w.now c.args.s.now c.loop-at.at (omega arith) ∙ c.loop-at.invariant
