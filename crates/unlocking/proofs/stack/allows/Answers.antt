-- `unlocking::stack::allows` meets its contract. Assumes nothing.
use Rattle.explanations.specs.Sentences.{ascii}
use Rattle.unlocking.proofs.Laws.Stack.{allows_unlimited, allows-number}
use Rattle.unlocking.proofs.stack.allows.Goals as goal

pub returns-then-starts_with : goal.returns-then-starts_with
unfolding ascii
returns-then-starts_with c =
    let a = c.args in
    allows_unlimited a.bytes a.text.now c.behind.result.now c.unspaced-limit.result.now c.behind.ensures
    c.unspaced-limit.ensures _ c.starts_with.ensures.value c.if-starts_with.true

pub returns-else-starts_with : goal.returns-else-starts_with
unfolding ascii
returns-else-starts_with c =
    let a = c.args in
    allows-number a.bytes a.text.now c.behind.result.now c.unspaced-limit.result.now c.behind.ensures
    c.unspaced-limit.ensures _ _ c.starts_with.ensures.value c.if-starts_with.false c.reaches.ensures
