-- `opener::held::joined_at` meets its contract. Assumes nothing.
use Rattle.opener.proofs.Laws.Runs.{joined-held, joined_data}
use borrow.Author.Rules.{rules}
use Rattle.opener.proofs.held.joined_at.Goals as goal

pub returns-then-j-h : goal.returns-then-j-h
returns-then-j-h c =
    let a = c.args in
    joined-held a.held a.d.now a.h a.j (search rules) (search rules)

pub returns : goal.returns
returns c =
    let a = c.args in
    joined_data a.held a.d.now a.h a.j (search rules) (search rules)
