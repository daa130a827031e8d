-- `exports::derivation::join` meets its contract. Assumes nothing.
use Rattle.exports.proofs.Laws.{join_is}
use borrow.Author.Rules.{rules}
use Rattle.exports.proofs.derivation.join.Goals as goal

pub returns : goal.returns
returns c =
    let a = c.args in
    join_is a.left a.right _ _ (search rules) (search rules) c.put.ensures c.put-2.ensures
