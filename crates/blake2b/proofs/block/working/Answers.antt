-- `blake2b::block::working` meets its contract. Assumes nothing.
use Rattle.blake2b.proofs.Laws.Block.{working_is}
use borrow.Author.Rules.{rules}
use Rattle.blake2b.proofs.block.working.Goals as goal

pub returns : goal.returns
returns c =
    let a = c.args in
    working_is a.h a.t a.f (search rules) c.flagged.ensures
