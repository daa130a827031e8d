-- `blake2b::block::joined` meets its contract. Assumes nothing.
use Rattle.blake2b.proofs.Laws.Block.{joined_is}
use borrow.Author.Rules.{rules}
use Rattle.blake2b.proofs.block.joined.Goals as goal

pub returns : goal.returns
returns c = joined_is c.args.h c.args.v (search rules) (search rules)
