-- `blake2b::block::flagged` meets its contract. Assumes nothing.
use Rattle.fips180.specs.Fips180.Constants.{iv512}
use borrow.Author.Rules.{rules}
use Rattle.blake2b.proofs.block.flagged.Goals as goal

pub returns-then-f : goal.returns-then-f
unfolding iv512
returns-then-f c = search rules

pub returns : goal.returns
unfolding iv512
returns c = search rules
