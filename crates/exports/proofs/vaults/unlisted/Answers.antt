-- `exports::vaults::unlisted` meets its contract. Assumes nothing.
use borrow.Author.Tests.{le-leb, lt-leb}
use Rattle.exports.proofs.vaults.unlisted.Goals as goal

pub returns-then-minor-gt1 : goal.returns-then-minor-gt1
returns-then-minor-gt1 c = rw (lt-leb c.args.minor 1 c.if-minor-gt1.true) c.number.ensures

pub returns : goal.returns
returns c = rw (le-leb c.args.minor 1 c.if-minor-gt1.false) c.number-2.ensures
