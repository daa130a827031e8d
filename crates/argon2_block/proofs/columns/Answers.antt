-- `argon2_block::columns` meets its contract. Assumes nothing.
use Rattle.argon2_block.proofs.Laws.Order.{columns_is}
use Rattle.argon2_block.proofs.columns.Goals as goal

pub returns : goal.returns
returns c =
    λ n. columns_is c.args.s.now n c.gbs.ensures c.cycles.ensures
    c.cycles-2.ensures c.gbs-2.ensures c.gbs-3.ensures c.cycles-3.ensures c.cycles-4.ensures
