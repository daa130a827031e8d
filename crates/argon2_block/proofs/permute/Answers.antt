-- `argon2_block::permute` meets its contract. Assumes nothing.
use Rattle.argon2_block.proofs.Laws.Order.{permuted_is}
use Rattle.argon2_block.proofs.permute.Goals as goal

pub returns : goal.returns
returns c =
    λ n. permuted_is c.args.z.now n c.turn.ensures c.columns.ensures
    c.turn-2.ensures c.columns-2.ensures
