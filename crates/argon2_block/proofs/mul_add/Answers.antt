-- `argon2_block::mul_add` meets its contract. Assumes nothing.
use Rattle.argon2_block.proofs.Laws.Permutation.{mul_add_is}
use Rattle.argon2_block.proofs.mul_add.Goals as goal

pub returns : goal.returns
returns c = mul_add_is c.args.x c.args.y _ _ c.product.ensures c.minus64.ensures
