-- `argon2_block::product` meets its contract. Assumes nothing.
use Rattle.argon2_block.proofs.Laws.Product.{product_lt}
use Rattle.std.proofs.Common.{◌*◌, rules}
use Rattle.argon2_block.proofs.product.Goals as goal

pub overflow_mul-result : goal.overflow_mul-result
overflow_mul-result c = record { fits = product_lt 32 (search rules) (search rules) }

pub returns : goal.returns
returns c = λ i. c.trunc.ensures.0 i * c.trunc-2.ensures.0 i
