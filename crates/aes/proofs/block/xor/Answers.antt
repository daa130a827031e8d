-- `aes::block::xor` meets its contract. Assumes nothing.
use Rattle.aes.proofs.Laws.Columns.{columns-xor}
use Rattle.aes.proofs.block.xor.Goals as goal

pub returns : goal.returns
returns c =
    let a = c.args in
    columns-xor a.x.a a.x.b a.x.c a.x.d a.y.a a.y.b a.y.c a.y.d
