-- `chacha20::block::inner_block` meets its contract. Assumes nothing.
use Rattle.chacha20.proofs.Laws.Rounds.{inner_block_is}
use Rattle.chacha20.proofs.block.inner_block.Goals as goal

pub returns : goal.returns
returns c =
    inner_block_is c.args.s.now c.requires
    c.qround.ensures c.qround-2.ensures c.qround-3.ensures c.qround-4.ensures
    c.qround-5.ensures c.qround-6.ensures c.qround-7.ensures c.qround-8.ensures
