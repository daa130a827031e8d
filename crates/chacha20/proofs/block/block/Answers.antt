-- `chacha20::block::block` meets its contract. Assumes nothing.
use Rattle.chacha20.proofs.Laws.Block.{block_is}
use Rattle.chacha20.proofs.block.block.Goals as goal

pub returns : goal.returns
returns c =
    let a = c.args in
    block_is a.key a.counter a.nonce
    c.initial_state-initial.ensures c.rounds.ensures c.serialize_sum.ensures
