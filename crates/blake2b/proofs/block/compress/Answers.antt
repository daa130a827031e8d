-- `blake2b::block::compress` meets its contract. Assumes nothing.
use Rattle.blake2b.proofs.Laws.Block.{compression_f_is}
use Rattle.blake2b.proofs.block.compress.Goals as goal

pub returns : goal.returns
returns c =
    let a = c.args in
    compression_f_is a.h a.s.now a.t a.f
    c.load.ensures c.working-v.ensures c.rounds.ensures c.joined.ensures
