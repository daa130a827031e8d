-- `chacha20::block::qround` meets its contract. Assumes nothing.
use Rattle.chacha20.specs.State.{four}
use Rattle.chacha20.proofs.Laws.Rounds.{qround_is}
use Rattle.chacha20.proofs.block.qround.Goals as goal

pub returns : goal.returns
returns c =
    let a = c.args in
    let q = c.quarter_round-q in
    qround_is a.s.now a.x a.y a.z a.w (four q.result) q.ensures
