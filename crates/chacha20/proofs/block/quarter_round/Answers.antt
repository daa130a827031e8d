-- `chacha20::block::quarter_round` meets its contract. Assumes nothing.
use Rattle.chacha20.proofs.Laws.Rounds.{quarter_round_is}
use Rattle.chacha20.proofs.block.quarter_round.Goals as goal

pub returns : goal.returns
returns c =
    let a = c.args in
    quarter_round_is a.a a.b a.c a.d
    c.plus32-a1.ensures c.rotate_left-d1.ensures c.plus32-c1.ensures c.rotate_left-b1.ensures
    c.plus32-a2.ensures c.rotate_left-d2.ensures c.plus32-c2.ensures c.rotate_left-b2.ensures
