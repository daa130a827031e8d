-- `salsa20::block::qround` meets its contract. Assumes nothing.
use Rattle.salsa20.specs.State.{four}
use Rattle.salsa20.proofs.Laws.Rounds.{qround_is}
use Rattle.salsa20.proofs.block.qround.Goals as goal

pub returns : goal.returns
returns c =
    let a = c.args in
    let q = c.quarterround-q in
    qround_is a.s.now a.i a.j a.k a.l (four q.result) q.ensures
