-- `blake2b::mixing::round` meets its contract. Assumes nothing.
use Rattle.blake2b.proofs.Laws.Mixing.{round_on_is}
use Rattle.blake2b.proofs.mixing.round.Goals as goal

pub returns : goal.returns
returns c =
    let a = c.args in
    round_on_is a.m.now a.row a.v.now
    c.g.ensures c.g-2.ensures c.g-3.ensures c.g-4.ensures
    c.g-5.ensures c.g-6.ensures c.g-7.ensures c.g-8.ensures
