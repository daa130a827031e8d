-- `argon2_block::cycles` meets its contract. The invariant: t times four words are moved. Assumes nothing.
use Rattle.std.proofs.Common.{refl}
use Rattle.argon2_block.specs.Order.{cycles}
use Rattle.argon2_block.proofs.Laws.Order.{cycles_more}
use Rattle.argon2_block.proofs.cycles.Goals as goal

pub loop-t-init : goal.loop-t-init
unfolding cycles
loop-t-init c = refl

pub loop-t-preserved : goal.loop-t-preserved
loop-t-preserved c =
    let l = c.loop-t in
    let a = c.args in
    cycles_more a.s.now a.i a.j a.k a.l l.t l.invariant c.cycle.ensures
