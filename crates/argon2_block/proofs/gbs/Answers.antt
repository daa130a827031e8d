-- `argon2_block::gbs` meets its contract. The invariant: t times four words are done. Assumes nothing.
use Rattle.std.proofs.Common.{refl}
use Rattle.argon2_block.specs.Order.{gbs}
use Rattle.argon2_block.proofs.Laws.Order.{gbs_more}
use Rattle.argon2_block.proofs.gbs.Goals as goal

pub loop-t-init : goal.loop-t-init
unfolding gbs
loop-t-init c = refl

pub loop-t-preserved : goal.loop-t-preserved
loop-t-preserved c =
    let l = c.loop-t in
    let a = c.args in
    gbs_more a.s.now a.i a.j a.k a.l l.t l.invariant c.gb_on.ensures
