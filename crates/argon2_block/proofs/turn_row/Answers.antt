-- `argon2_block::turn_row` meets its contract. The invariant: i registers are exchanged. Assumes nothing.
use Rattle.std.proofs.Common.{refl}
use Rattle.argon2_block.specs.Order.{turn_row}
use Rattle.argon2_block.proofs.Laws.Order.{turn_row_more}
use Rattle.argon2_block.proofs.turn_row.Goals as goal

pub loop-i-init : goal.loop-i-init
unfolding turn_row
loop-i-init c = refl

pub loop-i-preserved : goal.loop-i-preserved
loop-i-preserved c =
    let l = c.loop-i in
    let a = c.args in
    turn_row_more a.s.now a.n l.i l.invariant c.exchange.ensures
