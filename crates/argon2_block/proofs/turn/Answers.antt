-- `argon2_block::turn` meets its contract. The invariant: n rows and columns are exchanged. Assumes nothing.
use Rattle.std.proofs.Common.{refl}
use Rattle.argon2_block.specs.Order.{turn}
use Rattle.argon2_block.proofs.Laws.Order.{turn_more}
use Rattle.argon2_block.proofs.turn.Goals as goal

pub loop-n-init : goal.loop-n-init
unfolding turn
loop-n-init c = refl

pub loop-n-preserved : goal.loop-n-preserved
loop-n-preserved c =
    let l = c.loop-n in
    let a = c.args in
    turn_more a.s.now l.n l.invariant c.turn_row.ensures
