-- `argon2_block::turn_row` meets its contract. The invariant: i registers are exchanged. Assumes nothing.
use Rattle.std.proofs.Common.{◌≡◌}
use Rattle.argon2_block.specs.Order.{turn_row}
use Rattle.argon2_block.proofs.turn_row.Given as goal

abbrev pub invariant-loop-i : goal.invariant-loop-i
invariant-loop-i l = l.s ≡ turn_row l.i l.initial.s l.n
