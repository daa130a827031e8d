-- `argon2_block::turn` meets its contract. The invariant: n rows and columns are exchanged. Assumes nothing.
use Rattle.std.proofs.Common.{◌≡◌}
use Rattle.argon2_block.specs.Order.{turn}
use Rattle.argon2_block.proofs.turn.Given as goal

abbrev pub invariant-loop-n : goal.invariant-loop-n
invariant-loop-n l = l.s ≡ turn l.n l.initial.s
