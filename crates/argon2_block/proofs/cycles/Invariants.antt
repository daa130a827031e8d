-- `argon2_block::cycles` meets its contract. The invariant: t times four words are moved. Assumes nothing.
use Rattle.std.proofs.Common.{◌≡◌}
use Rattle.argon2_block.specs.Order.{cycles}
use Rattle.argon2_block.proofs.cycles.Given as goal

abbrev pub invariant-loop-t : goal.invariant-loop-t
invariant-loop-t l = l.s ≡ cycles l.t l.initial.s l.i l.j l.k l.l
