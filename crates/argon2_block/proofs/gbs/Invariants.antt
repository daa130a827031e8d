-- `argon2_block::gbs` meets its contract. The invariant: t times four words are done. Assumes nothing.
use Rattle.std.proofs.Common.{◌≡◌}
use Rattle.argon2_block.specs.Order.{gbs}
use Rattle.argon2_block.proofs.gbs.Given as goal

abbrev pub invariant-loop-t : goal.invariant-loop-t
invariant-loop-t l = l.s ≡ gbs l.t l.initial.s l.i l.j l.k l.l
