-- `chacha20::block::rounds` meets its contract. The invariant: so many inner blocks are done. Assumes nothing.
use mathlib.Core.Path.{◌≡◌}
use lib.ListN.{length}
use Rattle.chacha20.specs.Rfc8439.{inner_blocks}
use Rattle.chacha20.proofs.block.rounds.Given as goal

abbrev pub invariant-loop : goal.invariant-loop
invariant-loop l = (length l.s ≡ 16) × (l.s ≡ inner_blocks l.counter l.initial.s)
