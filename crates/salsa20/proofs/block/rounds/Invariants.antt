-- `salsa20::block::rounds` meets its contract. The invariant: so many doublerounds are done. Assumes nothing.
use mathlib.Core.Path.{◌≡◌}
use lib.ListN.{length}
use Rattle.salsa20.specs.Salsa20.{doublerounds}
use Rattle.salsa20.proofs.block.rounds.Given as goal

abbrev pub invariant-loop : goal.invariant-loop
invariant-loop l = (length l.s ≡ 16) × (l.s ≡ doublerounds l.counter l.initial.s)
