-- `salsa20::Salsa20::apply` meets its contract. The invariant: the stream is applied to the first `done` bytes.
-- Assumes nothing.
use Prim.Native.Nat.{◌-◌}
use lib.ListN.{length}
use Rattle.stream.proofs.Laws.Turns.{Applied}
use Rattle.salsa20.specs.Salsa20.{blocks}
use Rattle.salsa20.proofs.Salsa20.apply.Given as goal

abbrev pub invariant-loop-done : goal.invariant-loop-done
invariant-loop-done l = Applied (blocks l.key l.nonce) l.at l.initial.out l.out l.done

abbrev pub decreases-loop-done : goal.decreases-loop-done
decreases-loop-done l = length l.initial.out - l.done
