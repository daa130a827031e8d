-- `aes_tables::inverse` meets its contract. The invariant: each number below i stands at its value. Assumes nothing.
use Rattle.aes_tables.proofs.Laws.Entries.{Placed}
use Rattle.aes_tables.proofs.inverse.Given as goal

abbrev pub invariant-loop-i : goal.invariant-loop-i
invariant-loop-i l = Placed l.t l.i
