-- `dictionary::table::insert` meets its contract. Assumes nothing.
-- The invariant: what is before i is as it was, and the rest moved one up.
use Prim.Native.Nat.{◌≤◌}
use Rattle.dictionary.proofs.Laws.Insert.{Shifted}
use Rattle.dictionary.proofs.table.insert.Given as goal

abbrev pub invariant-loop-i : goal.invariant-loop-i
invariant-loop-i l = Shifted l.initial.t l.t l.n l.i × (l.j ≤ l.i)
