-- `dictionary::table::compare_bytes` meets its contract. Assumes nothing.
-- The invariant: the bytes before i are the same.
use mathlib.Core.Path.{◌≡◌}
use lib.ListN.{take}
use Rattle.dictionary.proofs.table.compare_bytes.Given as goal

abbrev pub invariant-loop-i : goal.invariant-loop-i
invariant-loop-i l = take l.i l.a ≡ take l.i l.b
