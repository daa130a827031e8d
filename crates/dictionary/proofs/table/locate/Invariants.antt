-- `dictionary::table::locate` meets its contract. Assumes nothing.
-- The invariant: the names before `low` are lesser, those from `high` on greater.
use Prim.Native.Nat.{◌-◌, ◌≤◌}
use lib.ListN.{take, drop}
use Rattle.dictionary.specs.Order.{key_at, held, Below, Above}
use Rattle.dictionary.proofs.table.locate.Given as goal

abbrev pub invariant-loop-low : goal.invariant-loop-low
invariant-loop-low l =
    (l.low ≤ l.high) × (l.high ≤ l.n) × Below (key_at l.s l.at) (take l.low (held l.s l.base l.n l.t))
    × Above (key_at l.s l.at) (drop l.high (held l.s l.base l.n l.t))

abbrev pub decreases-loop-low : goal.decreases-loop-low
decreases-loop-low l = l.high - l.low
