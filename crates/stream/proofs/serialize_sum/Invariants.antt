-- `stream::serialize_sum` meets its contract. The invariant: the first i sums are written. Assumes nothing.
use mathlib.Core.Path.{◌≡◌}
use Prim.Native.Nat.{◌*◌}
use lib.ListN.{length, take}
use Rattle.stream.specs.Words.{sum, serialize}
use Rattle.stream.proofs.serialize_sum.Given as goal

abbrev pub invariant-loop-i : goal.invariant-loop-i
invariant-loop-i l = (length l.out ≡ 64) × (take (l.i * 4) l.out ≡ serialize (take l.i (sum l.s l.t)))
