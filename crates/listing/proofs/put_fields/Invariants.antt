-- `listing::put_fields` meets its contract. The invariant: the lines written stand over the front, and the lines of the
-- fields from `at` on are left. Assumes nothing.
use Prim.Native.Nat.{◌-◌}
use lib.ListN.{length}
use Rattle.listing.proofs.Laws.Frames.{Laying}
use Rattle.listing.proofs.put_fields.Given as goal

abbrev pub invariant-loop : goal.invariant-loop
invariant-loop l = Laying l.s l.initial.out l.out l.to l.at (length l.s - l.counter)
