-- `listing::count_frames` meets its contract. The invariant: those counted, with those left, are all.
-- Assumes nothing.
use Prim.Native.Nat.{◌-◌}
use lib.ListN.{length}
use Rattle.listing.proofs.Laws.Frames.{Counted}
use Rattle.listing.proofs.count_frames.Given as goal

abbrev pub invariant-loop : goal.invariant-loop
invariant-loop l = Counted l.s l.n l.at (length l.s - l.counter)
