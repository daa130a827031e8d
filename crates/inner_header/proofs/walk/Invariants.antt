-- `inner_header::walk` meets its contract. The invariant: what is kept is that of some fields, and the walk from here
-- with them is the whole walk. Assumes nothing.
use mathlib.Core.Path.{◌≡◌}
use Prim.Native.Nat.{◌-◌, ◌≤◌}
use lib.ListN.{length}
use Rattle.inner_header.specs.InnerHeader.{Fields, no_fields, walk}
use Rattle.inner_header.specs.Tally.{tally_of}
use Rattle.inner_header.proofs.walk.Given as goal

abbrev pub invariant-loop : goal.invariant-loop
invariant-loop l =
    (f : Fields) × (l.t ≡ tally_of l.index f)
    × (walk (length l.s - l.counter) f l.s l.at ≡ walk (length l.s) no_fields l.s 0)
    × (l.t.attachments ≤ l.counter)
