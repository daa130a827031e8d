-- `open_whole::survey::survey` meets its contract. The invariant: what is left of the pass answers what the whole pass
-- answers. A block has 36 bytes at least, so the number and the count stay below the place. Assumes nothing.
use mathlib.Core.Path.{◌≡◌}
use Prim.Native.Nat.{suc, ◌-◌, ◌≤◌}
use lib.ListN.{length}
use Rattle.open_whole.specs.Checks as checks
use Rattle.open_whole.proofs.survey.survey.Given as goal

abbrev pub invariant-loop-r : goal.invariant-loop-r
invariant-loop-r l =
    (l.number ≤ length l.f) × ((l.number ≤ l.at) × ((l.taken ≤ l.at)
    × (checks.survey (suc (length l.f) - l.number) l.base l.f l.number l.at l.taken ≡ checks.survey (suc (length l.f)) l.base l.f 0 l.p 0)))

abbrev pub decreases-loop-r : goal.decreases-loop-r
decreases-loop-r l = suc (length l.f) - l.number
