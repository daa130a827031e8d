-- `slices::put` meets its contract. Assumes nothing.
use mathlib.Core.Path.{refl, sym}
use Prim.Native.Nat.{◌-◌, ◌≤◌}
use native.Mathlib.Omega.{arith}
use lib.ListN.{length}
use Rattle.slices.proofs.Laws.Put.{put_at_past, put_at-tail}
use Rattle.slices.proofs.put.Goals as goal

pub returns-then-at-out : goal.returns-then-at-out
returns-then-at-out c =
    let d = c.args.out.now in
    let l : c.args.at ≤ length d = omega arith in
    put_at-tail c.args.s.now d _ c.args.at (length d - c.args.at) l refl c.copy.ensures

pub returns-else-at-out : goal.returns-else-at-out
returns-else-at-out c =
    sym (put_at_past c.args.at c.args.s.now c.args.out.now c.if-at-out.false)
