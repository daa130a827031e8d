-- `fields::put` meets its contract. Assumes nothing.
use mathlib.Core.Path.{sym}
use Prim.Native.Nat.{◌≤◌}
use native.Mathlib.Omega.{arith}
use lib.ListN.{length}
use Rattle.slices.proofs.Laws.Put.{put_at_past}
use Rattle.fields.specs.Fields.{field_bytes}
use Rattle.fields.proofs.Laws.Put.{put_field}
use Rattle.fields.proofs.put.Goals as goal

pub returns-then-at-out : goal.returns-then-at-out
returns-then-at-out c =
    let d = c.args.out.now in
    let l : c.args.at ≤ length d = omega arith in
    put_field c.args.id c.args.at c.bytes64-size.result c.args.value.now d _ _ c.bytes64-size.ensures l
    c.put.ensures c.put-then-at-out.ensures

pub returns-else-at-out : goal.returns-else-at-out
returns-else-at-out c =
    sym (put_at_past c.args.at (field_bytes c.args.id c.args.value.now) c.args.out.now c.if-at-out.false)
