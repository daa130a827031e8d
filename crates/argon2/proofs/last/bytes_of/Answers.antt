-- `argon2::last::bytes_of` meets its contract. The invariant: the bytes of the first i words stand. Assumes nothing.
use mathlib.Core.Path.{◌≡◌, ap, ◌∙◌}
use Prim.Native.Nat.{◌*◌}
use native.Mathlib.Omega.{arith}
use lib.ListN.{length}
use Rattle.slices.proofs.Laws.Put.{length-put_at}
use Rattle.slices.proofs.Laws.Zeros.{zeros}
use Rattle.blake2b.proofs.Laws.Block.{serialize_none, serialize_more, serialize_all}
use borrow.Author.Rules.{rules}
use Rattle.argon2.proofs.last.bytes_of.Goals as goal

pub loop-i-init : goal.loop-i-init
loop-i-init c = (search rules, serialize_none c.args.c (zeros 1024))

pub loop-i-preserved : goal.loop-i-preserved
loop-i-preserved c =
    let l = c.loop-i in
    let w = c.args.c in
    let b = c.bytes64.result in
    let long : length w ≡ 128 = search rules in
    let eight : length b ≡ 8 = search rules in
    let e = c.put.ensures in (
      ap length e ∙ length-put_at (l.i * 8) b l.out ∙ l.invariant.0,
      serialize_more w l.out b _ l.i (omega arith) (omega arith) l.invariant.1 c.bytes64.ensures e,
    )

pub returns : goal.returns
returns c =
    let l = c.loop-i in
    let w = c.args.c in
    let long : length w ≡ 128 = search rules in
    serialize_all w l.out l.i 1024 (omega arith) (omega arith) (omega arith) l.invariant.1
