-- `pkcs7::pad` meets its contract. Assumes nothing.
use mathlib.Core.Path.{refl, sym}
use Prim.Native.Nat.{◌≤◌}
use native.Mathlib.Omega.{arith}
use lib.ListN.{replicate}
use lib.Seq.{length-take-le}
use Rattle.pkcs7.proofs.Laws.Writing.{padded_short, padded_behind}
use Rattle.pkcs7.proofs.pad.Goals as goal

pub returns-then-out-n : goal.returns-then-out-n
returns-then-out-n c = padded_short c.args.out.now c.args.n c.if-out-n.true

pub slice_bounds-copy-end-2 : goal.slice_bounds-copy-end-2
slice_bounds-copy-end-2 c =
    let p = c.padding_length-p.result in
    let h : p ≤ 16 = omega arith in
    sym (length-take-le p (replicate 16 p) h)

pub returns : goal.returns
returns c =
    let a = c.args in
    let p = c.padding_length-p in
    let fits = c.if-out-n.false in
    padded_behind a.out.now _ a.n _ p.result fits refl p.ensures c.copy.ensures
