-- `stream::xor_block` meets its contract. The invariant: the block's first i bytes are applied. Assumes nothing.
use mathlib.Core.Path.{◌≡◌, sym, ap, ◌∙◌}
use Prim.Native.Nat.{◌-◌, ◌<◌, min}
use native.Mathlib.Omega.{arith}
use lib.ListN.{length}
use Rattle.slices.proofs.Laws.Over.{over_nil}
use Rattle.stream.proofs.Laws.Turns.{xors_more, xors_all}
use borrow.Author.Rules.{rules}
use Rattle.stream.proofs.xor_block.Goals as goal

pub loop-i-init : goal.loop-i-init
loop-i-init c = sym (over_nil c.args.out.now)

pub loop-i-preserved : goal.loop-i-preserved
loop-i-preserved c =
    let l = c.loop-i in
    let a = c.args in
    let n : c.min-n.result ≡ min (length a.out.now) (64 - a.from) =
    c.min-n.ensures ∙ ap (min (length a.out.now)) c.saturating_sub.ensures in
    let h : l.i < min (length a.out.now) (64 - a.from) = omega arith in
    xors_more a.out.now a.block l.out a.from l.i (search rules) h l.invariant

pub returns : goal.returns
returns c =
    let l = c.loop-i in
    let a = c.args in
    let n : c.min-n.result ≡ min (length a.out.now) (64 - a.from) =
    c.min-n.ensures ∙ ap (min (length a.out.now)) c.saturating_sub.ensures in
    let e : l.i ≡ min (length a.out.now) (64 - a.from) = omega arith in
    record {
      value = n;
      out_after = l.invariant ∙ xors_all a.out.now a.block a.from l.i (search rules) e;
    }
