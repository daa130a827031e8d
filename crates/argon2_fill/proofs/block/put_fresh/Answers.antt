-- `argon2_fill::block::put_fresh` meets its contract. The invariant: the first i words are put. Assumes nothing.
use mathlib.Core.Path.{sym}
use Prim.Native.Nat.{◌<◌}
use native.Mathlib.Omega.{arith}
use lib.ListN.{length-set}
use Rattle.words.specs.Xor.{xors}
use Rattle.slices.proofs.Laws.Over.{over_nil}
use Rattle.argon2_fill.proofs.Laws.Blocks.{put_more, put_all, length_fresh, fresh_word}
use borrow.Author.Rules.{rules}
use Rattle.argon2_fill.proofs.block.put_fresh.Goals as goal

pub loop-i-init : goal.loop-i-init
loop-i-init c = (search rules, sym (over_nil c.args.out.now))

pub loop-i-preserved : goal.loop-i-preserved
loop-i-preserved c =
    let l = c.loop-i in
    let a = c.args in
    let h = c.requires in
    let z = a.z.now in
    let r = a.r.now in
    let d = a.out.now in
    let n = length_fresh z r h.1.0 h.1.1 in
    let k = h.0 in
    let t : l.i < 128 = omega arith in (
      simp length-set l.invariant.0,
      put_more (xors z r) d l.out l.i _ l.invariant.1 (omega arith) (omega arith)
          (fresh_word z r l.i h.1.0 h.1.1 t),
    )

pub returns : goal.returns
returns c =
    let l = c.loop-i in
    let a = c.args in
    let h = c.requires in
    let n = length_fresh a.z.now a.r.now h.1.0 h.1.1 in
    put_all (xors a.z.now a.r.now) a.out.now l.out l.i l.invariant.1 (omega arith)
