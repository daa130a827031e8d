-- `argon2_fill::block::add` meets its contract. The invariant: the first i words are added to. Assumes nothing.
use mathlib.Core.Path.{◌≡◌, sym, ap, ◌∙◌}
use mathlib.Core.List.{List}
use Prim.Native.Nat.{ℕ, ◌<◌}
use native.Mathlib.Omega.{arith}
use lib.Bits.{bit_xor}
use lib.ListN.{length, get_or, length-set}
use Rattle.words.specs.Xor.{xors}
use Rattle.slices.proofs.Laws.Over.{over_nil, over_all}
use Rattle.argon2_fill.proofs.Laws.Blocks.{put_more, put_all, get_or_over_next, length_fresh, fresh_word}
use borrow.Author.Rules.{rules}
use Rattle.argon2_fill.proofs.block.add.Goals as goal

pub loop-i-init : goal.loop-i-init
loop-i-init c = (search rules, sym (over_nil c.args.r.now))

pub loop-i-preserved : goal.loop-i-preserved
loop-i-preserved c =
    let l = c.loop-i in
    let a = c.args in
    let h = c.requires in
    let z = a.z.now in
    let d = a.r.now in
    let n = length_fresh z d h.1 h.0 in
    let k = h.0 in
    let t : l.i < 128 = omega arith in
    let o = get_or_over_next (xors z d) d l.r l.i l.invariant.1 (omega arith) (omega arith) in (
      simp length-set l.invariant.0,
      put_more (xors z d) d l.r l.i _ l.invariant.1 (omega arith) (omega arith)
          (ap (bit_xor (get_or z l.i 0)) o ∙ fresh_word z d l.i h.1 h.0 t),
    )

pub returns : goal.returns
returns c =
    let l = c.loop-i in
    let a = c.args in
    let h = c.requires in
    let d = a.r.now in
    let w : List ℕ = xors a.z.now d in
    let n : length w ≡ 128 = length_fresh a.z.now d h.1 h.0 in
    let k = h.0 in
    put_all w d l.r l.i l.invariant.1 (omega arith) ∙ over_all w d (omega arith)
