-- `argon2_fill::block::put_over` meets its contract. The invariant: the first i words are put. Assumes nothing.
use mathlib.Core.Path.{◌≡◌, sym, ap, ◌∙◌}
use mathlib.Core.List.{List}
use Prim.Native.Nat.{ℕ, ◌<◌}
use native.Mathlib.Omega.{arith}
use lib.Bits.{bit_xor}
use lib.ListN.{length, take, get_or, length-set}
use Rattle.words.specs.Xor.{xors}
use Rattle.slices.proofs.Laws.Over.{over_nil}
use Rattle.argon2_fill.proofs.Laws.Blocks.{put_more, put_all, get_or_over_next, length_added, added_word}
use borrow.Author.Rules.{rules}
use Rattle.argon2_fill.proofs.block.put_over.Goals as goal

pub loop-i-init : goal.loop-i-init
loop-i-init c = (search rules, sym (over_nil c.args.out.now))

pub loop-i-preserved : goal.loop-i-preserved
loop-i-preserved c =
    let l = c.loop-i in
    let a = c.args in
    let h = c.requires in
    let z = a.z.now in
    let r = a.r.now in
    let d = a.out.now in
    let w : List ℕ = xors (xors z r) (take 128 d) in
    let n : length w ≡ 128 = length_added z r d h.1.0 h.1.1 h.0 in
    let k = h.0 in
    let t : l.i < 128 = omega arith in
    let o = get_or_over_next w d l.out l.i l.invariant.1 (omega arith) (omega arith) in (
      simp length-set l.invariant.0,
      put_more w d l.out l.i _ l.invariant.1 (omega arith) (omega arith)
          (ap (bit_xor (bit_xor (get_or z l.i 0) (get_or r l.i 0))) o
          ∙ added_word z r d l.i h.1.0 h.1.1 h.0 t),
    )

pub returns : goal.returns
returns c =
    let l = c.loop-i in
    let a = c.args in
    let h = c.requires in
    let d = a.out.now in
    let w : List ℕ = xors (xors a.z.now a.r.now) (take 128 d) in
    let n : length w ≡ 128 = length_added a.z.now a.r.now d h.1.0 h.1.1 h.0 in
    put_all w d l.out l.i l.invariant.1 (omega arith)
