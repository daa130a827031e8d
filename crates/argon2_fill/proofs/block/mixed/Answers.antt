-- `argon2_fill::block::mixed` meets its contract. The invariant: the first i words are made. Assumes nothing.
use mathlib.Core.Path.{◌≡◌, sym, ◌∙◌}
use mathlib.Core.List.{List}
use Prim.Native.Nat.{ℕ, ◌<◌}
use native.Mathlib.Omega.{arith}
use lib.ListN.{length, take, length-set}
use Rattle.words.specs.Xor.{xors}
use Rattle.slices.proofs.Laws.Over.{over_nil, over_all}
use Rattle.argon2_fill.proofs.Laws.Blocks.{put_more, put_all, length-mixed, mixed-word}
use borrow.Author.Rules.{rules}
use Rattle.argon2_fill.proofs.block.mixed.Goals as goal

pub loop-i-init : goal.loop-i-init
loop-i-init c = (search rules, sym (over_nil c.args.r.now))

pub loop-i-preserved : goal.loop-i-preserved
loop-i-preserved c =
    let l = c.loop-i in
    let a = c.args in
    let h = c.requires in
    let x = a.x.now in
    let y = a.y.now in
    let d = a.r.now in
    let n = length-mixed x y h.1.0 h.1.1 in
    let k = h.0 in
    let t : l.i < 128 = omega arith in (
      simp length-set l.invariant.0,
      put_more (xors (take 128 x) (take 128 y)) d l.r l.i _ l.invariant.1 (omega arith) (omega arith)
          (mixed-word x y l.i h.1.0 h.1.1 t),
    )

pub returns : goal.returns
returns c =
    let l = c.loop-i in
    let a = c.args in
    let h = c.requires in
    let x = a.x.now in
    let y = a.y.now in
    let w : List ℕ = xors (take 128 x) (take 128 y) in
    let d = a.r.now in
    let n : length w ≡ 128 = length-mixed x y h.1.0 h.1.1 in
    let k = h.0 in
    put_all w d l.r l.i l.invariant.1 (omega arith) ∙ over_all w d (omega arith)
