-- `argon2::last::xor_block` meets its contract. The invariant: the first i words are added to. Assumes nothing.
use mathlib.Core.Path.{◌≡◌, sym, ap, ◌∙◌}
use mathlib.Core.List.{List}
use Prim.Native.Nat.{ℕ}
use native.Mathlib.Omega.{arith}
use lib.Bits.{bit_xor}
use lib.ListN.{length, take, get_or, length-set}
use lib.Seq.{length-take-le}
use Rattle.words.specs.Xor.{xors}
use Rattle.slices.proofs.Laws.Over.{over_nil, over_all}
use Rattle.argon2_fill.proofs.Laws.Blocks.{put_more, put_all, get_or_over_next, length_fresh}
use Rattle.argon2.proofs.Laws.Last.{xored_word}
use Rattle.argon2.proofs.last.xor_block.Goals as goal

pub loop-i-init : goal.loop-i-init
loop-i-init c = (c.requires.block_len, sym (over_nil c.args.c.now))

pub loop-i-preserved : goal.loop-i-preserved
loop-i-preserved c =
    let l = c.loop-i in
    let b = c.args.c.now in
    let s = c.args.s.now in
    let m = c.requires.block_len in
    let h = c.requires.in_bounds in
    let w : List ℕ = xors b (take 128 s) in
    let n : length w ≡ 128 = length_fresh b (take 128 s) m (length-take-le 128 s h) in
    let o = get_or_over_next w b l.c l.i l.invariant.1 (omega arith) (omega arith) in (
      simp length-set l.invariant.0,
      put_more w b l.c l.i _ l.invariant.1 (omega arith) (omega arith)
          (ap (λ (x : ℕ). bit_xor x (get_or s l.i 0)) o ∙ xored_word b s l.i m h (omega arith)),
    )

pub returns : goal.returns
returns c =
    let l = c.loop-i in
    let b = c.args.c.now in
    let s = c.args.s.now in
    let m = c.requires.block_len in
    let w : List ℕ = xors b (take 128 s) in
    let n : length w ≡ 128 = length_fresh b (take 128 s) m (length-take-le 128 s c.requires.in_bounds) in
    put_all w b l.c l.i l.invariant.1 (omega arith) ∙ over_all w b (omega arith)
