-- `blake2b::block::blocks` meets its contract. The invariant: what is left gives what the whole gives. Assumes nothing.
use mathlib.Core.Path.{◌≡◌, sym, ap, ◌∙◌}
use Prim.Native.Nat.{ℕ, ◌+◌, ◌*◌}
use native.Mathlib.Omega.{arith}
use native.Mathlib.Nat.{add-zero}
use lib.ListN.{length, length-drop}
use Rattle.slices.proofs.Laws.Parts.{part-tail}
use Rattle.blake2b.specs.Rfc7693.{chain, blocks_before}
use Rattle.blake2b.proofs.Laws.Chain.{chain-turn, chain_all}
use Rattle.blake2b.proofs.block.blocks.Goals as goal

pub loop-i-init : goal.loop-i-init
loop-i-init c =
    let a = c.args in
    ap (λ (n : ℕ). chain (blocks_before (length a.s.now)) a.h n a.s.now) (add-zero a.t)

pub compress-d-requires : goal.compress-d-requires
compress-d-requires c = rw part-tail (simp length-drop (omega arith))

pub loop-i-preserved : goal.loop-i-preserved
loop-i-preserved c =
    let l = c.loop-i in
    let a = c.args in
    let e : 128 * (l.i + 1) ≡ 128 * l.i + 128 = omega arith in
    rw e (chain-turn l.c c.compress-d.result a.s.now a.t (128 * l.i) (omega arith) c.compress-d.ensures ∙ l.invariant)

pub returns : goal.returns
returns c =
    let l = c.loop-i in
    let a = c.args in
    sym (chain_all l.c a.s.now (a.t + 128 * l.i) (128 * l.i) (omega arith)) ∙ l.invariant
