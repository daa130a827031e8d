-- `chacha20::block::rounds` meets its contract. The invariant: so many inner blocks are done. Assumes nothing.
use mathlib.Core.Path.{◌≡◌, refl, ap, ◌∙◌}
use Prim.Native.Nat.{ℕ}
use native.Mathlib.Omega.{arith}
use lib.ListN.{length}
use Rattle.chacha20.specs.Rfc8439.{inner_blocks}
use Rattle.chacha20.proofs.Laws.Rounds.{inner_blocks_more, length-inner_block}
use Rattle.chacha20.proofs.block.rounds.Goals as goal

pub loop-init : goal.loop-init
unfolding inner_blocks
loop-init c = (c.requires, refl)

pub loop-preserved : goal.loop-preserved
loop-preserved c =
    let l = c.loop in
    let e = c.inner_block.ensures in
    (ap length e ∙ length-inner_block l.s ∙ l.invariant.0, inner_blocks_more c.args.s.now l.counter l.invariant.1 e)

pub returns : goal.returns
returns c =
    let l = c.loop in
    let e : l.counter ≡ 10 = omega arith in
    l.invariant.1 ∙ ap (λ (n : ℕ). inner_blocks n c.args.s.now) e
