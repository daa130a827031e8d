-- `salsa20::Salsa20::apply` meets its contract. The invariant: the stream is applied to the first `done` bytes.
-- Assumes nothing.
use mathlib.Core.Path.{ap, ◌∙◌}
use native.Mathlib.Omega.{arith}
use Rattle.stream.proofs.Laws.Turns.{turn-le, turn-lt, applied_none, applied_more, applied_all}
use Rattle.salsa20.specs.Salsa20.{blocks}
use Rattle.salsa20.proofs.Laws.Block.{length-block}
use borrow.Author.Rules.{rules}
use Rattle.salsa20.proofs.Salsa20.apply.Goals as goal

pub overflow_add-done : goal.overflow_add-done
overflow_add-done c =
    let l = c.loop-done in
    let h = turn-le l.out l.done _ _ (omega arith) c.xor_block-done.ensures.value in
    search rules

pub loop-done-smaller : goal.loop-done-smaller
loop-done-smaller c =
    let l = c.loop-done in
    let q = c.place_at.ensures in
    let h = turn-lt l.out l.done _ _ (omega arith) (omega arith) c.xor_block-done.ensures.value in
    omega arith

pub loop-done-preserved : goal.loop-done-preserved
loop-done-preserved c =
    let a = c.args in
    let f = blocks a.key a.nonce in
    let b = c.block-block.ensures ∙ ap f c.counter_at.ensures in
    let q = c.place_at.ensures in
    let x = c.xor_block-done.ensures in
    applied_more f _ _ _ _ _ _ _ _ (length-block a.key _ a.nonce) c.loop-done.invariant b q x.value x.out_after

pub loop-done-init : goal.loop-done-init
loop-done-init c = applied_none _ _ _

pub returns : goal.returns
returns c = applied_all _ _ _ _ _ c.loop-done.invariant (search rules)
