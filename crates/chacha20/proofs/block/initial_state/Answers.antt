-- `chacha20::block::initial_state` meets its contract. Assumes nothing.
use Prim.Native.Nat.{◌^◌, ◌<◌}
use Rattle.chacha20.proofs.Laws.Block.{initial_state_is}
use borrow.Author.Rules.{rules}
use Rattle.chacha20.proofs.block.initial_state.Goals as goal

pub returns : goal.returns
returns c =
    let counter_fits : c.args.counter < 2 ^ 32 = search rules in
    let a = c.args in
    initial_state_is a.key a.counter a.nonce counter_fits
    c.u32_at.ensures c.u32_at-2.ensures c.u32_at-3.ensures c.u32_at-4.ensures
    c.u32_at-5.ensures c.u32_at-6.ensures c.u32_at-7.ensures c.u32_at-8.ensures
    c.u32_at-9.ensures c.u32_at-10.ensures c.u32_at-11.ensures
