-- `salsa20::block::expanded` meets its contract. Assumes nothing.
use mathlib.Core.Path.{◌≡◌, refl}
use Prim.Native.Nat.{◌^◌, ◌<◌}
use lib.ListN.{length}
use Rattle.salsa20.proofs.Laws.Block.{expanded_is}
use borrow.Author.Rules.{rules}
use Rattle.salsa20.proofs.block.expanded.Goals as goal

pub returns : goal.returns
returns c =
    let nonce_length_is : length c.args.nonce ≡ 8 = search rules in
    let counter_fits : c.args.counter < 2 ^ 64 = search rules in
    let a = c.args in
    expanded_is a.key a.counter a.nonce nonce_length_is counter_fits
    c.u32_at.ensures c.u32_at-2.ensures c.u32_at-3.ensures c.u32_at-4.ensures
    c.u32_at-5.ensures c.u32_at-6.ensures
    c.u32_at-7.ensures c.u32_at-8.ensures c.u32_at-9.ensures c.u32_at-10.ensures
    refl refl
