-- `argon2_fill::block::addresses` meets its contract. Assumes nothing.
use mathlib.Core.Path.{ap, ◌∙◌}
use mathlib.Core.List.{List}
use Prim.Native.Nat.{ℕ}
use lib.ListN.{length, replicate, length-replicate}
use Rattle.argon2_block.specs.Rfc9106.{compress}
use Rattle.argon2_fill.specs.Rfc9106.{addresses, address_input}
use Rattle.argon2_fill.proofs.Laws.Blocks.{length-compress}
use borrow.Author.Rules.{rules}
use Rattle.argon2_fill.proofs.block.addresses.Goals as goal

pub compress_zeros-requires-2 : goal.compress_zeros-requires-2
compress_zeros-requires-2 c =
    let zs : List ℕ = replicate 128 0 in
    ap length c.compress_zeros.ensures ∙ length-compress zs _ (length-replicate {A = ℕ} 128 0) (search rules)

pub returns : goal.returns
unfolding addresses address_input
returns c =
    c.compress_zeros-2.ensures ∙ ap (compress (replicate 128 0)) c.compress_zeros.ensures
    ∙ rw c.times.ensures.0
