-- `argon2_fill::block::compress_zeros` meets its contract. Assumes nothing.
use mathlib.Core.Path.{ap, ◌∙◌}
use lib.ListN.{length}
use Rattle.argon2_block.proofs.Laws.Permutation.{length-permuted}
use Rattle.argon2_fill.proofs.Laws.Blocks.{compress-zeros}
use Rattle.argon2_fill.proofs.block.compress_zeros.Goals as goal

pub add-requires : goal.add-requires
add-requires c =
    let r = c.args.r.now in
    let n = c.requires in
    (n, ap length (c.permute.ensures n) ∙ length-permuted r ∙ n)

pub returns : goal.returns
returns c =
    let n = c.requires in
    compress-zeros c.args.r.now _ _ n (c.permute.ensures n) c.add.ensures
