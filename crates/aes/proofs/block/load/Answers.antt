-- `aes::block::load` meets its contract. Assumes nothing.
use mathlib.Core.Path.{◌∙◌}
use lib.Seq.{take_all}
use Rattle.aes.proofs.Laws.Arrays.{array_bytes}
use Rattle.aes.proofs.Laws.Columns.{columns-word}
use borrow.Author.Rules.{rules}
use Rattle.aes.proofs.block.load.Goals as goal

pub returns : goal.returns
returns c =
    let s = c.args.s in
    columns-word s (search rules) (array_bytes 16 s _ c.well_formed.0)
    c.u32_of.result c.u32_of-2.result c.u32_of-3.result c.u32_of-4.result
    c.u32_of.ensures c.u32_of-2.ensures c.u32_of-3.ensures c.u32_of-4.ensures
    ∙ take_all 16 s (search rules)
