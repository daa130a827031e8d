-- `blake2b::block::half_at` meets its contract. Assumes nothing.
use mathlib.Core.Path.{sym, ◌∙◌}
use Rattle.words.proofs.Laws.Endian.{le_4}
use Rattle.blake2b.proofs.block.half_at.Goals as goal

pub returns : goal.returns
returns c =
    c.u32_of.ensures ∙ sym (le_4 c.args.s.now c.args.at)
