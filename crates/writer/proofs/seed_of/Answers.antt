-- `writer::seed_of` meets its contract. Assumes nothing.
use mathlib.Core.Path.{◌∙◌}
use lib.ListN.{replicate}
use Rattle.slices.proofs.Laws.Over.{over_whole}
use Rattle.writer.proofs.seed_of.Goals as goal

pub returns : goal.returns
returns c =
    c.copy.ensures ∙ over_whole c.args.s.now (replicate 32 0) c.requires
