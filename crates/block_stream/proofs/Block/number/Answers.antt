-- `block_stream::Block::number` meets its contract. Assumes nothing.
use mathlib.Core.Path.{sym, ap, ◌∙◌}
use Rattle.block_stream.specs.declared.Block.{Block}
use Rattle.block_stream.specs.Answers.{said}
use Rattle.block_stream.proofs.Block.number.Goals as goal

pub returns-in-Refused : goal.returns-in-Refused
returns-in-Refused c = c.number.ensures ∙ ap (λ (a : Block). (said a).number) (sym c.in-Refused.is)
