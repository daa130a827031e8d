-- `refusals::limits::written_block` meets its contract. Assumes nothing.
use mathlib.Core.Path.{refl}
use Rattle.refusals.specs.Limits.{written_block}
use Rattle.refusals.proofs.limits.written_block.Goals as goal

pub returns : goal.returns
unfolding written_block
returns c = refl
