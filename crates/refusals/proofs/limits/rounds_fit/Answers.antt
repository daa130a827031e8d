-- `refusals::limits::rounds_fit` meets its contract. Assumes nothing.
use mathlib.Core.Path.{refl}
use Rattle.refusals.specs.Limits.{rounds_limit}
use Rattle.refusals.proofs.limits.rounds_fit.Goals as goal

pub returns : goal.returns
unfolding rounds_limit
returns c = refl
