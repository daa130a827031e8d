-- `refusals::limits::rounds_suffice` meets its contract. Assumes nothing.
use mathlib.Core.Path.{refl}
use Rattle.refusals.specs.Limits.{rounds_least}
use Rattle.refusals.proofs.limits.rounds_suffice.Goals as goal

pub returns : goal.returns
unfolding rounds_least
returns c = refl
