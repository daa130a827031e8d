-- `refusals::limits::message_fits` meets its contract. Assumes nothing.
use mathlib.Core.Path.{refl}
use Rattle.refusals.specs.Limits.{message_limit}
use Rattle.refusals.proofs.limits.message_fits.Goals as goal

pub returns : goal.returns
unfolding message_limit
returns c = refl
