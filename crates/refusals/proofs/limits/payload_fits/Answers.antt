-- `refusals::limits::payload_fits` meets its contract. Assumes nothing.
use mathlib.Core.Path.{refl}
use Rattle.refusals.specs.Limits.{payload_limit}
use Rattle.refusals.proofs.limits.payload_fits.Goals as goal

pub returns : goal.returns
unfolding payload_limit
returns c = refl
