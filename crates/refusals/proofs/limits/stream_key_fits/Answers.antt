-- `refusals::limits::stream_key_fits` meets its contract. Assumes nothing.
use mathlib.Core.Path.{refl}
use Rattle.refusals.specs.Limits.{stream_limit}
use Rattle.refusals.proofs.limits.stream_key_fits.Goals as goal

pub returns : goal.returns
unfolding stream_limit
returns c = refl
