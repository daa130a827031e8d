-- `refusals::limits::file_fits` meets its contract. Assumes nothing.
use mathlib.Core.Path.{refl}
use Rattle.refusals.specs.Limits.{file_limit}
use Rattle.refusals.proofs.limits.file_fits.Goals as goal

pub returns : goal.returns
unfolding file_limit
returns c = refl
