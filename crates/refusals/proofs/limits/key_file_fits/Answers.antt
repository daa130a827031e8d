-- `refusals::limits::key_file_fits` meets its contract. Assumes nothing.
use mathlib.Core.Path.{refl}
use Rattle.refusals.specs.Limits.{key_file_limit}
use Rattle.refusals.proofs.limits.key_file_fits.Goals as goal

pub returns : goal.returns
unfolding key_file_limit
returns c = refl
