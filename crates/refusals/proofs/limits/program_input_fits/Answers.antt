-- `refusals::limits::program_input_fits` meets its contract. Assumes nothing.
use mathlib.Core.Path.{refl}
use Rattle.refusals.specs.Limits.{program_limit}
use Rattle.refusals.proofs.limits.program_input_fits.Goals as goal

pub returns : goal.returns
unfolding program_limit
returns c = refl
