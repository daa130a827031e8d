-- `refusals::limits::password_fits` meets its contract. Assumes nothing.
use mathlib.Core.Path.{refl}
use Rattle.refusals.specs.Limits.{password_limit}
use Rattle.refusals.proofs.limits.password_fits.Goals as goal

pub returns : goal.returns
unfolding password_limit
returns c = refl
