-- `fields::fits` meets its contract. Assumes nothing.
use Rattle.fields.specs.Fields.{fits}
use Rattle.fields.proofs.fits.Goals as goal

pub returns-in-Any : goal.returns-in-Any
unfolding fits
returns-in-Any c = rw c.in-Any.is

pub returns-in-Exactly : goal.returns-in-Exactly
unfolding fits
returns-in-Exactly c = rw c.in-Exactly.is

pub returns-in-AtLeast : goal.returns-in-AtLeast
unfolding fits
returns-in-AtLeast c = rw c.in-AtLeast.is
