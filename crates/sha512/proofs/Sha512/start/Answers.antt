-- `sha512::Sha512::start` meets its contract. Assumes nothing.
use mathlib.Core.Path.{refl}
use Rattle.fips180.specs.Fips180.Constants.{iv512}
use Rattle.fips180.specs.Hashing.{start}
use Rattle.sha512.proofs.Sha512.start.Goals as goal

pub returns : goal.returns
unfolding start iv512
returns c = refl
