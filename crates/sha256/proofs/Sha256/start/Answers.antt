-- `sha256::Sha256::start` meets its contract. Assumes nothing.
use mathlib.Core.Path.{refl}
use Rattle.fips180.specs.Fips180.Constants.{iv256}
use Rattle.fips180.specs.Hashing.{start}
use Rattle.sha256.proofs.Sha256.start.Goals as goal

pub returns : goal.returns
unfolding start iv256
returns c = refl
