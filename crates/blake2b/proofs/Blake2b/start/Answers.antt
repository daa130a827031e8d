-- `blake2b::Blake2b::start` meets its contract. Assumes nothing.
use mathlib.Core.Path.{refl}
use Rattle.fips180.specs.Fips180.Constants.{iv512}
use Rattle.blake2b.specs.Rfc7693.{initial}
use Rattle.blake2b.specs.State.{started}
use Rattle.blake2b.proofs.Blake2b.start.Goals as goal

pub returns : goal.returns
unfolding started initial iv512
returns c = refl
