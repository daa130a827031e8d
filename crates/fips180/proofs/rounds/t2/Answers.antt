-- `fips180::rounds::t2` meets its contract. Assumes nothing.
use Rattle.fips180.specs.Fips180.{t2}
use Rattle.fips180.proofs.rounds.t2.Goals as goal

pub returns : goal.returns
unfolding t2
returns g c = cc
