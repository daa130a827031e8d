-- `fips180::rounds::t1` meets its contract. Assumes nothing.
use Rattle.fips180.specs.Fips180.{t1}
use Rattle.fips180.proofs.rounds.t1.Goals as goal

pub returns : goal.returns
unfolding t1
returns g c = cc
