-- `fips180::rounds::round` meets its contract. Assumes nothing.
use Rattle.fips180.specs.Fips180.{round, round_on}
use Rattle.fips180.proofs.rounds.round.Goals as goal

pub returns : goal.returns
unfolding round round_on
returns g c = cc
