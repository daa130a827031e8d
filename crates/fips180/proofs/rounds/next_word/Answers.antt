-- `fips180::rounds::next_word` meets its contract. Assumes nothing.
use Rattle.fips180.specs.Fips180.{next_word}
use Rattle.fips180.proofs.rounds.next_word.Goals as goal

pub returns : goal.returns
unfolding next_word
returns g c = cc
