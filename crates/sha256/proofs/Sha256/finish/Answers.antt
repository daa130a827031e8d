-- `sha256::Sha256::finish` meets its contract. Assumes nothing.
use Rattle.std.proofs.Common.{ap, ◌∙◌}
use Rattle.fips180.specs.Fips180.{sha256}
use Rattle.fips180.specs.Hashing as hashing
use Rattle.sha256.proofs.Sha256.finish.Goals as goal

pub returns : goal.returns
returns c = c.finish_standard.ensures ∙ ap (hashing.finish sha256) c.state.ensures
