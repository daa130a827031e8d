-- `sha512::Sha512::finish` meets its contract. Assumes nothing.
use Rattle.std.proofs.Common.{ap, ◌∙◌}
use Rattle.fips180.specs.Fips180.{sha512}
use Rattle.fips180.specs.Hashing as hashing
use Rattle.sha512.proofs.Sha512.finish.Goals as goal

pub returns : goal.returns
returns c = c.finish_standard.ensures ∙ ap (hashing.finish sha512) c.state.ensures
