-- `exports::hashes::kdbx4_sha256_start` meets its contract. Assumes nothing.
use mathlib.Core.Path.{ap, ◌∙◌}
use Rattle.states.specs.Sha256State.{packed}
use Rattle.exports.proofs.hashes.kdbx4_sha256_start.Goals as goal

pub returns : goal.returns
returns c = c.pack.ensures ∙ ap packed c.start.ensures
