-- `exports::hashes::kdbx4_sha512_finish` meets its contract. Assumes nothing.
use mathlib.Core.Path.{ap, ◌∙◌}
use Rattle.sha512.specs.State.{finished}
use Rattle.exports.proofs.hashes.kdbx4_sha512_finish.Goals as goal

pub returns : goal.returns
returns c = c.finish.ensures ∙ ap finished c.unpack.ensures
