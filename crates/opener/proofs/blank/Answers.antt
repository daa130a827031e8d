-- `opener::blank` meets its contract. Assumes nothing.
use mathlib.Core.Path.{refl}
use Rattle.opening.specs.Steps.{opener, no_keys, blank}
use Rattle.opener.proofs.blank.Goals as goal

pub returns : goal.returns
unfolding blank opener no_keys
returns c = refl
