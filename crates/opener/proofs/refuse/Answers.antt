-- `opener::refuse` meets its contract. Assumes nothing.
use mathlib.Core.Path.{refl}
use Rattle.opening.specs.Runs.{refuse}
use Rattle.opener.proofs.refuse.Goals as goal

pub returns : goal.returns
unfolding refuse
returns c = refl
