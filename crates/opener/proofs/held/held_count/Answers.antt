-- `opener::held::held_count` meets its contract. Assumes nothing.
use mathlib.Core.Path.{refl}
use native.Mathlib.Omega.{arith}
use Rattle.opening.specs.Decryption.{handed}
use Rattle.opener.specs.Counts.{held_count}
use Rattle.opener.proofs.held.held_count.Goals as goal

pub returns-then-c-eq0 : goal.returns-then-c-eq0
unfolding held_count handed
returns-then-c-eq0 c = (omega arith, omega arith)

pub returns : goal.returns
unfolding held_count handed
returns c = (refl, omega arith)
