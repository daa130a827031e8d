-- `opener::held::due_count` meets its contract. Assumes nothing.
use mathlib.Core.Path.{refl}
use native.Mathlib.Omega.{arith}
use Rattle.opener.specs.Counts.{due_count}
use Rattle.opener.proofs.held.due_count.Goals as goal

pub returns-then-n-eq0 : goal.returns-then-n-eq0
unfolding due_count
returns-then-n-eq0 c = omega arith

pub returns : goal.returns
unfolding due_count
returns c = refl
