-- `unlocking::stack::unspaced` meets its contract. The invariant: what is left of the text has the same behind its
-- spaces. Assumes nothing.
use mathlib.Core.Path.{◌≡◌}
use lib.ListN.{drop}
use Rattle.unlocking.specs.Stack.{unspaced}
use Rattle.unlocking.proofs.stack.unspaced.Given as goal

abbrev pub invariant-loop-at : goal.invariant-loop-at
invariant-loop-at l = unspaced (drop l.at l.s) ≡ unspaced l.s
