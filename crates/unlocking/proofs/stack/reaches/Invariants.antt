-- `unlocking::stack::reaches` meets its contract. The invariant: what is left of the text continues the number to the
-- same. Assumes nothing.
use mathlib.Core.Path.{◌≡◌}
use lib.ListN.{drop}
use Rattle.unlocking.specs.Stack.{decimal}
use Rattle.unlocking.proofs.stack.reaches.Given as goal

abbrev pub invariant-loop-x : goal.invariant-loop-x
invariant-loop-x l = decimal l.n (drop l.x-index l.s) ≡ decimal 0 l.s
