-- `unlocking::stack::behind` meets its contract. The invariant: what is left of the text has the same behind the word's
-- first place. Assumes nothing.
use mathlib.Core.Path.{◌≡◌}
use lib.ListN.{drop}
use Rattle.unlocking.specs.Stack as limits
use Rattle.unlocking.proofs.stack.behind.Given as goal

abbrev pub invariant-loop-at : goal.invariant-loop-at
invariant-loop-at l = limits.behind l.w (drop l.at l.s) ≡ limits.behind l.w l.s
