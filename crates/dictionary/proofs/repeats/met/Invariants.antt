-- `dictionary::repeats::met` meets its contract. Assumes nothing.
-- The invariant: the walk from here, over the items left, is the whole walk.
use mathlib.Core.Path.{◌≡◌}
use Prim.Native.Nat.{◌-◌}
use lib.ListN.{length}
use Rattle.dictionary.specs.Order.{held}
use Rattle.dictionary.specs.Repeats.{met}
use Rattle.dictionary.proofs.repeats.met.Given as goal

abbrev pub invariant-loop : goal.invariant-loop
invariant-loop l =
    met l.stop (length l.s - l.counter) l.s (held l.s l.base l.n l.t) l.at ≡ met l.stop (length l.s) l.s (held l.s l.base l.n l.t) l.from
