-- `dictionary::repeats::fill` meets its contract. Assumes nothing.
-- The invariant: the judgement from here, that knows the table's names, is the whole one.
use mathlib.Core.Path.{◌≡◌}
use Prim.Native.Nat.{◌+◌, ◌-◌, ◌≤◌}
use mathlib.Core.List.{[]}
use lib.ListN.{length}
use Rattle.dictionary.specs.Order.{held, Rising}
use Rattle.dictionary.specs.Repeats.{judge}
use Rattle.dictionary.proofs.repeats.fill.Given as goal

abbrev pub invariant-loop : goal.invariant-loop
invariant-loop l =
    (judge l.stop (length l.s - l.counter) l.s (held l.s l.from l.n l.t) l.at ≡ judge l.stop (length l.s) l.s [] l.from) × Rising (held l.s l.from l.n l.t) × (l.n ≤ length l.t)
    × (length l.t ≡ length l.initial.t) × (l.from + l.n ≤ l.at) × (l.counter ≤ l.at)
