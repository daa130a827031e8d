-- `dictionary::repeats::judge` meets its contract. Assumes nothing.
-- The invariant: the judgement from here is the whole one.
use mathlib.Core.Path.{◌≡◌}
use mathlib.Core.List.{[]}
use Prim.Native.Nat.{◌≤◌}
use lib.ListN.{length}
use Rattle.dictionary.specs.Repeats.{judge}
use Rattle.dictionary.proofs.repeats.judge.Given as goal

abbrev pub invariant-loop : goal.invariant-loop
invariant-loop l =
    (judge l.stop (length l.s) l.s [] l.at ≡ judge (length l.s) (length l.s) l.s [] 2) × (length l.t ≡ 4096) × (l.at ≤ length l.s) × (l.counter ≤ l.at)
