-- `aes::schedule::expand` meets its contract. The invariant: the first i words are those of whatever key the first
-- eight are of.
-- Assumes nothing.
use mathlib.Core.Path.{◌≡◌}
use mathlib.Core.List.{List}
use Prim.Native.Nat.{ℕ, ◌-◌}
use lib.ListN.{length, take}
use Rattle.fips197.specs.Fips197.{expanded}
use Rattle.aes_tables.specs.Tables as tables
use Rattle.aes.proofs.schedule.expand.Given as goal

abbrev pub invariant-loop-i : goal.invariant-loop-i
invariant-loop-i l =
    (length l.w ≡ 60)
    × ((key : List ℕ) → take 8 l.initial.w ≡ expanded key 0 → l.te ≡ tables.te → take l.i l.w ≡ expanded key (l.i - 8))
