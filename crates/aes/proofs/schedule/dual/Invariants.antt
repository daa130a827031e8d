-- `aes::schedule::dual` meets its contract. The invariant: the first i words are there. Assumes nothing.
use mathlib.Core.Path.{◌≡◌}
use lib.ListN.{length, get_or, take}
use Rattle.fips197.specs.Tabulate.{tabulate}
use Rattle.aes.specs.Tabled.{dual_word_by}
use Rattle.aes.proofs.schedule.dual.Given as goal

abbrev pub invariant-loop-i : goal.invariant-loop-i
invariant-loop-i l =
    (length l.v ≡ 60) × (take l.i l.v ≡ tabulate l.i (λ k. dual_word_by l.te l.td k (get_or l.w k 0)))
