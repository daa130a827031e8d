-- `aes::schedule::key_words` meets its contract. The invariant: the first i words are there. Assumes nothing.
use mathlib.Core.Path.{◌≡◌}
use Prim.Native.Nat.{◌*◌}
use lib.ListN.{length, take}
use Rattle.words.specs.Endian.{be}
use Rattle.fips197.specs.Tabulate.{tabulate}
use Rattle.aes.proofs.schedule.key_words.Given as goal

abbrev pub invariant-loop-i : goal.invariant-loop-i
invariant-loop-i l =
    (length l.w ≡ 60) × (take l.i l.w ≡ tabulate l.i (λ k. be 4 l.key (4 * k)))
