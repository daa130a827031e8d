-- `states::arrays::read_words64` meets its contract. The invariant: the first i words are read. Assumes nothing.
use mathlib.Core.Path.{◌≡◌}
use lib.ListN.{take}
use Rattle.states.specs.Words.{words_at}
use Rattle.states.proofs.arrays.read_words64.Given as goal

abbrev pub invariant-loop-i : goal.invariant-loop-i
invariant-loop-i l = take l.i l.w ≡ words_at 8 l.i l.s l.at
