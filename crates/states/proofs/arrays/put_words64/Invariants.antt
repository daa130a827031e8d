-- `states::arrays::put_words64` meets its contract. The invariant: the first i words are written. Assumes nothing.
use mathlib.Core.Path.{◌≡◌}
use lib.ListN.{take}
use Rattle.slices.specs.Over.{put_at}
use Rattle.states.specs.Words.{word_bytes}
use Rattle.states.proofs.arrays.put_words64.Given as goal

abbrev pub invariant-loop-i : goal.invariant-loop-i
invariant-loop-i l = l.out ≡ put_at l.at (word_bytes 8 (take l.i l.w)) l.initial.out
