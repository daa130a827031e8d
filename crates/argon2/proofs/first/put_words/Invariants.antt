-- `argon2::first::put_words` meets its contract. The invariant: the first i words are put. Assumes nothing.
use mathlib.Core.Path.{◌≡◌}
use Rattle.slices.specs.Over.{over}
use Rattle.blake2b.specs.Rfc7693.{block_words}
use Rattle.argon2.proofs.first.put_words.Given as goal

abbrev pub invariant-loop-i : goal.invariant-loop-i
invariant-loop-i l = l.out ≡ over (block_words l.i l.bytes) l.initial.out
