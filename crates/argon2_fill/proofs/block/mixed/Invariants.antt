-- `argon2_fill::block::mixed` meets its contract. The invariant: the first i words are made. Assumes nothing.
use mathlib.Core.Path.{◌≡◌}
use lib.ListN.{length, take}
use Rattle.words.specs.Xor.{xors}
use Rattle.slices.specs.Over.{over}
use Rattle.argon2_fill.proofs.block.mixed.Given as goal

abbrev pub invariant-loop-i : goal.invariant-loop-i
invariant-loop-i l =
    (length l.r ≡ 128) × (l.r ≡ over (take l.i (xors (take 128 l.x) (take 128 l.y))) l.initial.r)
