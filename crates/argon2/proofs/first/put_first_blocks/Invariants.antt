-- `argon2::first::put_first_blocks` meets its contract. The invariant: the blocks of the lanes before are put.
-- Assumes nothing.
use mathlib.Core.Path.{◌≡◌}
use Rattle.argon2_fill.specs.State.{figures}
use Rattle.argon2.specs.Rfc9106.{first_blocks}
use Rattle.argon2.proofs.first.put_first_blocks.Given as goal

abbrev pub invariant-loop-i : goal.invariant-loop-i
invariant-loop-i l =
    l.memory ≡ first_blocks (figures l.f) l.h l.i l.initial.memory
