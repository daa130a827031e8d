-- `argon2::last::last_column` meets its contract. The invariant: the last blocks of the lanes before are joined.
-- Assumes nothing.
use mathlib.Core.Path.{◌≡◌}
use lib.ListN.{length}
use Rattle.argon2_fill.specs.State.{figures}
use Rattle.argon2.specs.Rfc9106.{last_column}
use Rattle.argon2.proofs.last.last_column.Given as goal

abbrev pub invariant-loop-i : goal.invariant-loop-i
invariant-loop-i l = (length l.c ≡ 128) × (l.c ≡ last_column (figures l.f) l.memory l.i)
