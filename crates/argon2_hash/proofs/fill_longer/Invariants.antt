-- `argon2_hash::fill_longer` meets its contract. The invariant: the first halves of i values stand, v is the next value.
-- Assumes nothing.
use mathlib.Core.Path.{◌≡◌}
use lib.ListN.{length}
use Rattle.slices.specs.Over.{laid}
use Rattle.argon2_hash.specs.LongHash.{value, firsts}
use Rattle.argon2_hash.proofs.fill_longer.Given as goal

abbrev pub invariant-loop-i : goal.invariant-loop-i
invariant-loop-i l =
    record {
      long : length l.out ≡ l.n;
      next : l.v ≡ value l.n l.message l.i;
      halves : l.out ≡ laid (firsts l.n l.message l.i) l.initial.out;
    }
