-- `hexadecimal::all_digits` meets its contract. The invariant: what was seen so far, with what is left to see, is the whole
-- test. Assumes nothing.
use mathlib.Core.Path.{◌≡◌}
use mathlib.Core.Bool.{◌&&◌}
use lib.ListN.{drop}
use Rattle.hexadecimal.specs.Rfc4648.{all_digits}
use Rattle.hexadecimal.proofs.all_digits.Given as goal

abbrev pub invariant-loop-c : goal.invariant-loop-c
invariant-loop-c l = (l.all && all_digits (drop l.c-index l.s)) ≡ all_digits l.s
