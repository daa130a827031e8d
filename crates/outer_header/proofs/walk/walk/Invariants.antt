-- `outer_header::walk::walk` meets its contract. The invariant: what is left to walk gives what the whole gives.
-- Assumes nothing.
use mathlib.Core.Path.{◌≡◌}
use Prim.Native.Nat.{◌-◌}
use lib.ListN.{length}
use Rattle.outer_header.specs.Kdbx4Header.{no_fields, walk}
use Rattle.outer_header.proofs.walk.walk.Given as goal

abbrev pub invariant-loop : goal.invariant-loop
invariant-loop l = walk (length l.s - l.counter) l.f l.s l.at ≡ walk (length l.s) no_fields l.s 12
