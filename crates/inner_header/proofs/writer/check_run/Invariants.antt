-- `inner_header::writer::check_run` meets its contract. The invariant: the verdict on what is left is that on the
-- whole. Assumes nothing.
use mathlib.Core.Path.{◌≡◌}
use Prim.Native.Nat.{◌-◌}
use lib.ListN.{length}
use Rattle.inner_header.specs.Writer.{run_from, run, verdict}
use Rattle.inner_header.proofs.writer.check_run.Given as goal

abbrev pub invariant-loop : goal.invariant-loop
invariant-loop l = verdict (run_from (length l.run - l.counter) l.run l.at) ≡ verdict (run l.run)
