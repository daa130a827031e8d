-- `stepping::run_steps` meets its contract. The invariant: what is handed over stands at the front, and with what the
-- steps that are left hand over it is what all of them do. Assumes nothing.
use Prim.Native.Nat.{◌-◌}
use lib.ListN.{length}
use Rattle.stepping.specs.Stepping.{stepping}
use Rattle.stepping.proofs.Laws.Stepping.{Going}
use Rattle.stepping.proofs.run_steps.Given as goal

abbrev pub invariant-loop : goal.invariant-loop
invariant-loop l =
    Going l.f l.initial.out (stepping (length l.f) l.f l.initial.o (length l.initial.out)) l.o l.at
    (length l.f - l.counter) l.out
