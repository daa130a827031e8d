-- `unlocking::rounds::advance` meets its contract. The invariant: the steps that are left give what all of them do.
-- Assumes nothing.
use mathlib.Core.Path.{◌≡◌}
use Prim.Native.Nat.{◌-◌}
use lib.ListN.{replicate}
use Rattle.aes_kdf.specs.State.{advances}
use Rattle.unlocking.proofs.rounds.advance.Given as goal

abbrev pub invariant-loop : goal.invariant-loop
invariant-loop g l = advances (replicate (50 - l.counter) l.n) l.x ≡ advances (replicate 50 l.n) l.initial.x
