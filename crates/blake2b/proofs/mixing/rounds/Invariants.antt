-- `blake2b::mixing::rounds` meets its contract. The invariant: i rounds are done. Assumes nothing.
use mathlib.Core.Path.{◌≡◌}
use Rattle.blake2b.specs.Rfc7693.{rounds}
use Rattle.blake2b.proofs.mixing.rounds.Given as goal

abbrev pub invariant-loop-i : goal.invariant-loop-i
invariant-loop-i l = l.v ≡ rounds l.i l.m l.initial.v
