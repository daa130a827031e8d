-- `argon2::last::bytes_of` meets its contract. The invariant: the bytes of the first i words stand. Assumes nothing.
use mathlib.Core.Path.{◌≡◌}
use Prim.Native.Nat.{◌*◌}
use lib.ListN.{length, take}
use Rattle.blake2b.specs.Rfc7693.{serialize}
use Rattle.argon2.proofs.last.bytes_of.Given as goal

abbrev pub invariant-loop-i : goal.invariant-loop-i
invariant-loop-i l = (length l.out ≡ 1024) × (take (l.i * 8) l.out ≡ serialize (take l.i l.fn.c))
