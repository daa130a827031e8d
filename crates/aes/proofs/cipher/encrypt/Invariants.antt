-- `aes::cipher::encrypt` meets its contract. The invariant: the rounds before i are done. Assumes nothing.
use mathlib.Core.Path.{◌≡◌}
use Prim.Native.Nat.{◌-◌}
use Rattle.aes.specs.Columns.{columns}
use Rattle.aes.specs.Tabled.{rounds_by}
use Rattle.aes.proofs.cipher.encrypt.Given as goal

abbrev pub invariant-loop-i : goal.invariant-loop-i
invariant-loop-i l = columns l.x ≡ rounds_by l.te (columns l.initial.x) l.w (l.i - 1)
