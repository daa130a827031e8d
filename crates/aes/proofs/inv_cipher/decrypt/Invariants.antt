-- `aes::inv_cipher::decrypt` meets its contract. The invariant: i rounds are left. Assumes nothing.
use mathlib.Core.Path.{◌≡◌}
use Prim.Native.Nat.{◌-◌}
use Rattle.aes.specs.Columns.{columns}
use Rattle.aes.specs.Tabled.{eq_inv_rounds_by}
use Rattle.aes.proofs.inv_cipher.decrypt.Given as goal

abbrev pub invariant-loop-i : goal.invariant-loop-i
invariant-loop-i l = columns l.x ≡ eq_inv_rounds_by l.td (columns l.initial.x) l.v (13 - l.i)
