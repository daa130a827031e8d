-- `pkcs7::check` meets its contract. The invariant: no bit is wrong where the check of the bytes from i on holds.
-- Assumes nothing.
use mathlib.Core.Path.{◌≡◌}
use lib.Dec.{eqb}
use lib.ListN.{length, drop}
use Rattle.pkcs7.proofs.Laws.Check.{checked_from}
use Rattle.pkcs7.proofs.check.Given as goal

abbrev pub invariant-loop-i : goal.invariant-loop-i
invariant-loop-i l = (length l.piece ≡ 16) × (eqb l.d 0 ≡ checked_from l.p l.i (drop l.i l.piece))
