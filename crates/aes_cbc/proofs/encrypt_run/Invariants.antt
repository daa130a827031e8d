-- `aes_cbc::encrypt_run` meets its contract. The invariant: i blocks are encrypted where they stood, and before is the
-- last of them.
-- Assumes nothing.
use mathlib.Core.Path.{◌≡◌}
use mathlib.Core.List.{List}
use Prim.Native.Nat.{ℕ}
use lib.ListN.{length}
use Rattle.slices.specs.Over.{over}
use Rattle.aes.specs.Columns.{columns}
use Rattle.fips197.specs.Fips197.{cipher}
use Rattle.cbc.proofs.Laws.Turns.{encrypted_to, encrypted_last}
use Rattle.aes_cbc.proofs.encrypt_run.Given as goal

-- Cipher() under a key schedule
abbrev pub under : List ℕ → List ℕ → List ℕ
under w = λ s. cipher s w

abbrev pub invariant-loop-i : goal.invariant-loop-i
invariant-loop-i l =
    (length l.out ≡ length l.initial.out)
    × (columns l.before ≡ encrypted_last (under l.w) (columns l.initial.before) l.initial.out l.i)
    × (l.out ≡ over (encrypted_to (under l.w) (columns l.initial.before) l.initial.out l.i) l.initial.out)
