-- `aes_cbc::decrypt_run` meets its contract. The invariant: i blocks are decrypted where they stood, and before is the
-- last ciphertext block among them. Assumes nothing.
use mathlib.Core.Path.{◌≡◌}
use mathlib.Core.List.{List}
use Prim.Native.Nat.{ℕ}
use lib.ListN.{length}
use Rattle.slices.specs.Over.{over}
use Rattle.aes.specs.Columns.{columns}
use Rattle.fips197.specs.Fips197.{eq_inv_cipher}
use Rattle.cbc.proofs.Laws.Turns.{cipher_block, decrypted_to}
use Rattle.aes_cbc.proofs.decrypt_run.Given as goal

-- EqInvCipher() under a dual key schedule
abbrev pub under : List ℕ → List ℕ → List ℕ
under v = λ s. eq_inv_cipher s v

abbrev pub invariant-loop-i : goal.invariant-loop-i
invariant-loop-i l =
    (length l.out ≡ length l.initial.out)
    × (columns l.before ≡ cipher_block (columns l.initial.before) l.initial.out l.i)
    × (l.out ≡ over (decrypted_to (under l.v) (columns l.initial.before) l.initial.out l.i) l.initial.out)
