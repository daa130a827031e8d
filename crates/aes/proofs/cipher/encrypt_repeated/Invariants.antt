-- `aes::cipher::encrypt_repeated` meets its contract. The invariant: so many encryptions are done. Assumes nothing.
use mathlib.Core.Path.{◌≡◌}
use Rattle.aes.specs.Columns.{columns}
use Rattle.aes.specs.Repeated.{repeated}
use Rattle.aes.specs.Tabled.{cipher_by}
use Rattle.aes.proofs.cipher.encrypt_repeated.Given as goal

abbrev pub invariant-loop : goal.invariant-loop
invariant-loop l = columns l.x ≡ repeated (λ s. cipher_by l.te s l.w) l.counter (columns l.initial.x)
