-- AES-256 (FIPS 197) in the CBC mode (SP 800-38A, 6.2), under the key schedule w, chained to the block c.
--
--   encrypt, decrypt    the whole blocks of a string
--   eq_decrypt          the same as decrypt, by EqInvCipher() (FIPS 197, 5.3.5) on the dual key schedule v
-- Not here: the block that what follows is chained to (cbc, Sp80038a.previous).
-- Assumes nothing.
use Rattle.std.specs.Prelude.{List, ℕ}
use Rattle.fips197.specs.Fips197 as fips197
use Rattle.cbc.specs.Sp80038a as sp80038a

abbrev pub encrypt : List ℕ → List ℕ → List ℕ → List ℕ
encrypt w c s = sp80038a.encrypt (λ x. fips197.cipher x w) c s

abbrev pub decrypt : List ℕ → List ℕ → List ℕ → List ℕ
decrypt w c s = sp80038a.decrypt (λ x. fips197.inv_cipher x w) c s

abbrev pub eq_decrypt : List ℕ → List ℕ → List ℕ → List ℕ
eq_decrypt v c s = sp80038a.decrypt (λ x. fips197.eq_inv_cipher x v) c s
