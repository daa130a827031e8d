-- What the answer to an identifier says (document 01, "Refusal numbers"): 9, "cipher .. not listed"; "0 is success. A
-- refusal returns its number with zero in every other answer".
--
--   cipher_number   0 of AES-256, 1 of ChaCha20
--   said            the cipher's number
-- Not here: what the answer is (Ciphers).
-- Assumes nothing.
use Rattle.std.specs.Prelude.{[], ◌∷◌, ℕ, Option, Some, None}
use Rattle.refusals.specs.Numbers.{Said, success, refused}
use Rattle.refusals.specs.declared.Refusal.TheVariants as refusal
use Rattle.ciphers.specs.declared.Cipher.{Cipher}
use Rattle.ciphers.specs.declared.Cipher.TheVariants.{Aes256, ChaCha20}

abbrev pub cipher_number : Cipher → ℕ
cipher_number Aes256 = 0
cipher_number ChaCha20 = 1

abbrev pub said : Option Cipher → Said
said (Some c) = success (cipher_number c ∷ [])
said None = refused 1 (refusal.Unlisted 0)
