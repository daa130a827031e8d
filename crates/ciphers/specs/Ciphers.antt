-- The ciphers of a payload: document 01, "Header".
--
--   "AES-256 is 31C1F2E6BF714350BE5805216AFC5AFF, ChaCha20 is
--    D6038A2B8B6F4CB5A524339A31DBB59A"                              identifier, cipher_of
--   "nonce length: 16 for AES-256, 12 for ChaCha20"                 nonce_length
-- Not here: what the ciphers compute (crates aes_cbc and chacha20).
-- Assumes nothing.
use Rattle.std.specs.Prelude.{cond, List, [], ◌∷◌, ℕ, Option, Some, None}
use Rattle.slices.specs.Same.{same}
use Rattle.ciphers.specs.declared.Cipher.{Cipher}
use Rattle.ciphers.specs.declared.Cipher.TheVariants.{Aes256, ChaCha20}

unfoldable pub identifier : Cipher → List ℕ
identifier Aes256 =
    0x31 ∷ 0xC1 ∷ 0xF2 ∷ 0xE6 ∷ 0xBF ∷ 0x71 ∷ 0x43 ∷ 0x50 ∷ 0xBE ∷ 0x58 ∷ 0x05 ∷ 0x21 ∷ 0x6A ∷ 0xFC ∷ 0x5A ∷ 0xFF ∷ []
identifier ChaCha20 =
    0xD6 ∷ 0x03 ∷ 0x8A ∷ 0x2B ∷ 0x8B ∷ 0x6F ∷ 0x4C ∷ 0xB5 ∷ 0xA5 ∷ 0x24 ∷ 0x33 ∷ 0x9A ∷ 0x31 ∷ 0xDB ∷ 0xB5 ∷ 0x9A ∷ []

unfoldable pub cipher_of : List ℕ → Option Cipher
cipher_of id = cond (same id (identifier Aes256)) (Some Aes256) (cond (same id (identifier ChaCha20)) (Some ChaCha20) None)

unfoldable pub nonce_length : Cipher → ℕ
nonce_length Aes256 = 16
nonce_length ChaCha20 = 12
