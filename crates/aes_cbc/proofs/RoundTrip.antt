-- The theorem: CBC decryption under AES-256 undoes encryption, and encryption decryption, under every key schedule and
-- from every block before.
--
-- In order:
--   cipher-keeps, inv_cipher-keeps       lists of sixteen stay so, for the laws of crate cbc
--   cipher-inverse, inv_cipher-inverse   AES-256 is a block cipher with its inverse
--   aes_cbc_decrypt_encrypt, aes_cbc_encrypt_decrypt
-- Not here: cuts of a run (cbc, Laws.Mode).
-- Assumes nothing.
use mathlib.Core.Path.{◌≡◌}
use mathlib.Core.List.{List}
use Prim.Native.Nat.{ℕ, ◌%◌}
use lib.ListN.{length}
use Rattle.words.specs.Endian.{Bytes}
use Rattle.words.specs.Block.{IsBlock}
use Rattle.fips197.specs.Fips197.{cipher, inv_cipher}
use Rattle.fips197.proofs.Laws.Inverse.{
  cipher-block,
  inv_cipher-block,
  inv_cipher-cipher,
  cipher-inv_cipher,
  length-cipher,
  length-inv_cipher,
}
use Rattle.cbc.specs.Sp80038a.{Inverse}
use Rattle.cbc.proofs.Laws.Mode.{decrypt-encrypt, encrypt-decrypt}
use Rattle.aes_cbc.specs.Aes256Cbc as aes256_cbc

pub cipher-keeps : (w x : List ℕ) → length x ≡ 16 → length (cipher x w) ≡ 16
cipher-keeps w x e = length-cipher w x

pub inv_cipher-keeps : (w x : List ℕ) → length x ≡ 16 → length (inv_cipher x w) ≡ 16
inv_cipher-keeps w x e = length-inv_cipher w x

pub cipher-inverse : (w : List ℕ) → Inverse (λ x. cipher x w) (λ x. inv_cipher x w)
cipher-inverse w = record { undo = inv_cipher-cipher w; block = cipher-block w }

pub inv_cipher-inverse : (w : List ℕ) → Inverse (λ x. inv_cipher x w) (λ x. cipher x w)
inv_cipher-inverse w = record { undo = cipher-inv_cipher w; block = inv_cipher-block w }

pub aes_cbc_decrypt_encrypt : (w c : List ℕ) → IsBlock c → (s : List ℕ) → length s % 16 ≡ 0 → Bytes s
    → aes256_cbc.decrypt w c (aes256_cbc.encrypt w c s) ≡ s
aes_cbc_decrypt_encrypt w c h s e b = decrypt-encrypt (λ x. cipher x w) (λ x. inv_cipher x w) (cipher-inverse w) c h s e b

pub aes_cbc_encrypt_decrypt : (w c : List ℕ) → IsBlock c → (s : List ℕ) → length s % 16 ≡ 0 → Bytes s
    → aes256_cbc.encrypt w c (aes256_cbc.decrypt w c s) ≡ s
aes_cbc_encrypt_decrypt w c h s e b = encrypt-decrypt (λ x. cipher x w) (λ x. inv_cipher x w) (inv_cipher-inverse w) c h s e b
