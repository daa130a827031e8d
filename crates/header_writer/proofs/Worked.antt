-- Worked numbers of document 01, "Numbers to meet", and the header of its listing program, as theorems.
--
-- In order:
--   length_aes, length_chacha    "AES header without custom data: 207 bytes; ChaCha20: 203"
--   length-kdf                   "KDF dictionary: 93"
--   listed_lines_lem                 the 4.1 ChaCha20 header with R = 6,000, seeds of bytes 11 and 33, nonce of bytes 22
--   checked-listed, checked_custom_lem    its figures may be written, also with an empty custom dictionary
--   checked_most, checked_more   "Rounds 4,000,000 pass, 4,000,001 give 11"
--   checked_fewer                document 02, Item 3: 5,999 give 20
--   checked_salt, checked_salt_short    document 02, Item 6: a salt of 8 bytes passes, of 7 gives 22
-- Assumes nothing.
use mathlib.Core.Path.{◌≡◌, refl, ◌∙◌}
use mathlib.Core.List.{List, [], ◌∷◌, ◌++◌}
use Prim.Native.Nat.{ℕ}
use lib.ListN.{length, replicate}
use Rattle.words.specs.Endian.{le_bytes}
use Rattle.slices.specs.Same.{same}
use Rattle.refusals.specs.declared.Refusal.TheVariants.{TooManyRounds, TooFewRounds, FigureOutside}
use Rattle.refusals.specs.Limits.{rounds_least, rounds_limit, argon2_fits}
use Rattle.fields.specs.Fields.{field_bytes}
use Rattle.ciphers.specs.Ciphers.{identifier, cipher_of, nonce_length}
use Rattle.ciphers.specs.declared.Cipher.TheVariants.{Aes256, ChaCha20}
use Rattle.dictionary.specs.Dictionary.{entry_at, walk_in, walk, verdict, item_bytes}
use Rattle.kdf_dictionary.specs.Kdf.{kdf_bytes, aes_kdf_bytes, kdf_length}
use Rattle.kdf_dictionary.specs.declared.writer.Figures.TheVariants as figures
use Rattle.kdf_dictionary.proofs.Laws.Layout.{length-kdf_bytes}
use Rattle.header_writer.specs.Written.{
  version_bytes,
  custom_field,
  header_bytes,
  header_length,
  custom_in,
  custom_verdict,
  checked_custom,
  salt_sized,
  checked_figures,
  checked_sizes,
  checked_cipher,
  checked,
}
use Rattle.std.specs.Prelude.{Result, Ok, Err}
use Rattle.refusals.specs.declared.Refusal.{Refusal}
use Rattle.ciphers.specs.declared.Cipher.{Cipher}
use Rattle.header_writer.proofs.Laws.Layout.{length-header_bytes}

module _ (minor : ℕ) (seed nonce kdf_seed : List ℕ) (rounds : ℕ) (seed_long : length seed ≡ 32)
    (kdf_seed_long : length kdf_seed ≡ 32) where
  pub length-kdf : length (kdf_bytes (figures.AesKdf rounds) kdf_seed) ≡ 93
  unfolding kdf_length
  length-kdf = length-kdf_bytes (figures.AesKdf rounds) kdf_seed ∙ rw kdf_seed_long

  pub length_aes : length nonce ≡ 16
      → length (header_bytes minor Aes256 seed nonce (figures.AesKdf rounds) kdf_seed []) ≡ 207
  unfolding header_length nonce_length kdf_length
  length_aes n =
      length-header_bytes minor Aes256 seed nonce (figures.AesKdf rounds) kdf_seed [] seed_long n ∙ rw kdf_seed_long

  pub length_chacha : length nonce ≡ 12
      → length (header_bytes minor ChaCha20 seed nonce (figures.AesKdf rounds) kdf_seed []) ≡ 203
  unfolding header_length nonce_length kdf_length
  length_chacha n =
      length-header_bytes minor ChaCha20 seed nonce (figures.AesKdf rounds) kdf_seed [] seed_long n ∙ rw kdf_seed_long

-- the seven lines, byte by byte
abbrev listed_lines : List ℕ
listed_lines =
    (0x03 ∷ 0xD9 ∷ 0xA2 ∷ 0x9A ∷ 0x67 ∷ 0xFB ∷ 0x4B ∷ 0xB5 ∷ 0x01 ∷ 0x00 ∷ 0x04 ∷ 0x00 ∷ [])
    ++ (0x02 ∷ 0x10 ∷ 0x00 ∷ 0x00 ∷ 0x00 ∷ 0xD6 ∷ 0x03 ∷ 0x8A ∷ 0x2B ∷ 0x8B ∷ 0x6F ∷ 0x4C ∷ 0xB5 ∷ 0xA5 ∷ 0x24 ∷ 0x33 ∷
    0x9A ∷ 0x31 ∷ 0xDB ∷ 0xB5 ∷ 0x9A ∷ [])
    ++ (0x03 ∷ 0x04 ∷ 0x00 ∷ 0x00 ∷ 0x00 ∷ 0x00 ∷ 0x00 ∷ 0x00 ∷ 0x00 ∷ [])
    ++ (0x04 ∷ 0x20 ∷ 0x00 ∷ 0x00 ∷ 0x00 ∷ 0x11 ∷ 0x11 ∷ 0x11 ∷ 0x11 ∷ 0x11 ∷ 0x11 ∷ 0x11 ∷ 0x11 ∷ 0x11 ∷ 0x11 ∷ 0x11 ∷
    0x11 ∷ 0x11 ∷ 0x11 ∷ 0x11 ∷ 0x11 ∷ 0x11 ∷ 0x11 ∷ 0x11 ∷ 0x11 ∷ 0x11 ∷ 0x11 ∷ 0x11 ∷ 0x11 ∷ 0x11 ∷ 0x11 ∷ 0x11 ∷
    0x11 ∷ 0x11 ∷ 0x11 ∷ 0x11 ∷ 0x11 ∷ [])
    ++ (0x07 ∷ 0x0C ∷ 0x00 ∷ 0x00 ∷ 0x00 ∷ 0x22 ∷ 0x22 ∷ 0x22 ∷ 0x22 ∷ 0x22 ∷ 0x22 ∷ 0x22 ∷ 0x22 ∷ 0x22 ∷ 0x22 ∷ 0x22 ∷
    0x22 ∷ [])
    ++ (0x0B ∷ 0x5D ∷ 0x00 ∷ 0x00 ∷ 0x00 ∷ 0x00 ∷ 0x01 ∷ 0x42 ∷ 0x05 ∷ 0x00 ∷ 0x00 ∷ 0x00 ∷ 0x24 ∷ 0x55 ∷ 0x55 ∷ 0x49 ∷
    0x44 ∷ 0x10 ∷ 0x00 ∷ 0x00 ∷ 0x00 ∷ 0xC9 ∷ 0xD9 ∷ 0xF3 ∷ 0x9A ∷ 0x62 ∷ 0x8A ∷ 0x44 ∷ 0x60 ∷ 0xBF ∷ 0x74 ∷ 0x0D ∷
    0x08 ∷ 0xC1 ∷ 0x8A ∷ 0x4F ∷ 0xEA ∷ 0x05 ∷ 0x01 ∷ 0x00 ∷ 0x00 ∷ 0x00 ∷ 0x52 ∷ 0x08 ∷ 0x00 ∷ 0x00 ∷ 0x00 ∷ 0x70 ∷
    0x17 ∷ 0x00 ∷ 0x00 ∷ 0x00 ∷ 0x00 ∷ 0x00 ∷ 0x00 ∷ 0x42 ∷ 0x01 ∷ 0x00 ∷ 0x00 ∷ 0x00 ∷ 0x53 ∷ 0x20 ∷ 0x00 ∷ 0x00 ∷
    0x00 ∷ 0x33 ∷ 0x33 ∷ 0x33 ∷ 0x33 ∷ 0x33 ∷ 0x33 ∷ 0x33 ∷ 0x33 ∷ 0x33 ∷ 0x33 ∷ 0x33 ∷ 0x33 ∷ 0x33 ∷ 0x33 ∷ 0x33 ∷
    0x33 ∷ 0x33 ∷ 0x33 ∷ 0x33 ∷ 0x33 ∷ 0x33 ∷ 0x33 ∷ 0x33 ∷ 0x33 ∷ 0x33 ∷ 0x33 ∷ 0x33 ∷ 0x33 ∷ 0x33 ∷ 0x33 ∷ 0x33 ∷
    0x33 ∷ 0x00 ∷ [])
    ++ (0x00 ∷ 0x04 ∷ 0x00 ∷ 0x00 ∷ 0x00 ∷ 0x0D ∷ 0x0A ∷ 0x0D ∷ 0x0A ∷ [])

pub listed_lines_lem : header_bytes 1 ChaCha20 (replicate 32 0x11) (replicate 12 0x22) (figures.AesKdf 6_000) (replicate 32 0x33) []
    ≡ listed_lines
unfolding header_bytes version_bytes custom_field field_bytes kdf_bytes aes_kdf_bytes item_bytes le_bytes identifier
listed_lines_lem = refl

-- what the writer says to these figures
abbrev listed_checked : ℕ → List ℕ → Result Cipher Refusal
listed_checked rounds custom =
    checked 1 (identifier ChaCha20) (replicate 32 0x11) (replicate 12 0x22) (figures.AesKdf rounds) (replicate 32 0x33) custom

pub checked-listed : listed_checked 6_000 [] ≡ Ok ChaCha20
unfolding checked checked_cipher checked_sizes salt_sized checked_figures checked_custom custom_in custom_verdict cipher_of identifier nonce_length same rounds_limit rounds_least
checked-listed = refl

pub checked_custom_lem : listed_checked 6_000 (0x00 ∷ 0x01 ∷ 0x00 ∷ []) ≡ Ok ChaCha20
unfolding checked checked_cipher checked_sizes salt_sized checked_figures checked_custom custom_in custom_verdict cipher_of identifier nonce_length same rounds_limit rounds_least verdict walk walk_in entry_at
checked_custom_lem = refl

pub checked_most : listed_checked 4_000_000 [] ≡ Ok ChaCha20
unfolding checked checked_cipher checked_sizes salt_sized checked_figures checked_custom custom_in custom_verdict cipher_of identifier nonce_length same rounds_limit rounds_least
checked_most = refl

pub checked_more : listed_checked 4_000_001 [] ≡ Err (TooManyRounds 0)
unfolding checked checked_cipher checked_sizes salt_sized checked_figures checked_custom custom_in custom_verdict cipher_of identifier nonce_length same rounds_limit rounds_least
checked_more = refl

pub checked_fewer : listed_checked 5_999 [] ≡ Err (TooFewRounds 0)
unfolding checked checked_cipher checked_sizes salt_sized checked_figures checked_custom custom_in custom_verdict cipher_of identifier nonce_length same rounds_limit rounds_least
checked_fewer = refl

-- what the writer says to Argon2 with a salt
abbrev salted_checked : List ℕ → Result Cipher Refusal
salted_checked salt =
    checked 1 (identifier ChaCha20) (replicate 32 0x11) (replicate 12 0x22) (figures.Argon2d 1 8_192 1) salt []

pub checked_salt : salted_checked (replicate 8 0x33) ≡ Ok ChaCha20
unfolding checked checked_cipher checked_sizes salt_sized checked_figures checked_custom custom_in custom_verdict cipher_of identifier nonce_length same argon2_fits
checked_salt = refl

pub checked_salt_short : salted_checked (replicate 7 0x33) ≡ Err (FigureOutside 0)
unfolding checked checked_cipher checked_sizes salt_sized checked_figures checked_custom custom_in custom_verdict cipher_of identifier nonce_length same argon2_fits
checked_salt_short = refl
