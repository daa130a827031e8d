-- How a vault's ciphertext is made piece by piece, and how long the file is, before a byte of it is written.
--
--   stretch_by, prev_by          a stretch of the text encrypted, and the piece that what follows is chained to
--   text_of, text_length         what is encrypted of a payload: for AES-256 with its padding
--   blocks_at                   the blocks from a number on
--   blocks_length               how long they are
--   summed                     a header with its hash and tag
--   file_length, file_of         how long the file is, and the file
--   Sized                      what the header's checks say of seed, nonce and salt
--   bytes_of                    the bytes written with an answer
-- A stretch stands behind the ciphertext piece v (at first the nonce), its first byte at position p of the text.
-- Not here: the file (Written).
-- Assumes nothing.
use Rattle.std.specs.Prelude.{◌≡◌, List, [], ◌++◌, ℕ, ◌+◌, ◌≤◌, length, Ok, Err}
use Rattle.slices.specs.Over.{over}
use Rattle.refusals.specs.Numbers.{Written}
use Rattle.refusals.specs.Limits.{written_block}
use Rattle.cbc.specs.Sp80038a.{previous}
use Rattle.aes_cbc.specs.Aes256Cbc as aes256_cbc
use Rattle.pkcs7.specs.Pkcs7.{pad, padding_length}
use Rattle.ciphers.specs.Ciphers.{nonce_length}
use Rattle.ciphers.specs.declared.Cipher.{Cipher}
use Rattle.ciphers.specs.declared.Cipher.TheVariants.{Aes256, ChaCha20}
use Rattle.kdf_dictionary.specs.declared.writer.Figures.{Figures as KdfFigures}
use Rattle.header_writer.specs.Written.{header_bytes, header_length}
use Rattle.cutting.specs.Cutting.{cut, blocks_from, cut_length}
use Rattle.opening.specs.declared.Keys.{Keys}
use Rattle.opening.specs.Decryption.{chacha_from}
use Rattle.opening.specs.Steps.{padded}
use Rattle.vault_keys.specs.VaultKeys.{keys_with, header_hash, header_tag}
use Rattle.writer.specs.Written.{file_with}

unfoldable pub stretch_by : Cipher → Keys → List ℕ → ℕ → List ℕ → List ℕ
stretch_by Aes256 k v p s = aes256_cbc.encrypt k.round_keys.words v s
stretch_by ChaCha20 k v p s = chacha_from k p s

-- .. over the stretch itself: all of it, where it is in whole pieces
abbrev pub encrypted_over : Cipher → Keys → List ℕ → ℕ → List ℕ → List ℕ
encrypted_over c k v p s = over (stretch_by c k v p s) s

unfoldable pub prev_by : Cipher → Keys → List ℕ → List ℕ → List ℕ
prev_by Aes256 k v s = previous v (aes256_cbc.encrypt k.round_keys.words v s)
prev_by ChaCha20 k v s = v

unfoldable pub text_of : Cipher → List ℕ → List ℕ
text_of Aes256 b = pad b
text_of ChaCha20 b = b

unfoldable pub text_length : Cipher → ℕ → ℕ
text_length Aes256 n = n + padding_length n
text_length ChaCha20 n = n

abbrev pub blocks_at : List ℕ → ℕ → List ℕ → List ℕ
blocks_at base i t = blocks_from base i (cut written_block t)

-- the blocks of the last bytes b of a payload
abbrev pub last_blocks : Keys → List ℕ → ℕ → ℕ → List ℕ → List ℕ
last_blocks k v i p b = blocks_at k.base i (stretch_by k.cipher k v p (text_of k.cipher b))

-- how long the blocks of n bytes of ciphertext are
unfoldable pub blocks_length : ℕ → ℕ
blocks_length n = cut_length written_block n

-- the file of a seed or salt of l bytes, a custom dictionary of m and a payload of n
unfoldable pub file_length : Cipher → KdfFigures → ℕ → ℕ → ℕ → ℕ
file_length c fig l m n = header_length c fig l m + 64 + blocks_length (text_length c n)

-- a header with its hash and its tag
abbrev pub summed : List ℕ → List ℕ → List ℕ
summed base h = h ++ header_hash h ++ header_tag base h

-- the file of figures, with T and the payload b
abbrev pub file_of : ℕ → Cipher → List ℕ → List ℕ → KdfFigures → List ℕ → List ℕ → List ℕ → List ℕ → List ℕ
file_of minor c seed nonce fig salt custom t b =
    file_with written_block (header_bytes minor c seed nonce fig salt custom) c (keys_with c seed (padded nonce) t) b

-- master seed s and nonce n of the right sizes, the KDF's seed or salt no longer than any KDF takes
pub record Sized (c : Cipher) (s n salt : List ℕ) : Type 0 where
  pub seed : length s ≡ 32
  pub nonce : length n ≡ nonce_length c
  pub salt_le : length salt ≤ 64

unfoldable pub bytes_of : Written → List ℕ → List ℕ
bytes_of (Err r) f = []
bytes_of (Ok n) f = f
