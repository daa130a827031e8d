-- The vault that is written: document 01, "File after the header"; document 02, Items 3, 6 and 7.
--
--   "The writer takes minor version, cipher, both seeds, nonce, rounds, custom dictionary .., T and payload";
--   "the writer writes all three" KDFs, each with its own figures                                               Figures
--   "Order: 4, 9, 5 (seeds, nonce), 11, 10 or 6, 1, 17"; "20, directly after 11"; Argon2's 22 in 11's place,
--   "the writer's salt length included"                                                                         writing
--   "all data blocks are full except perhaps the last"                                                          blocks_of
--   "Each block is written directly behind the bytes already laid down"                                         file_cut
--   "raise the one library's file and payload limits .. and the written block" (document 02, Item 7)            sizes
-- t is T. AES-256 in CBC mode over the padded payload (SP 800-38A, 6.2; RFC 5652, 6.3), ChaCha20 from counter 0. The
-- answer and the file are said for any sizes: what the writer wrote with others is compared in crate round_trip.
-- Not here: the header (crate header_writer), a ciphertext in blocks (crate cutting).
-- Assumes nothing.
use Rattle.std.specs.Prelude.{cond, List, [], ◌++◌, ℕ, leb, ltb, length, Result, Ok, Err}
use Rattle.refusals.specs.declared.Refusal.TheVariants.{TooLong, NoRoom}
use Rattle.refusals.specs.Numbers.{Written}
use Rattle.refusals.specs.Limits.{file_limit, payload_limit, written_block}
use Rattle.aes_cbc.specs.Aes256Cbc as aes256_cbc
use Rattle.pkcs7.specs.Pkcs7.{pad}
use Rattle.ciphers.specs.declared.Cipher.{Cipher}
use Rattle.ciphers.specs.declared.Cipher.TheVariants.{Aes256, ChaCha20}
use Rattle.kdf_dictionary.specs.declared.writer.Figures.{Figures as KdfFigures}
use Rattle.header_writer.specs.Written.{header_bytes, checked}
use Rattle.refusals.specs.declared.Refusal.{Refusal}
use Rattle.cutting.specs.Cutting.{cut, blocks_from}
use Rattle.opening.specs.declared.Keys.{Keys}
use Rattle.opening.specs.Decryption.{chacha_from}
use Rattle.opening.specs.Steps.{padded}
use Rattle.vault_keys.specs.VaultKeys.{keys_with, header_hash, header_tag}

-- what is written: minor version, cipher's identifier, master seed, nonce, the KDF's figures, its seed or salt, custom
-- dictionary
pub record Figures : Type 0 where
  pub minor : ℕ
  pub cipher : List ℕ
  pub seed : List ℕ
  pub nonce : List ℕ
  pub kdf : KdfFigures
  pub salt : List ℕ
  pub custom : List ℕ

abbrev pub figures : ℕ → List ℕ → List ℕ → List ℕ → KdfFigures → List ℕ → List ℕ → Figures
figures minor cipher seed nonce kdf salt custom =
    record {
      minor = minor;
      cipher = cipher;
      seed = seed;
      nonce = nonce;
      kdf = kdf;
      salt = salt;
      custom = custom;
    }

-- the ciphertext of a payload
unfoldable pub encryption_by : Cipher → Keys → List ℕ → List ℕ
encryption_by Aes256 k b = aes256_cbc.encrypt k.round_keys.words k.nonce (pad b)
encryption_by ChaCha20 k b = chacha_from k 0 b

-- the ciphertext t in blocks of the size that is written
unfoldable pub blocks_of : List ℕ → List ℕ → List ℕ
blocks_of base t = blocks_from base 0 (cut written_block t)

-- the header of figures, with their cipher
unfoldable pub header_of : Figures → Cipher → List ℕ
header_of g c = header_bytes g.minor c g.seed g.nonce g.kdf g.salt g.custom

-- header, its hash, its tag, blocks of z bytes
unfoldable pub file_with : ℕ → List ℕ → Cipher → Keys → List ℕ → List ℕ
file_with z h c k b = h ++ header_hash h ++ header_tag k.base h ++ blocks_from k.base 0 (cut z (encryption_by c k b))

unfoldable pub file_cut : ℕ → Figures → Cipher → List ℕ → List ℕ → List ℕ
file_cut z g c t b = file_with z (header_of g c) c (keys_with c g.seed (padded g.nonce) t) b

-- the file that is written
abbrev pub file_bytes : Figures → Cipher → List ℕ → List ℕ → List ℕ
file_bytes g c t b = file_cut written_block g c t b

-- what a writer keeps to: the most bytes of a payload and of a file, and the ciphertext in a block
pub record Sizes : Type 0 where
  pub payload : ℕ
  pub file : ℕ
  pub block : ℕ

abbrev pub sizes : Sizes
sizes = record { payload = payload_limit; file = file_limit; block = written_block }

-- the answer for a payload of b bytes and its file of f bytes, n bytes lent: payload or file over its limit (1), room
-- (17)
unfoldable pub settled : Sizes → ℕ → ℕ → ℕ → Written
settled s b f n =
    cond (leb b s.payload)
    (cond (leb f s.file) (cond (ltb n f) (Err NoRoom) (Ok f)) (Err TooLong))
    (Err TooLong)

unfoldable pub writing_by : Sizes → Result Cipher Refusal → Figures → List ℕ → List ℕ → ℕ → Written
writing_by s (Err r) g t b n = Err r
writing_by s (Ok c) g t b n = settled s (length b) (length (file_cut s.block g c t b)) n

unfoldable pub checked_of : Figures → Result Cipher Refusal
checked_of g = checked g.minor g.cipher g.seed g.nonce g.kdf g.salt g.custom

-- the writer's answer with n bytes lent
unfoldable pub writing_with : Sizes → Figures → List ℕ → List ℕ → ℕ → Written
writing_with s g t b n = writing_by s (checked_of g) g t b n

abbrev pub writing : Figures → List ℕ → List ℕ → ℕ → Written
writing g t b n = writing_with sizes g t b n

-- the bytes that it writes: none where it is refused
unfoldable pub shown_by : ℕ → Result Cipher Refusal → Written → Figures → List ℕ → List ℕ → List ℕ
shown_by z (Err r) w g t b = []
shown_by z (Ok c) (Err r) g t b = []
shown_by z (Ok c) (Ok n) g t b = file_cut z g c t b

unfoldable pub shown_with : Sizes → Figures → List ℕ → List ℕ → ℕ → List ℕ
shown_with s g t b n = shown_by s.block (checked_of g) (writing_with s g t b n) g t b

abbrev pub shown : Figures → List ℕ → List ℕ → ℕ → List ℕ
shown g t b n = shown_with sizes g t b n
