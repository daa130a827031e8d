-- What the writer takes: figures, a payload and a lent length that documents 01 and 02 do not refuse.
--
--   "The writer takes minor version, cipher, both seeds, nonce, rounds, custom dictionary (zero length: field absent),
--    T and payload. Order: 4, 9, 5 (seeds, nonce), 11, 10 or 6, 1, 17"                            Writable
--   document 02, Item 3: "fewer than 6,000 rounds", 20 directly after 11; Item 6: "S of 8 to 64 bytes, I 1 to 64, M
--   8,192 to 67,108,864, P 1 to 16, M at least 8,192 times P", 22 in 11's place                   KdfTaken
--   what such an input comes to                                                                   IsWritten
-- g are the figures, c is their cipher, b the payload, n the lent length. T may be anything.
-- Assumes nothing.
use Rattle.std.specs.Prelude.{◌≡◌, List, ℕ, ◌≤◌, length, Ok}
use Rattle.refusals.specs.Limits.{file_limit, payload_limit, rounds_limit, rounds_least, Argon2Bounds}
use Rattle.ciphers.specs.Ciphers.{identifier, nonce_length}
use Rattle.ciphers.specs.declared.Cipher.{Cipher}
use Rattle.kdf_dictionary.specs.declared.writer.Figures.{Figures as KdfFigures}
use Rattle.kdf_dictionary.specs.declared.writer.Figures.TheVariants as kdf
use Rattle.header_writer.specs.Written.{custom_verdict}
use Rattle.writer.specs.Written.{Figures}
use Rattle.writer.specs.Stretches.{file_length}

-- a KDF's figures, with a seed or salt of n bytes
unfoldable pub KdfTaken : KdfFigures → ℕ → Type 0
KdfTaken (kdf.AesKdf rounds) n = (n ≡ 32) × (rounds ≤ rounds_limit) × (rounds_least ≤ rounds)
KdfTaken (kdf.Argon2d passes memory lanes) n = Argon2Bounds n passes memory lanes
KdfTaken (kdf.Argon2id passes memory lanes) n = Argon2Bounds n passes memory lanes

-- how many bytes the file has
abbrev pub size_of : Figures → Cipher → List ℕ → ℕ
size_of g c b = file_length c g.kdf (length g.salt) (length g.custom) (length b)

-- payload and file are within their limits (1), and the file has room (17)
pub record Fits (g : Figures) (c : Cipher) (b : List ℕ) (n : ℕ) : Type 0 where
  pub payload_le : length b ≤ payload_limit
  pub file_le : size_of g c b ≤ file_limit
  pub room : size_of g c b ≤ n

pub record Writable (g : Figures) (c : Cipher) (b : List ℕ) (n : ℕ) : Type 0 where
  -- 4, 9
  pub minor_le : g.minor ≤ 1
  pub cipher_is : g.cipher ≡ identifier c
  -- 5; of AES-KDF's seed too
  pub seed_long : length g.seed ≡ 32
  pub nonce_long : length g.nonce ≡ nonce_length c
  -- 11, 20, 22
  pub kdf_taken : KdfTaken g.kdf (length g.salt)
  -- 10 or 6, where there is a custom dictionary
  pub custom_sound : custom_verdict g.custom ≡ Ok tt
  -- 1, 17
  pub fits : Fits g c b n

-- the writer answered m with n bytes lent: the figures are such figures, and m is the file's length
pub record IsWritten (g : Figures) (b : List ℕ) (n m : ℕ) : Type 0 where
  pub cipher : Cipher
  pub writable : Writable g cipher b n
  pub count_is : m ≡ size_of g cipher b
