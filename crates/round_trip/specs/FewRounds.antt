-- Document 02, Item 3: the rounds of a vault that is read or written.
--
--   "Reader and writer shall turn away fewer than 6,000 rounds"    reader_takes, writer_takes
--   "20, directly after 11"                                        reader_refuses, .., writer_refuses, former_refused
--   6,000 are enough                                               writer_passes, reader_passes
-- Of AES-KDF alone. "Starting the rounds still checks 11 alone" is crate aes_kdf's (AesKdf.start).
-- Not here: the checks themselves (crates outer_header, kdf_dictionary and header_writer).
-- g are the figures, t is T, b the payload, and n bytes are lent.
-- Assumes nothing.
use Rattle.std.specs.Prelude.{◌≡◌, true, List, [], ◌++◌, ℕ, ◌+◌, ◌≤◌, ◌<◌, length, Some, Ok, Err}
use Rattle.words.specs.Endian.{le}
use Rattle.refusals.specs.declared.Refusal.TheVariants.{TooFewRounds}
use Rattle.refusals.specs.Limits.{file_limit}
use Rattle.fields.specs.Fields.{bytes_at, given}
use Rattle.ciphers.specs.Ciphers.{cipher_of, nonce_length}
use Rattle.ciphers.specs.declared.Cipher.{Cipher}
use Rattle.dictionary.specs.Dictionary.{verdict}
use Rattle.kdf_dictionary.specs.Kdf.{aes_kdf_uuid, uuid_name, salt_name, rounds_name}
use Rattle.kdf_dictionary.specs.KdfDictionary.{item_of, fault_at}
use Rattle.kdf_dictionary.specs.declared.AesKdf.{AesKdf}
use Rattle.kdf_dictionary.specs.declared.Kdf.TheVariants as kdf
use Rattle.kdf_dictionary.specs.declared.writer.Figures.TheVariants as figures
use Rattle.outer_header.specs.Kdbx4Header.{no_fields, walk, complete, header}
use Rattle.outer_header.specs.declared.walk.Fields.{Fields}
use Rattle.outer_header.specs.declared.Header.{Header}
use Rattle.header_writer.specs.Written.{custom_verdict}
use Rattle.header_writer.specs.ReadsBack.{rounds_item, written_header}
use Rattle.opening.specs.Decryption.{refused}
use Rattle.vault.specs.Vault.{start_refused, start, opened_in}
use Rattle.writer.specs.Written.{Figures, header_of, checked_of, writing, shown}

-- a dictionary of AES-KDF that passes every check before that of the rounds, with so many rounds
pub record HasRounds (rounds : ℕ) (d : List ℕ) : Type 0 where
  pub sound : verdict d ≡ Ok tt
  pub uuid_long : (item_of d uuid_name 0x42).length ≡ 16
  pub uuid_is : bytes_at d (item_of d uuid_name 0x42) ≡ aes_kdf_uuid
  pub seed_long : (item_of d salt_name 0x42).length ≡ 32
  pub rounds_given : given (item_of d rounds_name 0x05) ≡ true
  pub rounds_are : le 8 d (item_of d rounds_name 0x05).start ≡ rounds

-- a file whose header passes every check before that of the rounds, with so many rounds; its fields and their items
-- may stand in any order, and the custom dictionary is not looked at
pub record Begins (rounds : ℕ) (s : List ℕ) : Type 0 where
  pub fits : length s ≤ file_limit
  pub long : 12 ≤ length s
  pub first_is : le 4 s 0 ≡ 0x9AA2D903
  pub second_is : le 4 s 4 ≡ 0xB54BFB67
  pub minor : ℕ
  pub minor_le : minor ≤ 1
  pub version_is : le 4 s 8 ≡ 0x40000 + minor
  pub fields : Fields
  pub end : ℕ
  pub walk_is : walk (length s) no_fields s 12 ≡ Ok (fields, end)
  pub all_present : complete fields ≡ true
  pub cipher : Cipher
  pub cipher_is : cipher_of (bytes_at s fields.cipher) ≡ Some cipher
  pub uncompressed : le 4 s fields.compression.start ≡ 0
  pub nonce_long : fields.nonce.length ≡ nonce_length cipher
  pub has_rounds : HasRounds rounds (bytes_at s fields.kdf)

-- .. where its item `R` begins: 20's place (document 02, Item 8)
abbrev pub rounds_at : (rounds : ℕ) (s : List ℕ) → Begins rounds s → ℕ
rounds_at rounds s i = fault_at (bytes_at s i.fields.kdf) i.fields.kdf rounds_name

-- figures with so many rounds of AES-KDF that pass every check of the writer before that of the rounds
pub record Asks (c : Cipher) (rounds : ℕ) (g : Figures) : Type 0 where
  pub minor_le : g.minor ≤ 1
  pub cipher_is : cipher_of g.cipher ≡ Some c
  pub seed_long : length g.seed ≡ 32
  pub nonce_long : length g.nonce ≡ nonce_length c
  pub with_aes_kdf : g.kdf ≡ figures.AesKdf rounds
  pub kdf_seed_long : length g.salt ≡ 32

pub record FewRounds : Type 0 where
  -- the reader accepts no header with fewer, the writer writes nothing with fewer
  pub reader_takes : (s : List ℕ) (h : Header) (k : AesKdf) → header s ≡ Ok h → h.kdf ≡ kdf.AesKdf k
      → 6_000 ≤ k.rounds
  pub writer_takes : (g : Figures) (t b : List ℕ) (n m rounds : ℕ) → g.kdf ≡ figures.AesKdf rounds
      → writing g t b n ≡ Ok m
      → 6_000 ≤ rounds
  -- the reader, the start and the whole opener answer 20 at the item `R`, whatever the custom dictionary is and whatever stands behind
  pub reader_refuses : (rounds : ℕ) (s : List ℕ) (i : Begins rounds s) → rounds < 6_000
      → header s ≡ Err (TooFewRounds (rounds_at rounds s i))
  pub start_refuses : (rounds : ℕ) (s : List ℕ) (i : Begins rounds s) → rounds < 6_000
      → (t : List ℕ) → start t s ≡ start_refused (TooFewRounds (rounds_at rounds s i))
  pub whole_refuses : (rounds : ℕ) (s : List ℕ) (i : Begins rounds s) → rounds < 6_000
      → (t : List ℕ) (n : ℕ) → opened_in t s n ≡ refused (TooFewRounds (rounds_at rounds s i))
  -- with any custom dictionary, any payload and any room the writer answers 20, and writes nothing
  pub writer_refuses : (c : Cipher) (rounds : ℕ) (g : Figures) → Asks c rounds g → rounds < 6_000
      → (t b : List ℕ) (n : ℕ) → writing g t b n ≡ Err (TooFewRounds 0)
  pub nothing_shown : (c : Cipher) (rounds : ℕ) (g : Figures) → Asks c rounds g → rounds < 6_000
      → (t b : List ℕ) (n : ℕ) → shown g t b n ≡ []
  -- what was written with such figures before is refused by the reader
  pub former_refused : (c : Cipher) (rounds : ℕ) (g : Figures) → Asks c rounds g → rounds < 6_000
      → (rest : List ℕ) → length (header_of g c ++ rest) ≤ file_limit
      → header (header_of g c ++ rest) ≡ Err (TooFewRounds (rounds_item c))
  -- from 6,000 to 4,000,000 both take them
  pub writer_passes : (c : Cipher) (rounds : ℕ) (g : Figures) → Asks c rounds g → 6_000 ≤ rounds → rounds ≤ 4_000_000
      → custom_verdict g.custom ≡ Ok tt
      → checked_of g ≡ Ok c
  pub reader_passes : (c : Cipher) (rounds : ℕ) (g : Figures) → Asks c rounds g → 6_000 ≤ rounds → rounds ≤ 4_000_000
      → custom_verdict g.custom ≡ Ok tt
      → (rest : List ℕ) → length (header_of g c ++ rest) ≤ file_limit
      → header (header_of g c ++ rest)
      ≡ Ok (written_header g.minor c (figures.AesKdf rounds) 32 (length g.custom))
