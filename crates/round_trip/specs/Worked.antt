-- Document 01, "Numbers to meet": everything that is marked P, as one table with a field or two for each line, each
-- about what an operation answers.
--
--   Plain                       figures of AES-KDF, without custom data, that the writer takes
--   Writes                      the writer's answer, and the file that it writes
--   in_no_block .. in_two_blocks    a file with so many data blocks
--   in5_and27                    a file whose ciphertext stands in blocks of 5 and 27 bytes
--   Front, Before               a file's first twelve bytes pass; the fields before a place
--   WorkedNumbers               the table
-- "document 01's worked sizes are AES-KDF's" (document 02, Item 6); those of Argon2's dictionaries stand beside them.
-- Document 02, Item 7, puts one data block and a file of 16,743 bytes in the place of "16,384: two, file 16,779"; Item
-- 3 adds the least rounds, Item 8 the places of refusals.
-- Assumes nothing.
use Rattle.std.specs.Prelude.{◌≡◌, false, ◌≢◌, List, [], ◌∷◌, ◌++◌, ℕ, ◌+◌, ◌-◌, ◌≤◌, ◌<◌, length, get_or, take, drop, Ok, Err}
use Rattle.words.specs.Endian.{le, Bytes}
use Rattle.refusals.specs.declared.Refusal.TheVariants.{CutShort, WrongSize, TooManyRounds, TooFewRounds}
use Rattle.refusals.specs.Limits.{file_limit, written_block}
use Rattle.pkcs7.specs.Pkcs7.{padding}
use Rattle.ciphers.specs.Ciphers.{identifier, nonce_length}
use Rattle.ciphers.specs.declared.Cipher.{Cipher}
use Rattle.ciphers.specs.declared.Cipher.TheVariants.{Aes256, ChaCha20}
use Rattle.aes_kdf.specs.AesKdf as aes_kdf
use Rattle.fields.specs.Fields.{end_of, bytes_at}
use Rattle.fields.specs.declared.Place.{Place}
use Rattle.kdf_dictionary.specs.Kdf.{salt_name, kdf_bytes}
use Rattle.kdf_dictionary.specs.KdfDictionary.{item_of, place_in}
use Rattle.kdf_dictionary.specs.declared.writer.Figures.TheVariants as figures
use Rattle.kdf_dictionary.specs.declared.Kdf.TheVariants as kdf
use Rattle.outer_header.specs.Kdbx4Header.{seen, put, no_fields, field_here, custom_of, header}
use Rattle.outer_header.specs.declared.walk.Fields.{Fields}
use Rattle.header_writer.specs.Written.{header_bytes, custom_verdict}
use Rattle.header_writer.specs.ReadsBack.{rounds_item, written_header}
use Rattle.block_stream.specs.Blocks.{block_bytes}
use Rattle.opening.specs.declared.Keys.{Keys}
use Rattle.opening.specs.declared.Phase.TheVariants.{Ended}
use Rattle.opening.specs.Decryption.{decryption_by}
use Rattle.opening.specs.Agreement.{step_answers, handed_over, plain_after}
use Rattle.opening.specs.Worked.{Blocks5And27, ClosingBehind, ciphertext, writtens}
use Rattle.vault.specs.Vault.{start, begun}
use Rattle.recutting.specs.Opens.{BothOpen}
use Rattle.recutting.specs.Recut.{recut}
use Rattle.writer.specs.Written.{Figures, header_of, encryption_by, file_bytes, writing, shown}
use Rattle.writer.specs.Stretches.{summed}
use Rattle.round_trip.specs.Opens.{file_keys, first_block_of}
use Rattle.round_trip.specs.FewRounds.{Begins, rounds_at, Asks}
use Rattle.round_trip.specs.Writable.{size_of, Fits}

-- AES-KDF with figures that the writer takes, without custom data
pub record Plain (c : Cipher) (g : Figures) : Type 0 where
  pub minor_le : g.minor ≤ 1
  pub cipher_is : g.cipher ≡ identifier c
  pub seed_long : length g.seed ≡ 32
  pub nonce_long : length g.nonce ≡ nonce_length c
  pub rounds : ℕ
  pub rounds_enough : 6_000 ≤ rounds
  pub rounds_within : rounds ≤ 4_000_000
  pub with_aes_kdf : g.kdf ≡ figures.AesKdf rounds
  pub kdf_seed_long : length g.salt ≡ 32
  pub no_custom : g.custom ≡ []

-- with n bytes lent the writer answers m, and writes f
pub record Writes (g : Figures) (t b : List ℕ) (n m : ℕ) (f : List ℕ) : Type 0 where
  pub answers : writing g t b n ≡ Ok m
  pub shows : shown g t b n ≡ f

-- the tag base of a written file, its ciphertext, and all of it before the first block
abbrev pub tag_base_of : Cipher → Figures → List ℕ → List ℕ
tag_base_of c g t = (file_keys g c t).base

abbrev pub text_of : Cipher → Figures → List ℕ → List ℕ → List ℕ
text_of c g t b = encryption_by c (file_keys g c t) b

abbrev pub front_of : Cipher → Figures → List ℕ → List ℕ
front_of c g t = summed (tag_base_of c g t) (header_of g c)

-- with no data block, with one, and with a full one and another; each with the closing block
abbrev pub in_no_block : Cipher → Figures → List ℕ → List ℕ
in_no_block c g t = front_of c g t ++ block_bytes (tag_base_of c g t) 0 []

abbrev pub in_one_block : Cipher → Figures → List ℕ → List ℕ → List ℕ
in_one_block c g t b =
    front_of c g t ++ (block_bytes (tag_base_of c g t) 0 (text_of c g t b) ++ block_bytes (tag_base_of c g t) 1 [])

abbrev pub in_two_blocks : Cipher → Figures → List ℕ → List ℕ → List ℕ
in_two_blocks c g t b =
    front_of c g t
    ++ (block_bytes (tag_base_of c g t) 0 (take written_block (text_of c g t b))
    ++ (block_bytes (tag_base_of c g t) 1 (drop written_block (text_of c g t b)) ++ block_bytes (tag_base_of c g t) 2 []))

-- an AES file, cut anew into blocks of 5 and 27 bytes (document 02, Item 13)
abbrev pub in5_and27 : Figures → List ℕ → List ℕ → List ℕ
in5_and27 g t b = recut (file_keys g Aes256 t) (file_bytes g Aes256 t b) (first_block_of g Aes256) (5 ∷ 27 ∷ [])

-- such a file opens, and has the blocks of which the table speaks
pub record Has5And27 (g : Figures) (t b : List ℕ) : Type 0 where
  -- its bytes
  pub bytes_are : in5_and27 g t b
      ≡ front_of Aes256 g t
      ++ (block_bytes (tag_base_of Aes256 g t) 0 (take 5 (text_of Aes256 g t b))
      ++ (block_bytes (tag_base_of Aes256 g t) 1 (take 27 (drop 5 (text_of Aes256 g t b)))
      ++ block_bytes (tag_base_of Aes256 g t) 2 []))
  -- it opens to the payload, in three steps
  pub opens : BothOpen t (in5_and27 g t b) (file_keys g Aes256 t) (first_block_of g Aes256) b 3
  pub blocks : Blocks5And27 (file_keys g Aes256 t) (in5_and27 g t b) (first_block_of g Aes256)
  pub closing : ClosingBehind (file_keys g Aes256 t) (in5_and27 g t b) (first_block_of g Aes256)
  pub padding_is : padding
      (decryption_by Aes256 (file_keys g Aes256 t) (ciphertext (in5_and27 g t b) (first_block_of g Aes256)))
      ≡ 32 - length b

-- a file within its limit, whose signatures and version pass
pub record Front (s : List ℕ) : Type 0 where
  pub fits : length s ≤ file_limit
  pub long : 12 ≤ length s
  pub first_is : le 4 s 0 ≡ 0x9AA2D903
  pub second_is : le 4 s 4 ≡ 0xB54BFB67
  pub minor : ℕ
  pub minor_le : minor ≤ 1
  pub version_is : le 4 s 8 ≡ 0x40000 + minor

-- the fields of a file up to a place, each sound and none the end field
pub data Before (s : List ℕ) : Fields → ℕ → Type 0 where
  none : Before s no_fields 12
  more : {f : Fields} {at : ℕ} → Before s f at → (id : ℕ) (p : Place) → field_here f s at ≡ Ok (id, p) → id ≢ 0
      → Before s (put f id p) (end_of p)

-- a custom dictionary's field with a size, behind any other fields
pub record CustomOf (size : ℕ) (s : List ℕ) (at : ℕ) : Type 0 where
  pub front : Front s
  pub fields : Fields
  pub before : Before s fields at
  pub first : seen fields 12 ≡ false
  pub present : at + 5 ≤ length s
  pub id_is : get_or s at 0 ≡ 12
  pub size_is : le 4 s (at + 1) ≡ size

-- where a KDF dictionary at a place of a file has its seed
abbrev pub seed_in : List ℕ → Place → Place
seed_in s p = place_in p (item_of (bytes_at s p) salt_name 0x42)

pub record WorkedNumbers : Type 0 where
  -- "AES header without custom data: 207 bytes; ChaCha20: 203; KDF dictionary: 93"
  pub header_aes : (minor : ℕ) (seed nonce kdf_seed : List ℕ) (rounds : ℕ) → length seed ≡ 32 → length kdf_seed ≡ 32
      → length nonce ≡ 16 → length (header_bytes minor Aes256 seed nonce (figures.AesKdf rounds) kdf_seed []) ≡ 207
  pub header_chacha : (minor : ℕ) (seed nonce kdf_seed : List ℕ) (rounds : ℕ) → length seed ≡ 32 → length kdf_seed ≡ 32
      → length nonce ≡ 12 → length (header_bytes minor ChaCha20 seed nonce (figures.AesKdf rounds) kdf_seed []) ≡ 203
  pub kdf_dictionary_is : (kdf_seed : List ℕ) (rounds : ℕ) → length kdf_seed ≡ 32
      → length (kdf_bytes (figures.AesKdf rounds) kdf_seed) ≡ 93
  -- Argon2's dictionaries: 107 bytes and the salt, so 139 with a salt of 32
  pub argon2d_dictionary : (salt : List ℕ) (passes memory lanes : ℕ)
      → length (kdf_bytes (figures.Argon2d passes memory lanes) salt) ≡ 107 + length salt
  pub argon2id_dictionary : (salt : List ℕ) (passes memory lanes : ℕ)
      → length (kdf_bytes (figures.Argon2id passes memory lanes) salt) ≡ 107 + length salt
  -- "Empty payload: AES file 359 bytes, ChaCha20 303. ChaCha20, 1 byte: 340"
  pub empty_aes : (g : Figures) → Plain Aes256 g → (t : List ℕ) (n : ℕ) → 359 ≤ n
      → Writes g t [] n 359 (in_one_block Aes256 g t [])
  pub empty_chacha : (g : Figures) → Plain ChaCha20 g → (t : List ℕ) (n : ℕ) → 303 ≤ n
      → Writes g t [] n 303 (in_no_block ChaCha20 g t)
  pub one_chacha : (g : Figures) → Plain ChaCha20 g → (t b : List ℕ) → length b ≡ 1 → (n : ℕ) → 340 ≤ n
      → Writes g t b n 340 (in_one_block ChaCha20 g t b)
  -- "AES payload 16,383: one data block"; document 02, Item 7: "AES payload 16,384 now makes one data block, file
  -- 16,743"
  pub one_block_aes : (g : Figures) → Plain Aes256 g → (t b : List ℕ) → length b ≡ 16_383 → (n : ℕ) → 16_727 ≤ n
      → Writes g t b n 16_727 (in_one_block Aes256 g t b)
  pub now_one_block_aes : (g : Figures) → Plain Aes256 g → (t b : List ℕ) → length b ≡ 16_384 → (n : ℕ) → 16_743 ≤ n
      → Writes g t b n 16_743 (in_one_block Aes256 g t b)
  -- the written block is 1,048,576 (Item 7): AES payload 1,048,575: one data block; 1,048,576: two, file 1,048,971
  pub full_block_aes : (g : Figures) → Plain Aes256 g → (t b : List ℕ) → length b ≡ 1_048_575 → (n : ℕ)
      → 1_048_919 ≤ n → Writes g t b n 1_048_919 (in_one_block Aes256 g t b)
  pub two_blocks_aes : (g : Figures) → Plain Aes256 g → (t b : List ℕ) → length b ≡ 1_048_576 → (n : ℕ)
      → 1_048_971 ≤ n → Writes g t b n 1_048_971 (in_two_blocks Aes256 g t b)
  -- "ChaCha20 16,384: one, file 16,723"
  pub one_block_chacha : (g : Figures) → Plain ChaCha20 g → (t b : List ℕ) → length b ≡ 16_384 → (n : ℕ) → 16_723 ≤ n
      → Writes g t b n 16_723 (in_one_block ChaCha20 g t b)
  -- "AES c = 16: 0 handed over; c = 17: 16": any list of steps from an accepted start, until the closing block is taken
  pub handed_16 : (t f : List ℕ) (k : Keys) (p : ℕ) → start t f ≡ begun k p → k.cipher ≡ Aes256 → (rooms : List ℕ)
      → (plain_after k f p rooms).phase ≢ Ended → length (plain_after k f p rooms).text ≡ 16
      → length (handed_over k f p rooms) ≡ 0
  pub handed_17 : (t f : List ℕ) (k : Keys) (p : ℕ) → start t f ≡ begun k p → k.cipher ≡ Aes256 → (rooms : List ℕ)
      → (plain_after k f p rooms).phase ≢ Ended → length (plain_after k f p rooms).text ≡ 17
      → length (handed_over k f p rooms) ≡ 16
  -- "AES blocks of 5 and 27: 0 then 16; padding 1 adds 15, padding 16 adds 0": any such file
  pub steps_5_27 : (k : Keys) (f : List ℕ) (p : ℕ) → Blocks5And27 k f p → (n m : ℕ) → 16 ≤ m
      → writtens (step_answers k f p (n ∷ m ∷ [])) ≡ Ok 0 ∷ Ok 16 ∷ []
  pub padding_1 : (k : Keys) (f : List ℕ) (p : ℕ) → Blocks5And27 k f p → ClosingBehind k f p
      → padding (decryption_by Aes256 k (ciphertext f p)) ≡ 1 → (n m r : ℕ) → 16 ≤ m → 15 ≤ r
      → writtens (step_answers k f p (n ∷ m ∷ r ∷ [])) ≡ Ok 0 ∷ Ok 16 ∷ Ok 15 ∷ []
  pub padding_16 : (k : Keys) (f : List ℕ) (p : ℕ) → Blocks5And27 k f p → ClosingBehind k f p
      → padding (decryption_by Aes256 k (ciphertext f p)) ≡ 16 → (n m r : ℕ) → 16 ≤ m
      → writtens (step_answers k f p (n ∷ m ∷ r ∷ [])) ≡ Ok 0 ∷ Ok 16 ∷ Ok 0 ∷ []
  -- .. and there are such files: a payload of 31 bytes has a padding of 1, one of 16 bytes a padding of 16
  pub has_5_27 : (g : Figures) → Plain Aes256 g → Bytes g.nonce → (t b : List ℕ) → Bytes b → 16 ≤ length b
      → length b < 32
      → Has5And27 g t b
  -- "Custom dictionary field of size FFFFFFFF: 5. Of 7FFFFFFF in a short file: 2": the reader of a whole header
  pub custom_negative : (s : List ℕ) (at : ℕ) → CustomOf 0xFFFFFFFF s at → header s ≡ Err (WrongSize at)
  pub custom_long : (s : List ℕ) (at : ℕ) → CustomOf 0x7FFFFFFF s at → header s ≡ Err (CutShort (length s))
  -- "Rounds 4,000,000 pass, 4,000,001 give 11": the reader of a whole header, whose fields and items stand in any order
  pub read_most : (s : List ℕ) (i : Begins 4_000_000 s) → custom_of s i.fields.custom ≡ Ok tt
      → header s
      ≡ Ok (record {
        minor = i.minor;
        cipher = i.cipher;
        seed = i.fields.seed;
        nonce = i.fields.nonce;
        kdf = kdf.AesKdf (record { seed = seed_in s i.fields.kdf; rounds = 4_000_000 });
        kdf_dictionary = i.fields.kdf;
        custom = i.fields.custom;
        length = i.end;
      })
  pub read_more : (s : List ℕ) (i : Begins 4_000_001 s)
      → header s ≡ Err (TooManyRounds (rounds_at 4_000_001 s i))
  -- .. the writer
  pub written_most : (c : Cipher) (g : Figures) → Asks c 4_000_000 g → custom_verdict g.custom ≡ Ok tt
      → (t b : List ℕ) (n : ℕ) → Fits g c b n
      → writing g t b n ≡ Ok (size_of g c b)
  pub written_more : (c : Cipher) (g : Figures) → Asks c 4_000_001 g
      → (t b : List ℕ) (n : ℕ) → writing g t b n ≡ Err (TooManyRounds 0)
  -- .. and the start of AES-KDF
  pub started_most : (composite seed : List ℕ) → (aes_kdf.start composite seed 4_000_000).outcome ≡ Ok tt
  pub started_more : (composite seed : List ℕ)
      → aes_kdf.start composite seed 4_000_001
      ≡ record { outcome = Err (TooManyRounds 0); next = aes_kdf.refused }
  -- document 02, Item 3: 6,000 pass, 5,999 give 20, of the reader of a whole header and of the writer
  pub read_6000 : (c : Cipher) (g : Figures) → Asks c 6_000 g → custom_verdict g.custom ≡ Ok tt
      → (rest : List ℕ) → length (header_of g c ++ rest) ≤ file_limit
      → header (header_of g c ++ rest)
      ≡ Ok (written_header g.minor c (figures.AesKdf 6_000) 32 (length g.custom))
  pub read_5999 : (c : Cipher) (g : Figures) → Asks c 5_999 g
      → (rest : List ℕ) → length (header_of g c ++ rest) ≤ file_limit
      → header (header_of g c ++ rest) ≡ Err (TooFewRounds (rounds_item c))
  pub written_6000 : (c : Cipher) (g : Figures) → Asks c 6_000 g → custom_verdict g.custom ≡ Ok tt
      → (t b : List ℕ) (n : ℕ) → Fits g c b n
      → writing g t b n ≡ Ok (size_of g c b)
  pub written_5999 : (c : Cipher) (g : Figures) → Asks c 5_999 g
      → (t b : List ℕ) (n : ℕ) → writing g t b n ≡ Err (TooFewRounds 0)
  -- "Eleven bytes of anything: 2"
  pub eleven : (s : List ℕ) → length s ≡ 11 → header s ≡ Err (CutShort 11)
