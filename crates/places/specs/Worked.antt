-- The places of the worked header's faults: document 01, "Numbers to meet", the 4.1 ChaCha20 header of 203 bytes with
-- R = 6,000, and document 02, Item 8.
--
-- Its fields begin at 12 (cipher), 33 (compression), 42 (seed), 79 (nonce), 96 (KDF) and 194 (end); the KDF dictionary at
-- 101, with its items at 103 (`$UUID`), 133 (`R`) and 151 (`S`).
-- Assumes nothing.
use Rattle.std.specs.Prelude.{◌≡◌, List, [], ◌∷◌, ◌++◌, ℕ, replicate, Err}
use Rattle.words.specs.Endian.{le_bytes}
use Rattle.refusals.specs.declared.Refusal.TheVariants.{CutShort, WrongSignature, WrongVersion, WrongSize, Repeated, UnknownField, Absent, Unlisted, BrokenDictionary, TooManyRounds, TooFewRounds}
use Rattle.fields.specs.Fields.{field_bytes}
use Rattle.ciphers.specs.Ciphers.{identifier}
use Rattle.ciphers.specs.declared.Cipher.TheVariants.{ChaCha20}
use Rattle.dictionary.specs.Dictionary.{item_bytes}
use Rattle.kdf_dictionary.specs.Kdf.{aes_kdf_uuid, uuid_name, salt_name, rounds_name}
use Rattle.outer_header.specs.Kdbx4Header.{header}

-- signatures and version
abbrev pub front : ℕ → ℕ → List ℕ
front second version = le_bytes 4 0x9AA2D903 ++ le_bytes 4 second ++ le_bytes 4 version

abbrev pub good : List ℕ
good = front 0xB54BFB67 0x40001

-- the fields, in the worked header's order
abbrev pub cipher : List ℕ
cipher = field_bytes 2 (identifier ChaCha20)

abbrev pub compression : ℕ → List ℕ
compression n = field_bytes 3 (le_bytes 4 n)

abbrev pub seed : List ℕ
seed = field_bytes 4 (replicate 32 0x11)

abbrev pub nonce : ℕ → List ℕ
nonce n = field_bytes 7 (replicate n 0x22)

abbrev pub dictionary : List ℕ → ℕ → List ℕ → List ℕ → List ℕ
dictionary uuid rounds salt more =
    0x00 ∷ 0x01 ∷ item_bytes 0x42 uuid_name uuid ++ item_bytes 0x05 rounds_name (le_bytes 8 rounds)
    ++ item_bytes 0x42 salt_name salt ++ more

abbrev pub kdf : List ℕ → List ℕ
kdf d = field_bytes 11 d

abbrev pub salted : List ℕ
salted = replicate 32 0x33

abbrev pub sound : List ℕ
sound = dictionary aes_kdf_uuid 6_000 salted (0x00 ∷ [])

abbrev pub end : List ℕ
end = field_bytes 0 (0x0D ∷ 0x0A ∷ 0x0D ∷ 0x0A ∷ [])

-- the header with another KDF dictionary, and with fields before the end field
abbrev pub with_kdf : List ℕ → List ℕ
with_kdf d = good ++ cipher ++ compression 0 ++ seed ++ nonce 12 ++ kdf d ++ end

abbrev pub with_fields : List ℕ → List ℕ
with_fields more = good ++ cipher ++ compression 0 ++ seed ++ nonce 12 ++ kdf sound ++ more ++ end

pub record WorkedPlaces : Type 0 where
  pub second_signature : header (front 0x9AA2D903 0x40001 ++ cipher ++ end) ≡ Err (WrongSignature 4)
  pub other_version : header (front 0xB54BFB67 0x40002 ++ cipher ++ end) ≡ Err (WrongVersion 8)
  pub cut_short : header (good ++ cipher ++ compression 0) ≡ Err (CutShort 42)
  pub other_cipher : header (good ++ field_bytes 2 (replicate 16 0) ++ compression 0 ++ seed ++ nonce 12 ++ kdf sound ++ end)
      ≡ Err (Unlisted 12)
  pub compressed : header (good ++ cipher ++ compression 1 ++ seed ++ nonce 12 ++ kdf sound ++ end)
      ≡ Err (Unlisted 33)
  pub other_nonce : header (good ++ cipher ++ compression 0 ++ seed ++ nonce 16 ++ kdf sound ++ end)
      ≡ Err (WrongSize 79)
  pub no_kdf : header (good ++ cipher ++ compression 0 ++ seed ++ nonce 12 ++ end) ≡ Err (Absent 96)
  pub second_seed : header (with_fields seed) ≡ Err (Repeated 194)
  pub unknown_field : header (with_fields (field_bytes 1 [])) ≡ Err (UnknownField 194)
  pub wrong_end : header (good ++ cipher ++ compression 0 ++ seed ++ nonce 12 ++ kdf sound ++ field_bytes 0 (replicate 4 0))
      ≡ Err (WrongSize 194)
  pub other_kdf : header (with_kdf (dictionary (replicate 16 0) 6_000 salted (0x00 ∷ []))) ≡ Err (Unlisted 103)
  pub one_round : header (with_kdf (dictionary aes_kdf_uuid 1 salted (0x00 ∷ []))) ≡ Err (TooFewRounds 133)
  pub many_rounds : header (with_kdf (dictionary aes_kdf_uuid 4_000_001 salted (0x00 ∷ [])))
      ≡ Err (TooManyRounds 133)
  pub short_salt : header (with_kdf (dictionary aes_kdf_uuid 6_000 (replicate 31 0x33) (0x00 ∷ [])))
      ≡ Err (BrokenDictionary 151)
  -- behind the three items, at 193 of the file
  pub second_rounds : header (with_kdf (dictionary aes_kdf_uuid 6_000 salted (item_bytes 0x04 rounds_name (le_bytes 4 0) ++ (0x00 ∷ []))))
      ≡ Err (Repeated 193)
  -- no closing byte: no item's fault
  pub not_closed : header (with_kdf (dictionary aes_kdf_uuid 6_000 salted [])) ≡ Err (BrokenDictionary 101)
  pub no_items : header (with_kdf (0x00 ∷ 0x01 ∷ 0x00 ∷ [])) ≡ Err (BrokenDictionary 101)
  -- a custom dictionary of no bytes begins behind the five bytes of its field
  pub empty_custom : header (with_fields (field_bytes 12 [])) ≡ Err (BrokenDictionary 199)
