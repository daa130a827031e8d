-- The KDF dictionaries that are written: document 01, "Header" and "File after the header"; document 02, Item 6.
--
--   "AES-KDF is C9D9F39A628A4460BF740D08C18A4FEA"         aes_kdf_uuid
--   "Argon2d (EF63 ..) or Argon2id (9E29 ..)"             argon2d_uuid, argon2id_uuid
--   "0x0100 is written", "KDF items `$UUID`, `R`, `S`"    aes_kdf_bytes
--   "the writer writes all three, items in byte order
--    of their names": `$UUID`, `I`, `M`, `P`, `S`, `V`    argon2_bytes
--   a KDF's figures, with its seed or salt beside them    kdf_bytes, kdf_length
--   .. and as the reader is to find them                  written_kdf, IsWritable
-- Not here: an item's bytes (crate dictionary), reading (KdfDictionary).
-- Assumes nothing.
use Rattle.std.specs.Prelude.{◌≡◌, true, List, [], ◌∷◌, ◌++◌, ℕ, ◌+◌, ◌≤◌}
use Rattle.words.specs.Endian.{le_bytes}
use Rattle.refusals.specs.Limits.{rounds_limit, rounds_least, argon2_fits}
use Rattle.fields.specs.declared.Place.{Place}
use Rattle.dictionary.specs.Dictionary.{item_bytes}
use Rattle.kdf_dictionary.specs.declared.Kdf.{Kdf}
use Rattle.kdf_dictionary.specs.declared.Kdf.TheVariants as kdf
use Rattle.kdf_dictionary.specs.declared.writer.Figures.{Figures}
use Rattle.kdf_dictionary.specs.declared.writer.Figures.TheVariants as figures

abbrev pub aes_kdf_uuid : List ℕ
aes_kdf_uuid =
    0xC9 ∷ 0xD9 ∷ 0xF3 ∷ 0x9A ∷ 0x62 ∷ 0x8A ∷ 0x44 ∷ 0x60 ∷ 0xBF ∷ 0x74 ∷ 0x0D ∷ 0x08 ∷ 0xC1 ∷ 0x8A ∷ 0x4F ∷ 0xEA ∷ []

abbrev pub argon2d_uuid : List ℕ
argon2d_uuid =
    0xEF ∷ 0x63 ∷ 0x6D ∷ 0xDF ∷ 0x8C ∷ 0x29 ∷ 0x44 ∷ 0x4B ∷ 0x91 ∷ 0xF7 ∷ 0xA9 ∷ 0xA4 ∷ 0x03 ∷ 0xE3 ∷ 0x0A ∷ 0x0C ∷ []

abbrev pub argon2id_uuid : List ℕ
argon2id_uuid =
    0x9E ∷ 0x29 ∷ 0x8B ∷ 0x19 ∷ 0x56 ∷ 0xDB ∷ 0x47 ∷ 0x73 ∷ 0xB2 ∷ 0x3D ∷ 0xFC ∷ 0x3E ∷ 0xC6 ∷ 0xF0 ∷ 0xA1 ∷ 0xE6 ∷ []

-- the names `$UUID`; `R`, `S`; `V`, `I`, `M`, `P`; `K`, `A`
abbrev pub uuid_name : List ℕ
uuid_name = 0x24 ∷ 0x55 ∷ 0x55 ∷ 0x49 ∷ 0x44 ∷ []

abbrev pub rounds_name : List ℕ
rounds_name = 0x52 ∷ []

abbrev pub salt_name : List ℕ
salt_name = 0x53 ∷ []

abbrev pub version_name : List ℕ
version_name = 0x56 ∷ []

abbrev pub passes_name : List ℕ
passes_name = 0x49 ∷ []

abbrev pub memory_name : List ℕ
memory_name = 0x4D ∷ []

abbrev pub lanes_name : List ℕ
lanes_name = 0x50 ∷ []

abbrev pub secret_name : List ℕ
secret_name = 0x4B ∷ []

abbrev pub associated_name : List ℕ
associated_name = 0x41 ∷ []

-- the version and the identifier, with which each dictionary begins
abbrev pub front_bytes : List ℕ → List ℕ
front_bytes uuid = 0x00 ∷ 0x01 ∷ item_bytes 0x42 uuid_name uuid

-- the version, the three items, and the last byte
unfoldable pub aes_kdf_bytes : List ℕ → ℕ → List ℕ
aes_kdf_bytes seed rounds =
    front_bytes aes_kdf_uuid ++ item_bytes 0x05 rounds_name (le_bytes 8 rounds) ++ item_bytes 0x42 salt_name seed
    ++ (0x00 ∷ [])

-- up to the lanes
abbrev pub cost_bytes : List ℕ → ℕ → ℕ → ℕ → List ℕ
cost_bytes uuid passes memory lanes =
    front_bytes uuid ++ item_bytes 0x05 passes_name (le_bytes 8 passes) ++ item_bytes 0x05 memory_name (le_bytes 8 memory)
    ++ item_bytes 0x04 lanes_name (le_bytes 4 lanes)

-- the version, the six items, and the last byte
unfoldable pub argon2_bytes : List ℕ → List ℕ → ℕ → ℕ → ℕ → List ℕ
argon2_bytes uuid salt passes memory lanes =
    cost_bytes uuid passes memory lanes ++ item_bytes 0x42 salt_name salt
    ++ item_bytes 0x04 version_name (le_bytes 4 0x13) ++ (0x00 ∷ [])

unfoldable pub kdf_bytes : Figures → List ℕ → List ℕ
kdf_bytes (figures.AesKdf rounds) salt = aes_kdf_bytes salt rounds
kdf_bytes (figures.Argon2d passes memory lanes) salt = argon2_bytes argon2d_uuid salt passes memory lanes
kdf_bytes (figures.Argon2id passes memory lanes) salt = argon2_bytes argon2id_uuid salt passes memory lanes

-- how many bytes the dictionary with a seed or salt of n has
unfoldable pub kdf_length : Figures → ℕ → ℕ
kdf_length (figures.AesKdf rounds) n = 61 + n
kdf_length (figures.Argon2d passes memory lanes) n = 107 + n
kdf_length (figures.Argon2id passes memory lanes) n = 107 + n

-- the figures that the writer takes, with a seed or salt of n bytes
unfoldable pub IsWritable : Figures → ℕ → Type 0
IsWritable (figures.AesKdf rounds) n = (n ≡ 32) × (rounds ≤ rounds_limit) × (rounds_least ≤ rounds)
IsWritable (figures.Argon2d passes memory lanes) n = argon2_fits n passes memory lanes ≡ true
IsWritable (figures.Argon2id passes memory lanes) n = argon2_fits n passes memory lanes ≡ true

-- the KDF that a dictionary at a place of a file asks for, written with a seed or salt of n bytes
abbrev pub written_kdf : Figures → Place → ℕ → Kdf
written_kdf (figures.AesKdf rounds) p n =
    kdf.AesKdf (record { seed = record { start = p.start + 60; length = n }; rounds = rounds })
written_kdf (figures.Argon2d passes memory lanes) p n =
    kdf.Argon2d
    (record {
      salt = record { start = p.start + 92; length = n };
      passes = passes;
      memory = memory;
      lanes = lanes;
    })
written_kdf (figures.Argon2id passes memory lanes) p n =
    kdf.Argon2id
    (record {
      salt = record { start = p.start + 92; length = n };
      passes = passes;
      memory = memory;
      lanes = lanes;
    })
