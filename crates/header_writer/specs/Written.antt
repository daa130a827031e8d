-- The outer header that is written: document 01, "Header" and "File after the header".
--
--   "Order: 4, 9, 5 (seeds, nonce), 11, 10 or 6, .."; "20,
--    directly after 11" (document 02, Item 3); 22 in 11's
--    place, "the writer's salt length included" (Item 6)       checked, checked_sizes, checked_figures, checked_custom
--   "Signatures 0x9AA2D903 and 0xB54BFB67, then the version,
--    major in the high word"                                    version_bytes
--   "custom dictionary (zero length: field absent)"             custom_field
--   "Fields are 2, 3, 4, 7, 11, 12, 0"                          header_bytes
--   document 02, Item 8: "from writers .. it is zero"           every refusal's place
-- Not here: fields (crate fields), the KDF dictionary (crate kdf_dictionary, Kdf), reading (crate outer_header).
-- Assumes nothing.
use Rattle.std.specs.Prelude.{Bool, true, cond, List, [], ◌∷◌, ◌++◌, ℕ, ◌+◌, eqb, leb, length, Option, Some, None, Result, Ok, Err}
use Rattle.words.specs.Endian.{le_bytes}
use Rattle.refusals.specs.declared.Refusal.TheVariants.{WrongVersion, WrongSize, Repeated, Unlisted, BrokenDictionary, TooManyRounds, TooFewRounds, FigureOutside}
use Rattle.refusals.specs.Numbers.{Outcome}
use Rattle.refusals.specs.Limits.{rounds_limit, rounds_least, argon2_fits}
use Rattle.fields.specs.Fields.{field_bytes}
use Rattle.ciphers.specs.Ciphers.{identifier, cipher_of, nonce_length}
use Rattle.ciphers.specs.declared.Cipher.{Cipher}
use Rattle.dictionary.specs.Dictionary.{verdict}
use Rattle.dictionary.specs.declared.Fault.TheVariants as fault
use Rattle.dictionary.specs.declared.Fault.{Fault}
use Rattle.kdf_dictionary.specs.Kdf.{kdf_bytes, kdf_length}
use Rattle.kdf_dictionary.specs.declared.writer.Figures.{Figures}
use Rattle.kdf_dictionary.specs.declared.writer.Figures.TheVariants as figures
use Rattle.refusals.specs.declared.Refusal.{Refusal}

-- signatures, and version 4.minor
unfoldable pub version_bytes : ℕ → List ℕ
version_bytes minor = le_bytes 4 0x9AA2D903 ++ (le_bytes 4 0xB54BFB67 ++ le_bytes 4 (0x40000 + minor))

-- the end field's value
abbrev pub end_bytes : List ℕ
end_bytes = 0x0D ∷ 0x0A ∷ 0x0D ∷ 0x0A ∷ []

-- compression: none
abbrev pub no_compression : List ℕ
no_compression = 0 ∷ 0 ∷ 0 ∷ 0 ∷ []

unfoldable pub custom_field : List ℕ → List ℕ
custom_field custom = cond (eqb (length custom) 0) [] (field_bytes 12 custom)

-- the custom dictionary, where there is one, and the end
abbrev pub end_of : List ℕ → List ℕ
end_of custom = custom_field custom ++ field_bytes 0 end_bytes

-- up to the master seed
abbrev pub front_of : ℕ → Cipher → List ℕ → List ℕ
front_of minor c seed =
    version_bytes minor ++ field_bytes 2 (identifier c) ++ field_bytes 3 no_compression ++ field_bytes 4 seed

unfoldable pub header_bytes : ℕ → Cipher → List ℕ → List ℕ → Figures → List ℕ → List ℕ → List ℕ
header_bytes minor c seed nonce fig salt custom =
    version_bytes minor ++ field_bytes 2 (identifier c) ++ field_bytes 3 no_compression ++ field_bytes 4 seed
    ++ field_bytes 7 nonce ++ field_bytes 11 (kdf_bytes fig salt) ++ custom_field custom ++ field_bytes 0 end_bytes

-- how many bytes a header has, with a seed or salt of m bytes and a custom dictionary of n
unfoldable pub header_length : Cipher → Figures → ℕ → ℕ → ℕ
header_length c fig m n = 98 + nonce_length c + kdf_length fig m + cond (eqb n 0) 0 (5 + n)

-- 10 or 6, where there is a custom dictionary
unfoldable pub custom_in : Result Unit Fault → Outcome
custom_in (Ok tt) = Ok tt
custom_in (Err (fault.Broken at)) = Err (BrokenDictionary 0)
custom_in (Err (fault.Repeated at)) = Err (Repeated 0)

unfoldable pub custom_verdict : List ℕ → Outcome
custom_verdict custom = cond (eqb (length custom) 0) (Ok tt) (custom_in (verdict custom))

unfoldable pub checked_custom : Cipher → Outcome → Result Cipher Refusal
checked_custom c (Ok tt) = Ok c
checked_custom c (Err r) = Err r

-- the size of AES-KDF's seed; Argon2's salt is one of its figures
unfoldable pub salt_sized : Figures → ℕ → Bool
salt_sized (figures.AesKdf rounds) n = eqb n 32
salt_sized (figures.Argon2d passes memory lanes) n = true
salt_sized (figures.Argon2id passes memory lanes) n = true

-- 11 and 20 of AES-KDF, 22 of Argon2; then 10 or 6
unfoldable pub checked_figures : Cipher → Figures → List ℕ → List ℕ → Result Cipher Refusal
checked_figures c (figures.AesKdf rounds) salt custom =
    cond (leb rounds rounds_limit)
    (cond (leb rounds_least rounds) (checked_custom c (custom_verdict custom)) (Err (TooFewRounds 0)))
    (Err (TooManyRounds 0))
checked_figures c (figures.Argon2d passes memory lanes) salt custom =
    cond (argon2_fits (length salt) passes memory lanes) (checked_custom c (custom_verdict custom))
    (Err (FigureOutside 0))
checked_figures c (figures.Argon2id passes memory lanes) salt custom =
    cond (argon2_fits (length salt) passes memory lanes) (checked_custom c (custom_verdict custom))
    (Err (FigureOutside 0))

-- 5 (seeds, nonce), then the figures
unfoldable pub checked_sizes : Cipher → List ℕ → List ℕ → Figures → List ℕ → List ℕ → Result Cipher Refusal
checked_sizes c seed nonce fig salt custom =
    cond (eqb (length seed) 32)
    (cond (eqb (length nonce) (nonce_length c))
    (cond (salt_sized fig (length salt)) (checked_figures c fig salt custom) (Err (WrongSize 0)))
    (Err (WrongSize 0)))
    (Err (WrongSize 0))

unfoldable pub checked_cipher : Option Cipher → List ℕ → List ℕ → Figures → List ℕ → List ℕ → Result Cipher Refusal
checked_cipher None seed nonce fig salt custom = Err (Unlisted 0)
checked_cipher (Some c) seed nonce fig salt custom = checked_sizes c seed nonce fig salt custom

-- the writer's checks of a header's figures: minor version, cipher's identifier, and the rest
unfoldable pub checked : ℕ → List ℕ → List ℕ → List ℕ → Figures → List ℕ → List ℕ → Result Cipher Refusal
checked minor id seed nonce fig salt custom =
    cond (leb minor 1) (checked_cipher (cipher_of id) seed nonce fig salt custom) (Err (WrongVersion 0))
