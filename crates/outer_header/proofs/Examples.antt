-- Worked numbers of document 01, "Numbers to meet", and its header of the listing program, as theorems.
--
-- In order:
--   header_short       "Eleven bytes of anything: 2"
--   custom_negative    "Custom dictionary field of size FFFFFFFF: 5"
--   custom_long        "Of 7FFFFFFF in a short file: 2"
--   rounds_most, rounds_more    "Rounds 4,000,000 pass, 4,000,001 give 11"
--   header-listed      the 4.1 ChaCha20 header with R = 6,000, seeds of bytes 11 and 33, nonce of bytes 22
--   header-argon2id    .. with Argon2id at its greatest memory and lanes instead, salt of bytes 33
--   header-placed      .. with R = 4,000,001: 11, at the item R
--   header_few         .. with R = 1: 20, at the item R (document 02, Items 3 and 8)
-- Assumes nothing.
use mathlib.Core.Path.{◌≡◌, refl}
use mathlib.Core.Bool.{true, false}
use mathlib.Core.List.{List, [], ◌∷◌, ◌++◌}
use Prim.Native.Nat.{ℕ, ◌+◌, ◌-◌, ◌≤◌, ◌<◌}
use native.Mathlib.Omega.{arith}
use lib.ListN.{length, get_or, replicate}
use borrow.Author.Tests.{eq-eqb, le-leb, lt-leb, lt-ltb}
use Rattle.words.specs.Endian.{le, le_bytes}
use Rattle.words.specs.Size.{int32}
use Rattle.slices.specs.Same.{same}
use Rattle.refusals.specs.declared.Refusal.TheVariants.{CutShort, WrongSize, TooManyRounds, TooFewRounds}
use Rattle.refusals.specs.Limits.{file_limit, rounds_limit, rounds_least, argon2_fits}
use Rattle.fields.specs.Fields.{given, fits, value_at, field_at, field_bytes}
use Rattle.fields.specs.declared.Place.{Place}
use Rattle.std.specs.Prelude.{Err, Ok}
use Rattle.ciphers.specs.Ciphers.{identifier, cipher_of, nonce_length}
use Rattle.ciphers.specs.declared.Cipher.TheVariants.{ChaCha20}
use Rattle.dictionary.specs.Dictionary as dictionary
use Rattle.kdf_dictionary.specs.Kdf.{argon2id_uuid, rounds_name, aes_kdf_bytes, argon2_bytes}
use Rattle.dictionary.specs.Dictionary.{item_bytes}
use Rattle.kdf_dictionary.specs.KdfDictionary as kdfs
use Rattle.kdf_dictionary.specs.KdfDictionary.{fault_at}
use Rattle.kdf_dictionary.specs.KdfDictionary.{
  typed_in,
  is_found,
  place_in,
  aes_kdf_in,
  aes_kdf_of,
  argon2_items,
  argon2_listed,
  argon2_figures,
  argon2_in,
  listed_as,
  listed_in,
  uuid_in,
  uuid_of,
  kdf_in,
  kdf_of,
}
use Rattle.kdf_dictionary.specs.declared.Kdf.TheVariants as kdf
use Rattle.outer_header.specs.declared.walk.Fields.{Fields}
use Rattle.outer_header.specs.Kdbx4Header.{
  listed,
  size_rule,
  seen,
  put,
  no_fields,
  field_here,
  ends_right,
  walk_in,
  walk,
  complete,
  custom_of,
  figures_in,
  figures,
  identified,
  judged,
  judged_in,
  body,
  header,
}

-- fewer than twelve bytes of anything
pub header_short : (s : List ℕ) → length s < 12 → header s ≡ Err (CutShort (length s))
unfolding header file_limit
header_short s h =
    let l : length s ≤ file_limit = omega arith in
    rw (le-leb _ _ l, lt-ltb _ 12 h)

module _ (f : Fields) (s : List ℕ) (at : ℕ) (fresh : seen f 12 ≡ false) (here : at + 5 ≤ length s)
    (custom : get_or s at 0 ≡ 12) where
  pub custom_negative : le 4 s (at + 1) ≡ 0xFFFFFFFF → field_here f s at ≡ Err (WrongSize at)
  unfolding field_here field_at value_at int32 listed
  custom_negative e = rw (custom, fresh, le-leb _ _ here, e)

  -- no file within the limit has a value so long
  pub custom_long : le 4 s (at + 1) ≡ 0x7FFFFFFF → length s ≤ file_limit → field_here f s at ≡ Err (CutShort (length s))
  unfolding field_here field_at value_at int32 listed size_rule fits file_limit
  custom_long e h =
      let l : length s - (at + 5) < 0x7FFFFFFF = omega arith in
      rw (custom, fresh, le-leb _ _ here, e, lt-leb _ _ l)

module _ (d : List ℕ) (p q r : Place) (long : q.length ≡ 32) (there : given r ≡ true) where
  pub rounds_most : le 8 d r.start ≡ 4_000_000
      → aes_kdf_in d p q r ≡ Ok (kdf.AesKdf (record { seed = place_in p q; rounds = 4_000_000 }))
  unfolding aes_kdf_in rounds_limit rounds_least
  rounds_most e = rw (eq-eqb q.length 32 long, there, e)

  pub rounds_more : le 8 d r.start ≡ 4_000_001 → aes_kdf_in d p q r ≡ Err (TooManyRounds (fault_at d p rounds_name))
  unfolding aes_kdf_in rounds_limit rounds_least
  rounds_more e = rw (eq-eqb q.length 32 long, there, e)

-- a header of ChaCha20 with a KDF dictionary
abbrev chacha_header : List ℕ → List ℕ
chacha_header d =
    le_bytes 4 0x9AA2D903 ++ le_bytes 4 0xB54BFB67 ++ le_bytes 4 0x40001
    ++ field_bytes 2 (identifier ChaCha20)
    ++ field_bytes 3 (0 ∷ 0 ∷ 0 ∷ 0 ∷ [])
    ++ field_bytes 4 (replicate 32 0x11)
    ++ field_bytes 7 (replicate 12 0x22)
    ++ field_bytes 11 d
    ++ field_bytes 0 (0x0D ∷ 0x0A ∷ 0x0D ∷ 0x0A ∷ [])

pub header-listed : header (chacha_header (aes_kdf_bytes (replicate 32 0x33) 6_000))
    ≡ Ok (record {
      minor = 1;
      cipher = ChaCha20;
      seed = record { start = 47; length = 32 };
      nonce = record { start = 84; length = 12 };
      kdf = kdf.AesKdf (record { seed = record { start = 161; length = 32 }; rounds = 6_000 });
      kdf_dictionary = record { start = 101; length = 93 };
      custom = record { start = 0; length = 0 };
      length = 203;
    })
unfolding header body judged_in judged identified figures figures_in custom_of complete walk walk_in ends_right field_here no_fields put seen size_rule listed field_at value_at fits int32 le le_bytes same field_bytes aes_kdf_bytes argon2_bytes item_bytes identifier cipher_of nonce_length kdf_of kdf_in uuid_of uuid_in listed_as listed_in aes_kdf_of aes_kdf_in typed_in is_found argon2_items kdfs.complete argon2_listed argon2_figures argon2_in argon2_fits rounds_limit rounds_least file_limit dictionary.verdict dictionary.walk dictionary.walk_in dictionary.named dictionary.named_in dictionary.entry_at dictionary.name_at dictionary.value_at dictionary.size_fits_type dictionary.search_from dictionary.search_in
header-listed = refl

pub header-argon2id : header (chacha_header (argon2_bytes argon2id_uuid (replicate 32 0x33) 2 67_108_864 16))
    ≡ Ok (record {
      minor = 1;
      cipher = ChaCha20;
      seed = record { start = 47; length = 32 };
      nonce = record { start = 84; length = 12 };
      kdf =
          kdf.Argon2id
          (record { salt = record { start = 193; length = 32 }; passes = 2; memory = 67_108_864; lanes = 16 });
      kdf_dictionary = record { start = 101; length = 139 };
      custom = record { start = 0; length = 0 };
      length = 249;
    })
unfolding header body judged_in judged identified figures figures_in custom_of complete walk walk_in ends_right field_here no_fields put seen size_rule listed field_at value_at fits int32 le le_bytes same field_bytes aes_kdf_bytes argon2_bytes item_bytes identifier cipher_of nonce_length kdf_of kdf_in uuid_of uuid_in listed_as listed_in aes_kdf_of aes_kdf_in typed_in is_found argon2_items kdfs.complete argon2_listed argon2_figures argon2_in argon2_fits rounds_limit rounds_least file_limit dictionary.verdict dictionary.walk dictionary.walk_in dictionary.named dictionary.named_in dictionary.entry_at dictionary.name_at dictionary.value_at dictionary.size_fits_type dictionary.search_from dictionary.search_in
header-argon2id = refl

-- document 02, Item 8: the item `R` of this header stands at 133
pub header-placed : header (chacha_header (aes_kdf_bytes (replicate 32 0x33) 4_000_001)) ≡ Err (TooManyRounds 133)
unfolding header body judged_in judged identified figures figures_in custom_of complete walk walk_in ends_right field_here no_fields put seen size_rule listed field_at value_at fits int32 le le_bytes same field_bytes aes_kdf_bytes argon2_bytes item_bytes identifier cipher_of nonce_length kdf_of kdf_in uuid_of uuid_in listed_as listed_in aes_kdf_of aes_kdf_in typed_in is_found argon2_items kdfs.complete argon2_listed argon2_figures argon2_in argon2_fits rounds_limit rounds_least file_limit dictionary.verdict dictionary.walk dictionary.walk_in dictionary.named dictionary.named_in dictionary.entry_at dictionary.name_at dictionary.value_at dictionary.size_fits_type dictionary.search_from dictionary.search_in kdfs.fault_in
header-placed = refl

-- Item 3's case: one round is refused with 20 at 133
pub header_few : header (chacha_header (aes_kdf_bytes (replicate 32 0x33) 1)) ≡ Err (TooFewRounds 133)
unfolding header body judged_in judged identified figures figures_in custom_of complete walk walk_in ends_right field_here no_fields put seen size_rule listed field_at value_at fits int32 le le_bytes same field_bytes aes_kdf_bytes argon2_bytes item_bytes identifier cipher_of nonce_length kdf_of kdf_in uuid_of uuid_in listed_as listed_in aes_kdf_of aes_kdf_in typed_in is_found argon2_items kdfs.complete argon2_listed argon2_figures argon2_in argon2_fits rounds_limit rounds_least file_limit dictionary.verdict dictionary.walk dictionary.walk_in dictionary.named dictionary.named_in dictionary.entry_at dictionary.name_at dictionary.value_at dictionary.size_fits_type dictionary.search_from dictionary.search_in kdfs.fault_in
header_few = refl
