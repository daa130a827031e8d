-- A header that is written, as the reader is to find it: document 01, "Header" and "File after the header".
--
--   "Fields are 2, 3, 4, 7, 11, 12, 0"    written_header: where the values stand
--   "a written file opens"                ReadsBack: the reader's part of that
-- Not here: the bytes themselves (Written), reading (crate outer_header, Kdbx4Header).
-- Assumes nothing.
use Rattle.std.specs.Prelude.{◌≡◌, cond, List, ℕ, ◌+◌, eqb, length, Ok}
use Rattle.fields.specs.Fields.{bytes_at, nowhere}
use Rattle.fields.specs.declared.Place.{Place}
use Rattle.ciphers.specs.Ciphers.{nonce_length}
use Rattle.ciphers.specs.declared.Cipher.{Cipher}
use Rattle.kdf_dictionary.specs.Kdf.{kdf_bytes, kdf_length, written_kdf}
use Rattle.kdf_dictionary.specs.declared.Kdf.{Kdf}
use Rattle.kdf_dictionary.specs.declared.Kdf.TheVariants as kdf
use Rattle.kdf_dictionary.specs.declared.writer.Figures.{Figures}
use Rattle.outer_header.specs.Kdbx4Header.{header}
use Rattle.outer_header.specs.declared.Header.{Header}
use Rattle.header_writer.specs.Written.{header_bytes, header_length}

-- where the KDF dictionary stands, with a seed or salt of m bytes
abbrev pub kdf_place : Cipher → Figures → ℕ → Place
kdf_place c fig m = record { start = 89 + nonce_length c; length = kdf_length fig m }

-- where the item `R` begins in AES-KDF's, behind the version and `$UUID`'s item
abbrev pub rounds_item : Cipher → ℕ
rounds_item c = 89 + nonce_length c + 32

-- where a custom dictionary of n bytes stands behind it
abbrev pub custom_place : Cipher → Figures → ℕ → ℕ → Place
custom_place c fig m n =
    cond (eqb n 0) nowhere (record { start = 94 + nonce_length c + kdf_length fig m; length = n })

-- the figures of a header that is written, with a seed or salt of m bytes and a custom dictionary of n
abbrev pub written_header : ℕ → Cipher → Figures → ℕ → ℕ → Header
written_header minor c fig m n =
    record {
      minor = minor;
      cipher = c;
      seed = record { start = 47; length = 32 };
      nonce = record { start = 84; length = nonce_length c };
      kdf = written_kdf fig (kdf_place c fig m) m;
      kdf_dictionary = kdf_place c fig m;
      custom = custom_place c fig m n;
      length = header_length c fig m n;
    }

-- where a KDF's seed or salt stands
abbrev pub salt_place : Kdf → Place
salt_place (kdf.AesKdf k) = k.seed
salt_place (kdf.Argon2d k) = k.salt
salt_place (kdf.Argon2id k) = k.salt

-- the reader finds h at the front of s: the figures that were written, and at its places the bytes that were written
pub record ReadsBack (minor : ℕ) (c : Cipher) (seed nonce : List ℕ) (fig : Figures) (salt custom s : List ℕ)
    (h : Header) : Type 0 where
  pub header_is : header s ≡ Ok h
  pub minor_is : h.minor ≡ minor
  pub cipher_is : h.cipher ≡ c
  pub kdf_is : h.kdf ≡ written_kdf fig h.kdf_dictionary (length salt)
  pub seed_is : bytes_at s h.seed ≡ seed
  pub nonce_is : bytes_at s h.nonce ≡ nonce
  pub dictionary_is : bytes_at s h.kdf_dictionary ≡ kdf_bytes fig salt
  pub salt_is : bytes_at s (salt_place h.kdf) ≡ salt
  pub custom_is : bytes_at s h.custom ≡ custom
  pub length_is : h.length ≡ length (header_bytes minor c seed nonce fig salt custom)
  pub length_told : h.length ≡ header_length c fig (length salt) (length custom)
