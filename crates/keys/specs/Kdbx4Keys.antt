-- The keys of a KDBX 4 vault: document 01, "Keys", with the published page's "Computation of Keys" behind it; of the key
-- file document 02, Item 2, which supersedes document 01's sentence.
--
--   "Password gives SHA-256 of its bytes"                                password_part
--   "32 bytes as they stand, 64 digits decoded, all else hashed"         is_hex_key, key_file_part
--   "The composite key is SHA-256 of the parts given, password first"    parts, composite_of
--   "A pre-hash is the composite key itself"                             composite_of
--   "Order: lengths (1), then 18"                                        composite
--   "The cipher key is SHA-256(S, T)"                                    cipher_key
--   "The tag base is SHA-512(S, T, 01)"                                  tag_base
--   "The tag key for number i is SHA-512(i as UInt64, base)"             tag_key
-- Not here: T itself (the key transformation).
-- Assumes nothing.
use Rattle.std.specs.Prelude.{Bool, true, false, cond, not, ◌&&◌, ◌||◌, List, [], ◌∷◌, ◌++◌, ℕ, eqb, leb, length, Result, Ok, Err}
use Rattle.words.specs.Endian.{le_bytes}
use Rattle.hexadecimal.specs.Rfc4648.{all_digits, decode}
use Rattle.refusals.specs.declared.Refusal.{Refusal}
use Rattle.refusals.specs.declared.Refusal.TheVariants.{TooLong, WrongCredential}
use Rattle.refusals.specs.Limits.{password_limit, key_file_limit}
use Rattle.fips180.specs.Fips180.{sha256, sha512, hash}

-- a credential, given or absent: an empty one differs from an absent one
pub data Credential : Type 0 where
  given : List ℕ → Credential
  absent : Credential

-- the credential that a slice and a flag stand for
abbrev pub credential : Bool → List ℕ → Credential
credential true s = given s
credential false s = absent

-- the composite key, or why it is refused
abbrev pub Composed : Type 0
Composed = Result (List ℕ) Refusal

abbrev pub accepted : List ℕ → Composed
accepted k = Ok k

abbrev pub refused : Refusal → Composed
refused r = Err r

abbrev pub password_part : List ℕ → List ℕ
password_part s = hash sha256 s

-- exactly 64 bytes, each a hexadecimal digit in either case
abbrev pub is_hex_key : List ℕ → Bool
is_hex_key s = eqb (length s) 64 && all_digits s

unfoldable pub key_file_part : List ℕ → List ℕ
key_file_part s = cond (eqb (length s) 32) s (cond (is_hex_key s) (decode s) (hash sha256 s))

-- over its limit, where it is given
abbrev pub over : ℕ → Credential → Bool
over limit (given s) = not (leb (length s) limit)
over limit absent = false

-- "SHA-256 of the parts given, password first", and "a pre-hash is the composite key itself"
unfoldable pub composite_of : Credential → Credential → Credential → Composed
composite_of (given p) (given f) absent = accepted (hash sha256 (password_part p ++ key_file_part f))
composite_of (given p) absent absent = accepted (hash sha256 (password_part p))
composite_of absent (given f) absent = accepted (hash sha256 (key_file_part f))
composite_of absent absent absent = refused WrongCredential
composite_of absent absent (given h) = cond (eqb (length h) 32) (accepted h) (refused WrongCredential)
composite_of absent (given f) (given h) = refused WrongCredential
composite_of (given p) absent (given h) = refused WrongCredential
composite_of (given p) (given f) (given h) = refused WrongCredential

unfoldable pub composite : Credential → Credential → Credential → Composed
composite p f h = cond (over password_limit p || over key_file_limit f) (refused TooLong) (composite_of p f h)

-- S is the master seed, T the transformed key
unfoldable pub cipher_key : List ℕ → List ℕ → List ℕ
cipher_key s t = hash sha256 (s ++ t)

unfoldable pub tag_base : List ℕ → List ℕ → List ℕ
tag_base s t = hash sha512 (s ++ (t ++ (0x01 ∷ [])))

unfoldable pub tag_key : ℕ → List ℕ → List ℕ
tag_key i base = hash sha512 (le_bytes 8 i ++ base)
