-- What opening and writing share of a vault's keys: document 01, "Keys" and "File after the header".
--
--   "demand 3's keys are the cipher key and tag base that it gives with the header's master seed"     keys_for, keys_with
--   "SHA-256 of the header and its HMAC-SHA-256 under the key for 2^64-1"                             header_hash, header_tag
-- No header that a reader accepts is over a message's limit; of a longer one the tag is zeros (answered_tag).
-- AES-256 has round keys and no key, ChaCha20 a key and no round keys: what is not needed is zero.
-- Assumes nothing.
use Rattle.std.specs.Prelude.{List, ℕ, ◌-◌, ◌^◌, replicate}
use Rattle.fips180.specs.Fips180.{sha256, hash}
use Rattle.hmac.specs.Rfc2104.{hmac}
use Rattle.hmac.specs.Tagging.{tagged}
use Rattle.keys.specs.Kdbx4Keys.{cipher_key, tag_base, tag_key}
use Rattle.fips197.specs.Fips197.{key_expansion}
use Rattle.ciphers.specs.declared.Cipher.{Cipher}
use Rattle.ciphers.specs.declared.Cipher.TheVariants.{Aes256, ChaCha20}
use Rattle.opening.specs.declared.Keys.{Keys}

-- a cipher's keys, from the cipher key, the nonce in sixteen bytes and the tag base
unfoldable pub keys_for : Cipher → List ℕ → List ℕ → List ℕ → Keys
keys_for Aes256 key nonce base =
    record {
      cipher = Aes256;
      key = replicate 32 0;
      round_keys = record { words = key_expansion key };
      nonce = nonce;
      base = base;
    }
keys_for ChaCha20 key nonce base =
    record {
      cipher = ChaCha20;
      key = key;
      round_keys = record { words = replicate 60 0 };
      nonce = nonce;
      base = base;
    }

-- the keys of T and a master seed
unfoldable pub keys_with : Cipher → List ℕ → List ℕ → List ℕ → Keys
keys_with c seed nonce t = keys_for c (cipher_key seed t) nonce (tag_base seed t)

-- the hash of a header's bytes
abbrev pub header_hash : List ℕ → List ℕ
header_hash m = hash sha256 m

-- the tag of a header's bytes: under the key for 2^64 - 1, over the header alone
unfoldable pub header_tag : List ℕ → List ℕ → List ℕ
header_tag base m = hmac sha256 (tag_key (2 ^ 64 - 1) base) m

-- what the code answers with: that tag, and zeros where the header is over a message's limit
unfoldable pub answered_tag : List ℕ → List ℕ → List ℕ
answered_tag base m = (tagged sha256 (tag_key (2 ^ 64 - 1) base) m).tag
