-- Laws of a vault's keys and of its header's sums.
--
-- In order:
--   keys_for-cipher, keys_for-nonce, keys_with-cipher, keys_with-nonce    what the keys keep
--   length-header_hash, length-header_tag                               32 bytes each
--   answered_tag_within                                                within a message's limit the tag is RFC 2104's
-- Assumes nothing.
use mathlib.Core.Path.{◌≡◌, refl}
use mathlib.Core.List.{List}
use Prim.Native.Nat.{ℕ, ◌-◌, ◌^◌, ◌≤◌}
use native.Mathlib.Omega.{arith}
use lib.ListN.{length}
use borrow.Author.Tests.{le-leb}
use Rattle.refusals.specs.Limits.{message_limit}
use Rattle.refusals.proofs.Laws.Limits.{message_blocks}
use Rattle.fips180.specs.Fips180.{sha256, sha512}
use Rattle.fips180.specs.Fips180.Constants.{iv512}
use Rattle.fips180.proofs.Laws.Lengths.{length-iv256, length-hash}
use Rattle.hmac.specs.Rfc2104.{hmac}
use Rattle.hmac.specs.Tagging.{tagged}
use Rattle.keys.specs.Kdbx4Keys.{cipher_key, tag_base, tag_key}
use Rattle.ciphers.specs.declared.Cipher.{Cipher}
use Rattle.ciphers.specs.declared.Cipher.TheVariants.{Aes256, ChaCha20}
use Rattle.vault_keys.specs.VaultKeys.{keys_for, keys_with, header_hash, header_tag, answered_tag}

pub keys_for-cipher : (c : Cipher) (key nonce base : List ℕ) → (keys_for c key nonce base).cipher ≡ c
unfolding keys_for
keys_for-cipher Aes256 key nonce base = refl
keys_for-cipher ChaCha20 key nonce base = refl

pub keys_for-nonce : (c : Cipher) (key nonce base : List ℕ) → (keys_for c key nonce base).nonce ≡ nonce
unfolding keys_for
keys_for-nonce Aes256 key nonce base = refl
keys_for-nonce ChaCha20 key nonce base = refl

pub keys_with-cipher : (c : Cipher) (seed nonce t : List ℕ) → (keys_with c seed nonce t).cipher ≡ c
unfolding keys_with
keys_with-cipher c seed nonce t = keys_for-cipher c (cipher_key seed t) nonce (tag_base seed t)

pub keys_with-nonce : (c : Cipher) (seed nonce t : List ℕ) → (keys_with c seed nonce t).nonce ≡ nonce
unfolding keys_with
keys_with-nonce c seed nonce t = keys_for-nonce c (cipher_key seed t) nonce (tag_base seed t)

pub length-header_hash : (m : List ℕ) → length (header_hash m) ≡ 32
length-header_hash m = length-hash sha256 m length-iv256

pub length-header_tag : (base m : List ℕ) → length (header_tag base m) ≡ 32
unfolding header_tag hmac
length-header_tag base m = length-hash sha256 _ length-iv256

length-tag_key : (i : ℕ) (base : List ℕ) → length (tag_key i base) ≡ 64
unfolding tag_key iv512
length-tag_key i base = length-hash sha512 _ refl

-- a key and a message within the limit are tagged
tagged_within : (k m : List ℕ) → length k ≤ message_limit → length m ≤ message_limit
    → (tagged sha256 k m).tag ≡ hmac sha256 k m
unfolding tagged
tagged_within k m h l = rw (le-leb (length k) message_limit h, le-leb (length m) message_limit l)

pub answered_tag_within : (base m : List ℕ) → length m ≤ message_limit → answered_tag base m ≡ header_tag base m
unfolding answered_tag header_tag
answered_tag_within base m h =
    let l = length-tag_key (2 ^ 64 - 1) base in
    tagged_within (tag_key (2 ^ 64 - 1) base) m (omega (arith, l, message_blocks)) h
