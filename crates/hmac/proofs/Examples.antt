-- A worked example: RFC 4231, 4.3 (test case 2), computed. Assumes nothing.
use mathlib.Core.Path.{◌≡◌, refl}
use mathlib.Core.List.{[], ◌∷◌}
use Rattle.words.specs.Endian.{be, be_bytes}
use Rattle.fips180.specs.Fips180.{
  sha256,
  hash,
  pad,
  padding,
  zero_bytes,
  parse,
  hash_blocks,
  digest,
  compress,
  schedule,
  grow,
  word_after,
  next_word,
  block_words,
  rounds,
  round,
  round_on,
  t1,
  t2,
  sums,
}
use Rattle.fips180.specs.Fips180.Constants.{k256, iv256}
use Rattle.slices.specs.Over.{over}
use Rattle.slices.specs.Cut.{cut}
use Rattle.hmac.specs.Rfc2104.{xor_each, key_block, hmac}

-- key "Jefe", data "what do ya want for nothing?"
pub hmac_jefe : hmac sha256 (0x4a ∷ 0x65 ∷ 0x66 ∷ 0x65 ∷ [])
    (0x77 ∷ 0x68 ∷ 0x61 ∷ 0x74 ∷ 0x20 ∷ 0x64 ∷ 0x6f ∷ 0x20 ∷ 0x79 ∷ 0x61 ∷ 0x20 ∷ 0x77 ∷ 0x61 ∷ 0x6e ∷ 0x74 ∷ 0x20 ∷
    0x66 ∷ 0x6f ∷ 0x72 ∷ 0x20 ∷ 0x6e ∷ 0x6f ∷ 0x74 ∷ 0x68 ∷ 0x69 ∷ 0x6e ∷ 0x67 ∷ 0x3f ∷ [])
    ≡ 0x5b ∷ 0xdc ∷ 0xc1 ∷ 0x46 ∷ 0xbf ∷ 0x60 ∷ 0x75 ∷ 0x4e ∷ 0x6a ∷ 0x04 ∷ 0x24 ∷ 0x26 ∷ 0x08 ∷ 0x95 ∷ 0x75 ∷
    0xc7 ∷ 0x5a ∷ 0x00 ∷ 0x3f ∷ 0x08 ∷ 0x9d ∷ 0x27 ∷ 0x39 ∷ 0x83 ∷ 0x9d ∷ 0xec ∷ 0x58 ∷ 0xb9 ∷ 0x64 ∷ 0xec ∷
    0x38 ∷ 0x43 ∷ []
unfolding hash pad padding zero_bytes be_bytes parse cut hash_blocks digest compress schedule grow word_after next_word block_words be rounds round round_on t1 t2 sums k256 iv256 over xor_each key_block hmac
hmac_jefe = refl
