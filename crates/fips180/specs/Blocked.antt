-- The sizes that both algorithms' code leans on. Assumes nothing.
use Rattle.std.specs.Prelude.{◌≡◌, ℕ, ◌*◌, ◌%◌, ◌≤◌, length, refl}
use Rattle.std.proofs.Common.{arith}
use Rattle.fips180.specs.Fips180.{Sha2, block_bytes, sha256, sha512}
use Rattle.fips180.specs.Fips180.Constants.{k256, k512}

-- a block has so many bytes, a word four to eight; a round for each constant, in fours, and at least one for each word
-- of a block
pub record IsBlocked (p : Sha2) (block : ℕ) : Type 0 where
  pub bytes : block ≡ block_bytes p
  pub least : 4 ≤ p.bytes
  pub most : p.bytes ≤ 8
  pub fours : length p.constants % 4 ≡ 0
  pub sixteen : 16 ≤ length p.constants

pub sha256_is_blocked : IsBlocked sha256 64
unfolding k256
sha256_is_blocked = record { bytes = refl; least = omega arith; most = omega arith; fours = refl; sixteen = omega arith }

pub sha512_is_blocked : IsBlocked sha512 128
unfolding k512
sha512_is_blocked = record { bytes = refl; least = omega arith; most = omega arith; fours = refl; sixteen = omega arith }

-- a block, the last two blocks and a digest have so many bytes
pub record HasSizes (p : Sha2) (block last digest : ℕ) : Type 0 where
  pub bytes : block ≡ block_bytes p
  pub two : last ≡ 2 * block
  pub words : digest ≡ 8 * p.bytes
