-- A block of 128 bits: sixteen bytes (FIPS 197, 3.3; SP 800-38A, 5.1).
-- Assumes nothing.
use Rattle.std.specs.Prelude.{◌≡◌, ℕ, List, length}
use Rattle.words.specs.Endian.{Bytes}

pub record IsBlock (x : List ℕ) : Type 0 where
  pub size : length x ≡ 16
  pub bytes : Bytes x
