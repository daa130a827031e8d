-- Operations on words of n bits, as FIPS 180-4 (2.2.2, 3.2) and RFC 8439 (2.1) write them.
--
--   plus n x y    x + y modulo 2^n
--   rotr n k x    x rotated right by k places
--   rotl n k x    x rotated left by k places
--   shr k x       x shifted right by k places
-- Not here: and, or, exclusive or (the kit's lib.Bits); words and their bytes (Endian).
-- Assumes nothing.
use Rattle.std.specs.Prelude.{ℕ, ◌+◌, ◌-◌, ◌*◌, ◌/◌, ◌%◌, ◌^◌, bit_or}

abbrev pub plus : ℕ → ℕ → ℕ → ℕ
plus n x y = (x + y) % 2 ^ n

abbrev pub rotr : ℕ → ℕ → ℕ → ℕ
rotr n k x = bit_or (x / 2 ^ k) ((x * 2 ^ (n - k)) % 2 ^ n)

abbrev pub rotl : ℕ → ℕ → ℕ → ℕ
rotl n k x = bit_or ((x * 2 ^ k) % 2 ^ n) (x / 2 ^ (n - k))

abbrev pub shr : ℕ → ℕ → ℕ
shr k x = x / 2 ^ k
