-- The key stream of a block function, and its application to bytes.
--
-- A block function gives, for each value of a counter, a block of 64 bytes; the stream is its blocks for 0, 1, 2 and
-- so on. Byte p of the stream is byte p % 64 of block p / 64. It is applied by exclusive or, from any position on.
--
--   byte_at f p        byte p of the stream
--   keystream f p n    its n bytes from position p on
--   apply f p s        the bytes s, of which the first stands at position p, with the stream applied
-- Assumes nothing.
use Rattle.std.specs.Prelude.{List, [], ◌∷◌, ℕ, zero, suc, ◌+◌, ◌/◌, ◌%◌, length, get_or}
use Rattle.words.specs.Xor.{xors}

unfoldable pub byte_at : (ℕ → List ℕ) → ℕ → ℕ
byte_at f p = get_or (f (p / 64)) (p % 64) 0

unfoldable pub keystream : (ℕ → List ℕ) → ℕ → ℕ → List ℕ
keystream f p zero = []
keystream f p (suc n) = byte_at f p ∷ keystream f (p + 1) n

unfoldable pub apply : (ℕ → List ℕ) → ℕ → List ℕ → List ℕ
apply f p s = xors s (keystream f p (length s))
