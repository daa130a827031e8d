-- How a lent slice and an answer stand for what RFC 5652 defines.
--
--   padded n d        a slice d after the padding of its first n bytes was written behind them
--   answer p          a padding's length as the check answers it
--   wrong_bits i p x  one byte's part in the check
-- Assumes nothing.
use Rattle.std.specs.Prelude.{cond, List, ℕ, ◌+◌, eqb, ltb, length, take, Option, Some, None}
use Rattle.std.specs.Int.Bits.{bit_xor}
use Rattle.slices.specs.Over.{over}
use Rattle.pkcs7.specs.Pkcs7.{pad}

-- the first n bytes of d padded, over d, as far as d has room
unfoldable pub padded : ℕ → List ℕ → List ℕ
padded n d = over (take (length d) (pad (take n d))) d

-- a padding's length as an answer, where 0 is no padding
unfoldable pub answer : ℕ → Option ℕ
answer p = cond (eqb p 0) None (Some p)

-- the bits in which the byte x at place i of sixteen differs from what it must be where the last p are p
unfoldable pub wrong_bits : ℕ → ℕ → ℕ → ℕ
wrong_bits i p x = cond (ltb (i + p) 16) 0 (bit_xor x p)
