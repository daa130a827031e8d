-- RFC 2104 (February 1997), HMAC: Keyed-Hashing for Message Authentication, over SHA-256 or SHA-512 as H.
--
--   2    ipad, opad: the bytes 0x36 and 0x5C, B times                    xor_each 0x36, xor_each 0x5c
--   2    keys longer than B are hashed first; (1) zeros to B bytes       key_block
--   2    H(K XOR opad, H(K XOR ipad, text))                              hmac
-- B is the block's length in bytes.
-- Left out: section 5, truncated output.
-- Assumes nothing.
use Rattle.std.specs.Prelude.{cond, List, [], ◌∷◌, ◌++◌, ℕ, leb, length, replicate}
use Rattle.std.specs.Int.Bits.{bit_xor}
use Rattle.slices.specs.Over.{over}
use Rattle.fips180.specs.Fips180.{Sha2, block_bytes, hash}

-- each byte of a list XOR the byte c
unfoldable pub xor_each : ℕ → List ℕ → List ℕ
xor_each c [] = []
xor_each c (x ∷ xs) = bit_xor x c ∷ xor_each c xs

-- the key as B bytes
unfoldable pub key_block : Sha2 → List ℕ → List ℕ
key_block p k = over (cond (leb (length k) (block_bytes p)) k (hash p k)) (replicate (block_bytes p) 0)

unfoldable pub hmac : Sha2 → List ℕ → List ℕ → List ℕ
hmac p k m = hash p (xor_each 0x5c (key_block p k) ++ hash p (xor_each 0x36 (key_block p k) ++ m))
