-- Lists of bytes: what is made of bytes has bytes for elements.
--
-- In order: bytes_append, bytes_replicate, bytes_xors, bytes_le_bytes.
-- Assumes nothing.
use Rattle.std.proofs.Common.{ℕ, zero, suc, ◌/◌, ◌<◌, List, [], ◌∷◌, ◌++◌, replicate, arith}
use lib.Bits.{xor_lt}
use Rattle.words.specs.Endian.{Bytes, le_bytes}
use Rattle.words.specs.Xor.{xors}

pub bytes_append : (s t : List ℕ) → Bytes s → Bytes t → Bytes (s ++ t)
bytes_append [] t p q i = q i
bytes_append (x ∷ s) t p q zero = p 0
bytes_append (x ∷ s) t p q (suc i) = bytes_append s t (λ j. p (suc j)) q i

pub bytes_replicate : (n x : ℕ) → x < 256 → Bytes (replicate n x)
bytes_replicate zero x h i = omega arith
bytes_replicate (suc n) x h zero = h
bytes_replicate (suc n) x h (suc i) = bytes_replicate n x h i

pub bytes_xors : (s t : List ℕ) → Bytes s → Bytes t → Bytes (xors s t)
unfolding xors
bytes_xors [] t p q i = omega arith
bytes_xors (x ∷ s) [] p q i = omega arith
bytes_xors (x ∷ s) (y ∷ t) p q zero = xor_lt 8 x y (p 0) (q 0)
bytes_xors (x ∷ s) (y ∷ t) p q (suc i) = bytes_xors s t (λ j. p (suc j)) (λ j. q (suc j)) i

pub bytes_le_bytes : (n x : ℕ) → Bytes (le_bytes n x)
unfolding le_bytes
bytes_le_bytes zero x i = omega arith
bytes_le_bytes (suc n) x zero = omega arith
bytes_le_bytes (suc n) x (suc i) = bytes_le_bytes n (x / 256) i
