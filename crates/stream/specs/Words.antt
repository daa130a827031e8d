-- The words of a block function's state: their sums, and the bytes that they are written as.
--
--   sum          RFC 8439, 2.3: state += initial_state; Salsa20 specification, 8: the sums of words
--   serialize    RFC 8439, 2.3: the serialized state; Salsa20 specification, 7 and 8: littleendian⁻¹ of each word
-- A word is a number below 2^32.
-- Not here: one word's bytes (the crate words' Endian), the stream of blocks (Stream).
-- Assumes nothing.
use Rattle.std.specs.Prelude.{List, [], ◌∷◌, ◌++◌, ℕ}
use Rattle.words.specs.Word.{plus}
use Rattle.words.specs.Endian.{le_bytes}

-- the sums of two states' words
unfoldable pub sum : List ℕ → List ℕ → List ℕ
sum [] ys = []
sum (x ∷ xs) [] = []
sum (x ∷ xs) (y ∷ ys) = plus 32 x y ∷ sum xs ys

-- the words in little-endian order, one after the other
unfoldable pub serialize : List ℕ → List ℕ
serialize [] = []
serialize (w ∷ ws) = le_bytes 4 w ++ serialize ws
