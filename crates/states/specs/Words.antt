-- Arrays of words as bytes, each word little-endian in k bytes.
--
--   word_bytes k w        the bytes of the words, one behind the other
--   words_at k n s at     the n words of the bytes from `at` on
--   Words k w            every element is below 256^k
-- Not here: one word and its bytes (words, Endian).
-- Assumes nothing.
use Rattle.std.specs.Prelude.{List, [], ◌∷◌, ◌++◌, ℕ, zero, suc, ◌+◌, ◌*◌, ◌^◌, ◌<◌, get_or}
use Rattle.words.specs.Endian.{le, le_bytes}

unfoldable pub word_bytes : ℕ → List ℕ → List ℕ
word_bytes k [] = []
word_bytes k (x ∷ w) = le_bytes k x ++ word_bytes k w

unfoldable pub words_at : ℕ → ℕ → List ℕ → ℕ → List ℕ
words_at k zero s at = []
words_at k (suc n) s at = words_at k n s at ++ (le k s (at + n * k) ∷ [])

abbrev pub Words : ℕ → List ℕ → Type 0
Words k w = (i : ℕ) → get_or w i 0 < 256 ^ k
