-- A SHA-512 under way as 196 bytes: the eight chaining words in 8 bytes each, the buffer, the total in four.
-- Assumes nothing.
use Rattle.std.specs.Prelude.{◌≡◌, List, ◌++◌, ℕ, ◌^◌, ◌<◌, length, take, drop}
use Rattle.words.specs.Endian.{le, le_bytes}
use Rattle.sha512.specs.declared.Sha512.{Sha512}
use Rattle.states.specs.Words.{word_bytes, words_at, Words}

unfoldable pub packed : Sha512 → List ℕ
packed s = word_bytes 8 s.chain ++ s.buffer ++ le_bytes 4 s.total

unfoldable pub unpacked : List ℕ → Sha512
unpacked b = record { chain = words_at 8 8 b 0; buffer = take 128 (drop 64 b); total = le 4 b 192 }

-- the arrays have their lengths, and the numbers are within their types
pub record Typed (s : Sha512) : Type 0 where
  pub long_chain : length s.chain ≡ 8
  pub words_chain : Words 8 s.chain
  pub long_buffer : length s.buffer ≡ 128
  pub lt_total : s.total < 2 ^ 32
