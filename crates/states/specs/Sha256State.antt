-- A SHA-256 under way as 100 bytes: the eight chaining words in 4 bytes each, the buffer, the total in four.
-- Assumes nothing.
use Rattle.std.specs.Prelude.{◌≡◌, List, ◌++◌, ℕ, ◌^◌, ◌<◌, length, take, drop}
use Rattle.words.specs.Endian.{le, le_bytes}
use Rattle.sha256.specs.declared.Sha256.{Sha256}
use Rattle.states.specs.Words.{word_bytes, words_at, Words}

unfoldable pub packed : Sha256 → List ℕ
packed s = word_bytes 4 s.chain ++ s.buffer ++ le_bytes 4 s.total

unfoldable pub unpacked : List ℕ → Sha256
unpacked b = record { chain = words_at 4 8 b 0; buffer = take 64 (drop 32 b); total = le 4 b 96 }

-- the arrays have their lengths, and the numbers are within their types
pub record Typed (s : Sha256) : Type 0 where
  pub long_chain : length s.chain ≡ 8
  pub words_chain : Words 4 s.chain
  pub long_buffer : length s.buffer ≡ 64
  pub lt_total : s.total < 2 ^ 32
