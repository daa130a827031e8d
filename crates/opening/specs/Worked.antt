-- Document 01, "Numbers to meet": what the numbers of the steps speak of.
--
--   writtens                        the numbers and counts of a list of answers
--   Blocks5And27, ClosingBehind     a file whose first two blocks have 5 and 27 bytes; and the closing block behind them
--   ciphertext                      of these two blocks
--   closing_adds, OpenedBytes        what the closing block adds; how many bytes that is
-- k are the keys, f is the file, p the place of its first block.
-- Assumes nothing.
use Rattle.std.specs.Prelude.{◌≡◌, List, [], ◌∷◌, ◌++◌, ℕ, ◌+◌, ◌≤◌, ◌<◌, length}
use Rattle.refusals.specs.Numbers.{Written}
use Rattle.refusals.specs.Limits.{file_limit}
use Rattle.ciphers.specs.declared.Cipher.TheVariants.{Aes256}
use Rattle.block_stream.specs.Blocks.{judge, data_at}
use Rattle.block_stream.specs.declared.Block.TheVariants as block
use Rattle.opening.specs.declared.Keys.{Keys}
use Rattle.opening.specs.Decryption.{Opened, opened}
use Rattle.opening.specs.Runs.{Answer}
use Rattle.opening.specs.Steps.{last_by}
use Rattle.opening.specs.Standing.{prev_of, held_of}

abbrev pub writtens : List Answer → List Written
writtens [] = []
writtens (a ∷ l) = a.written ∷ writtens l

-- a file whose first two blocks have 5 and 27 bytes and pass
pub record Blocks5And27 (k : Keys) (f : List ℕ) (p : ℕ) : Type 0 where
  pub aes : k.cipher ≡ Aes256
  pub nonce_is : length k.nonce ≡ 16
  pub within : length f ≤ file_limit
  pub behind_header : 0 < p
  pub first : judge k.base f 0 p ≡ block.Data 5
  pub second : judge k.base f 1 (p + 36 + 5) ≡ block.Data 27

-- and the closing block behind them, with no byte behind it
pub record ClosingBehind (k : Keys) (f : List ℕ) (p : ℕ) : Type 0 where
  pub third : judge k.base f 2 (p + 36 + 5 + 36 + 27) ≡ block.Closing
  pub nothing_behind : length f ≤ p + 36 + 5 + 36 + 27 + 36

-- the ciphertext in them
abbrev pub ciphertext : List ℕ → ℕ → List ℕ
ciphertext f p = data_at f p 5 ++ data_at f (p + 36 + 5) 27

-- what the closing block adds behind the ciphertext t
abbrev pub closing_adds : Keys → List ℕ → Opened
closing_adds k t = last_by Aes256 k (length t) (prev_of Aes256 k.nonce t) (held_of Aes256 t)

-- opened, with n bytes
pub record OpenedBytes (v : Opened) (n : ℕ) : Type 0 where
  pub bytes : List ℕ
  pub opened_is : v ≡ opened bytes
  pub count_is : length bytes ≡ n
