-- Document 01, "Numbers of the terminal": the most of each thing, in bytes but for the rounds. A limit is inclusive.
-- Document 02, Item 1: "1 where the key's length or position plus length passes 4,194,304"          stream_limit
-- Document 02, Item 3: "Reader and writer shall turn away fewer than 6,000 rounds"                 rounds_least
-- Document 02, Item 7: "raise the one library's file and payload limits to 16,777,216 bytes, .. a hash message to
--   33,554,432 and the written block to 1,048,576"                file_limit, payload_limit, message_limit, written_block
--   "Passwords, key files and Item 1 keep 4,194,304"                       password_limit, key_file_limit, stream_limit
-- Document 02, Item 6: "S of 8 to 64 bytes, I 1 to 64, M 8,192 to 67,108,864, P 1 to 16, M at least 8,192 times P"
--                                                                                         argon2_fits, Argon2Bounds
-- Not here: the laws that proofs lean on (proofs, Laws.Limits).
-- Assumes nothing.
use Rattle.std.specs.Prelude.{Bool, ◌&&◌, ℕ, ◌*◌, ◌≤◌, leb}

-- a file, read or written
unfoldable pub file_limit : ℕ
file_limit = 16_777_216

-- a payload, read or written
unfoldable pub payload_limit : ℕ
payload_limit = 16_777_216

-- a password
unfoldable pub password_limit : ℕ
password_limit = 4_194_304

-- a key file
unfoldable pub key_file_limit : ℕ
key_file_limit = 4_194_304

-- one hash or tag message in all
unfoldable pub message_limit : ℕ
message_limit = 33_554_432

-- rounds of the key transformation
unfoldable pub rounds_limit : ℕ
rounds_limit = 4_000_000

-- the least rounds of AES-KDF in a vault that is read or written
unfoldable pub rounds_least : ℕ
rounds_least = 6_000

-- the inner stream (document 02, Item 1): its key, and where a stretch of it ends
unfoldable pub stream_limit : ℕ
stream_limit = 4_194_304

-- ciphertext in a block that is written
unfoldable pub written_block : ℕ
written_block = 1_048_576

-- a PC program's input
unfoldable pub program_limit : ℕ
program_limit = 65_536

-- a number from the least to the most
abbrev pub within : ℕ → ℕ → ℕ → Bool
within n least most = leb least n && leb n most

-- Argon2's figures: salt (in bytes), passes, memory (in bytes), lanes; and as much memory as the lanes need
abbrev pub salt_fits : ℕ → Bool
salt_fits n = within n 8 64

abbrev pub passes_fit : ℕ → Bool
passes_fit n = within n 1 64

abbrev pub memory_fits : ℕ → Bool
memory_fits n = within n 8_192 67_108_864

abbrev pub lanes_fit : ℕ → Bool
lanes_fit n = within n 1 16

unfoldable pub argon2_fits : ℕ → ℕ → ℕ → ℕ → Bool
argon2_fits salt passes memory lanes =
    salt_fits salt && (passes_fit passes && (memory_fits memory && (lanes_fit lanes && leb (8_192 * lanes) memory)))

-- the same bounds as facts; 8,192 of memory follow from a lane
pub record Argon2Bounds (salt passes memory lanes : ℕ) : Type 0 where
  pub salt_least : 8 ≤ salt
  pub salt_most : salt ≤ 64
  pub passes_least : 1 ≤ passes
  pub passes_most : passes ≤ 64
  pub memory_least : 8_192 * lanes ≤ memory
  pub memory_most : memory ≤ 67_108_864
  pub lanes_least : 1 ≤ lanes
  pub lanes_most : lanes ≤ 16
