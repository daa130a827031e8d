-- How many bytes are due for a block, told before anything is decrypted: document 01, "File after the header".
--
--   "AES has handed over 16 × floor((c-1)/16); ChaCha20 .. has handed over c"    due_by: what a block of n bytes adds
-- c is how many bytes of ciphertext came before, n how many the block has.
-- Not here: the bytes themselves (crate opening, Steps.bytes_by); that they are so many, and at most n + 15 (Laws.Due).
-- Assumes nothing.
use Rattle.std.specs.Prelude.{ℕ, ◌+◌, ◌-◌, ◌*◌, ◌/◌}
use Rattle.ciphers.specs.declared.Cipher.{Cipher}
use Rattle.ciphers.specs.declared.Cipher.TheVariants.{Aes256, ChaCha20}
use Rattle.opening.specs.Decryption.{handed}

-- how many bytes are held
unfoldable pub held_count : ℕ → ℕ
held_count c = c - handed Aes256 c

-- of n bytes, held ones and data, how many are due
unfoldable pub due_count : ℕ → ℕ
due_count n = 16 * ((n - 1) / 16)

unfoldable pub due_by : Cipher → ℕ → ℕ → ℕ
due_by Aes256 c n = due_count (held_count c + n)
due_by ChaCha20 c n = n
