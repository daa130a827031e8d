-- The ciphertext of a file's blocks, by their sizes alone: the tags are checked before it is asked for (Checks).
--
--   block_size f p          the size of the block at p that is all there, else 0
--   text f p               the data of the blocks from p on, one behind the other, up to one of size 0
--   payload_in z k f p n    the payload in it by the cipher z, with n bytes lent
-- A block has 36 bytes at least, so the count of `text_of` never ends it.
-- Assumes nothing.
use Rattle.std.specs.Prelude.{cond, List, [], ◌++◌, ℕ, zero, suc, ◌+◌, ◌-◌, eqb, leb, length}
use Rattle.words.specs.Endian.{le}
use Rattle.ciphers.specs.declared.Cipher.{Cipher}
use Rattle.block_stream.specs.Blocks.{data_at}
use Rattle.opening.specs.declared.Keys.{Keys}
use Rattle.opening.specs.Decryption.{Opened, payload_by}
use Rattle.opening.specs.Whole.{roomed}

unfoldable pub block_size : List ℕ → ℕ → ℕ
block_size f p =
    cond (leb (p + 36) (length f))
    (cond (leb (le 4 f (p + 32)) (length f - (p + 36))) (le 4 f (p + 32)) 0)
    0

unfoldable pub text_of : ℕ → List ℕ → ℕ → List ℕ
text_of zero f p = []
text_of (suc m) f p =
    cond (eqb (block_size f p) 0) []
    (data_at f p (block_size f p) ++ text_of m f (p + 36 + block_size f p))

unfoldable pub text : List ℕ → ℕ → List ℕ
text f p = text_of (suc (length f)) f p

abbrev pub payload_in : Cipher → Keys → List ℕ → ℕ → ℕ → Opened
payload_in z k f p n = roomed n (payload_by z k (text f p))
