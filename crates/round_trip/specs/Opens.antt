-- Demand 2: "What we write opens to the same payload", whole and block by block, under the same T.
--
--   Opens           the file f, in blocks of a size, opens to the payload b (crate recutting, BothOpen)
--   WrittenOpens    a success of the writer: what it leaves in the lent bytes is such a file
-- g are the figures that are written, of any of the three KDFs; c is their cipher, t is T, b the payload.
-- Assumes nothing.
use Rattle.std.specs.Prelude.{◌≡◌, List, ℕ, ◌+◌, ◌≤◌, length, take, drop, Ok}
use Rattle.refusals.specs.Limits.{written_block}
use Rattle.ciphers.specs.declared.Cipher.{Cipher}
use Rattle.cutting.specs.Cutting.{block_count}
use Rattle.opening.specs.declared.Keys.{Keys}
use Rattle.opening.specs.Steps.{padded}
use Rattle.vault_keys.specs.VaultKeys.{keys_with}
use Rattle.recutting.specs.Opens.{BothOpen}
use Rattle.writer.specs.Written.{Figures, encryption_by, header_of, file_bytes, checked_of}

-- the keys of a written file, and the place of its first block
abbrev pub file_keys : Figures → Cipher → List ℕ → Keys
file_keys g c t = keys_with c g.seed (padded g.nonce) t

abbrev pub first_block_of : Figures → Cipher → ℕ
first_block_of g c = length (header_of g c) + 64

-- f, the file in blocks of z bytes: the start accepts it, and both openers give the payload, block by block in as many
-- steps with room as it has blocks
abbrev pub Opens : ℕ → Figures → Cipher → List ℕ → List ℕ → List ℕ → Type 0
Opens z g c t b f =
    BothOpen t f (file_keys g c t) (first_block_of g c) b (block_count z (length (encryption_by c (file_keys g c t) b)) + 1)

-- the writer answered m; `before` are the lent bytes, `after` what they are after the call
pub record WrittenOpens (g : Figures) (t b before after : List ℕ) (m : ℕ) : Type 0 where
  pub cipher : Cipher
  pub accepted : checked_of g ≡ Ok cipher
  -- the count is the file's length, the first m bytes are the file, and those behind it are as they were
  pub count_is : m ≡ length (file_bytes g cipher t b)
  pub room : m ≤ length before
  pub file_is : take m after ≡ file_bytes g cipher t b
  pub rest_is : drop m after ≡ drop m before
  -- and these bytes open
  pub opens : Opens written_block g cipher t b (take m after)
