-- The blocks of a file: document 01, "File after the header".
--
--   "blocks: tag, size (Int32), data"                                     block_bytes
--   "Block i from 0 is tagged over i, size, data under key i"             block_tag
--   "A block of size 0 closes"                                            found
--   "checks in order: .. 1, 36 bytes present (2), negative size (5),
--    data present (2), tag (14)"                                          judge, judge_size
--   "Each block is written directly behind the bytes already laid down
--    in the lent file buffer"                                             sealed
-- `base` is the tag base, `i` the block's number, `p` its place in the file. The size and the data stand side by side
-- in the file, so that a tag is over one stretch of it.
-- Not here: what follows a closing block (15, 16) and room (17): crate opening.
-- Assumes nothing.
use Rattle.std.specs.Prelude.{Bool, cond, List, ◌++◌, ℕ, ◌+◌, ◌-◌, eqb, leb, length, take, drop, Option, Some, None}
use Rattle.words.specs.Endian.{le, le_bytes}
use Rattle.words.specs.Size.{int32}
use Rattle.slices.specs.Over.{over}
use Rattle.slices.specs.Same.{same}
use Rattle.refusals.specs.declared.Refusal.TheVariants.{TooLong, CutShort, WrongSize, BlockTag}
use Rattle.refusals.specs.Limits.{file_limit}
use Rattle.fips180.specs.Fips180.{sha256}
use Rattle.hmac.specs.Rfc2104.{hmac}
use Rattle.keys.specs.Kdbx4Keys.{tag_key}
use Rattle.block_stream.specs.declared.Block.{Block}
use Rattle.block_stream.specs.declared.Block.TheVariants.{Data, Closing, Refused}

-- the tag of block i, whose size and data are m
unfoldable pub block_tag : List ℕ → ℕ → List ℕ → List ℕ
block_tag base i m = hmac sha256 (tag_key i base) (le_bytes 8 i ++ m)

-- the bytes of block i with the data d
unfoldable pub block_bytes : List ℕ → ℕ → List ℕ → List ℕ
block_bytes base i d = block_tag base i (le_bytes 4 (length d) ++ d) ++ (le_bytes 4 (length d) ++ d)

-- the tag of the block at p holds, with a size of n
unfoldable pub holds : List ℕ → List ℕ → ℕ → ℕ → ℕ → Bool
holds base f i p n = same (take 32 (drop p f)) (block_tag base i (take (4 + n) (drop (p + 32) f)))

-- "A block of size 0 closes"
unfoldable pub found : ℕ → Block
found n = cond (eqb n 0) Closing (Data n)

-- negative size (5), data present (2), tag (14)
unfoldable pub judge_size : List ℕ → List ℕ → ℕ → ℕ → Option ℕ → Block
judge_size base f i p None = Refused (WrongSize 0)
judge_size base f i p (Some n) =
    cond (leb n (length f - (p + 36)))
    (cond (holds base f i p n) (found n) (Refused BlockTag))
    (Refused (CutShort 0))

-- the block at p of a file, as block i: 1, 36 bytes present (2)
unfoldable pub judge : List ℕ → List ℕ → ℕ → ℕ → Block
judge base f i p =
    cond (leb (length f) file_limit)
    (cond (leb (p + 36) (length f)) (judge_size base f i p (int32 (le 4 f (p + 32)))) (Refused (CutShort 0)))
    (Refused TooLong)

-- the data of the block at p, n bytes
abbrev pub data_at : List ℕ → ℕ → ℕ → List ℕ
data_at f p n = take n (drop (p + 36) f)

-- s with block i over its front, whose n bytes of data stand at 36; as it is where they are not there or over the limit
unfoldable pub sealed : List ℕ → ℕ → ℕ → List ℕ → List ℕ
sealed base i n s =
    cond (leb (36 + n) (length s))
    (cond (leb n file_limit) (over (block_bytes base i (take n (drop 36 s))) s) s)
    s
