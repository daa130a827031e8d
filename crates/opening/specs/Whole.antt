-- The whole opener behind the header's tag: each block's checks, at the closing block 15 and 16, and 17 once and last.
--
-- A walk counts its blocks down from the file's length and one: a block has 36 bytes at least, so the count never ends
-- it.
-- Not here: the header's checks (crate vault).
-- Assumes nothing.
use Rattle.std.specs.Prelude.{cond, List, [], ◌++◌, ℕ, zero, suc, ◌+◌, ltb, length, Ok, Err}
use Rattle.refusals.specs.declared.Refusal.TheVariants.{CutShort, TrailingBytes, NoRoom}
use Rattle.refusals.specs.Numbers.{Written}
use Rattle.block_stream.specs.Blocks.{judge, data_at}
use Rattle.block_stream.specs.declared.Block.{Block}
use Rattle.block_stream.specs.declared.Block.TheVariants.{Data, Closing, Refused}
use Rattle.opening.specs.declared.Keys.{Keys}
use Rattle.opening.specs.Decryption.{Opened, refused, opened, payload}

-- behind a closing block at p that passes: bytes after it (15), then the payload of the ciphertext t (16)
unfoldable pub close_of : Keys → List ℕ → ℕ → List ℕ → Opened
close_of k f p t = cond (ltb (p + 36) (length f)) (refused TrailingBytes) (payload k t)

unfoldable pub walk_in : Block → (ℕ → Opened) → Opened → Opened
walk_in (Refused r) more end = refused r
walk_in (Data n) more end = more n
walk_in Closing more end = end

-- from block i at p on, behind the ciphertext t
unfoldable pub walk : ℕ → Keys → List ℕ → ℕ → ℕ → List ℕ → Opened
walk zero k f i p t = refused (CutShort 0)
walk (suc m) k f i p t =
    walk_in (judge k.base f i p)
    (λ (n : ℕ). walk m k f (suc i) (p + 36 + n) (t ++ data_at f p n))
    (close_of k f p t)

-- all blocks of a file whose first one stands at p, with room for any payload
unfoldable pub whole : Keys → List ℕ → ℕ → Opened
whole k f p = walk (suc (length f)) k f 0 p []

-- with n bytes lent (17)
unfoldable pub roomed : ℕ → Opened → Opened
roomed n (refused r) = refused r
roomed n (opened b) = cond (ltb n (length b)) (refused NoRoom) (opened b)

unfoldable pub whole_in : Keys → List ℕ → ℕ → ℕ → Opened
whole_in k f p n = roomed n (whole k f p)

-- an opening as an answer, and the bytes that it hands over: none where it is refused
unfoldable pub written_of : Opened → Written
written_of (refused r) = Err r
written_of (opened b) = Ok (length b)

unfoldable pub shown_of : Opened → List ℕ
shown_of (refused r) = []
shown_of (opened b) = b
