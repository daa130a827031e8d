-- A ciphertext in blocks: document 01, "File after the header"; document 02, Item 13.
--
--   "blocks of any positive sizes that add up to it"                        Positive, total, pieces
--   "all data blocks are full except perhaps the last"; "cuts blocks at
--    1,000 bytes"                                                           cut, sizes_at
--   "tagged by the published rule, closed"; "A block of size 0 closes"      blocks_from
--   lengths, NonEmpty                                                       the sizes of pieces; none of them is empty
--   InBlocks                                                                a file with such blocks from a place on
--   block_count, cut_length                                                   how many data blocks there are at a size, and
--                                                                           how long all blocks are
-- `base` is the tag base, ns are sizes, t is the ciphertext, ds are pieces of it; `joined` (crate fips180, Feeds) has them
-- one behind the other.
-- Not here: a block's bytes and its checks (crate block_stream), the file (crates writer and recutting).
-- Assumes nothing.
use Rattle.std.specs.Prelude.{◌≡◌, cond, List, [], ◌∷◌, ◌++◌, ℕ, zero, suc, ◌+◌, ◌-◌, ◌*◌, ◌/◌, ◌≤◌, eqb, length, take, drop}
use Rattle.block_stream.specs.Blocks.{block_bytes, judge, data_at}
use Rattle.block_stream.specs.declared.Block.TheVariants.{Data, Closing}

-- each size is positive
unfoldable pub Positive : List ℕ → Type 0
Positive [] = Unit {0}
Positive (n ∷ ns) = (1 ≤ n) × Positive ns

-- what sizes add up to
unfoldable pub total : List ℕ → ℕ
total [] = 0
total (n ∷ ns) = n + total ns

-- t in pieces of the sizes ns, one behind the other
unfoldable pub pieces : List ℕ → List ℕ → List (List ℕ)
pieces [] t = []
pieces (n ∷ ns) t = take n t ∷ pieces ns (drop n t)

-- t in pieces of z bytes, all full except perhaps the last; m counts down from the length of t, and never ends it where
-- z is positive
unfoldable pub cut_in : ℕ → ℕ → List ℕ → List (List ℕ)
cut_in z zero t = []
cut_in z (suc m) t = cond (eqb (length t) 0) [] (take z t ∷ cut_in z m (drop z t))

abbrev pub cut : ℕ → List ℕ → List (List ℕ)
cut z t = cut_in z (length t) t

-- a data block for each piece, numbered from i on, and the closing block
unfoldable pub blocks_from : List ℕ → ℕ → List (List ℕ) → List ℕ
blocks_from base i [] = block_bytes base i []
blocks_from base i (d ∷ ds) = block_bytes base i d ++ blocks_from base (suc i) ds

-- the sizes of pieces
unfoldable pub lengths : List (List ℕ) → List ℕ
lengths [] = []
lengths (d ∷ ds) = length d ∷ lengths ds

-- the sizes of t in pieces of z bytes
abbrev pub sizes_at : ℕ → List ℕ → List ℕ
sizes_at z t = lengths (cut z t)

-- no piece is empty
unfoldable pub NonEmpty : List (List ℕ) → Type 0
NonEmpty [] = Unit {0}
NonEmpty (d ∷ ds) = (1 ≤ length d) × NonEmpty ds

-- from p on the file f has data blocks that pass, numbered from i on, with the data ds; then the closing block, which
-- passes as well, and no byte behind it
unfoldable pub InBlocks : List ℕ → List ℕ → ℕ → ℕ → List (List ℕ) → Type 0
InBlocks base f i p [] = (judge base f i p ≡ Closing) × (length f ≡ p + 36)
InBlocks base f i p (d ∷ ds) =
    (judge base f i p ≡ Data (length d))
    × ((data_at f p (length d) ≡ d) × InBlocks base f (suc i) (p + 36 + length d) ds)

-- how many data blocks n bytes of ciphertext have, in blocks of z bytes, the last perhaps not full
unfoldable pub block_count : ℕ → ℕ → ℕ
block_count z n = (n + (z - 1)) / z

-- .. and how long they are, with the closing block
abbrev pub cut_length : ℕ → ℕ → ℕ
cut_length z n = n + 36 * (block_count z n + 1)
