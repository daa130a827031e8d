-- RFC 9106 (September 2021), Argon2 Memory-Hard Function: Argon2d and Argon2id, version 0x13, from the inputs to the tag.
--
--   2                  LE32(a)                                  words' Endian: le_bytes 4
--   3.1                inputs                                   Inputs
--   3.2, step 1        H_0                                      counted, prehash, h0
--   3.2, step 2        p lanes of q blocks, m' in all           figures (argon2_fill's lane_length and blocks)
--   3.2, steps 3, 4    B[i][0] and B[i][1]                      first_block_of, first_blocks
--   3.2, steps 5, 6    the other blocks, and later passes       filled_memory (argon2_fill's fill)
--   3.2, step 7        C                                        last_column
--   3.2, step 8        the tag                                  tag_of, tag
-- The RFC does not say what the memory holds before it is filled. Here it is zeros; the crate's proofs show that it does not
-- matter (proofs, Laws.Memory).
-- Left out: Argon2i, version 0x10.
-- Differs: every length is a number, where the RFC has bounds; LE32 takes a number's low 32 bits.
-- Not here: G (crate argon2_block), the filling (argon2_fill), H' (argon2_hash), BLAKE2b (blake2b).
-- Assumes nothing.
use Rattle.std.specs.Prelude.{List, ◌++◌, ℕ, zero, suc, ◌-◌, ◌*◌, ◌/◌, length, replicate}
use Rattle.words.specs.Endian.{le_bytes}
use Rattle.words.specs.Xor.{xors}
use Rattle.slices.specs.Over.{put_at}
use Rattle.blake2b.specs.Rfc7693.{blake2b, block_words, serialize}
use Rattle.argon2_hash.specs.LongHash.{long_hash}
use Rattle.argon2_fill.specs.Rfc9106.{Figures, lane_length, blocks, block_at, block, fill, chooser}

-- 3.1: the inputs, m in KiB, y being 0 for Argon2d and 2 for Argon2id
pub record Inputs : Type 0 where
  -- y
  pub kind : ℕ
  -- p
  pub lanes : ℕ
  -- T
  pub tag_length : ℕ
  -- m
  pub memory : ℕ
  -- t
  pub passes : ℕ
  -- P
  pub password : List ℕ
  -- S
  pub salt : List ℕ
  -- K
  pub secret : List ℕ
  -- X
  pub associated : List ℕ

-- 3.2, step 1: "LE32(length(P)) || P"
abbrev pub counted : List ℕ → List ℕ
counted s = le_bytes 4 (length s) ++ s

-- 3.2, step 1: what H_0 is the hash of: "LE32(p) || LE32(T) || LE32(m) || LE32(t) || LE32(v) || LE32(y) || .."
unfoldable pub prehash : Inputs → List ℕ
prehash i =
    le_bytes 4 i.lanes ++ (le_bytes 4 i.tag_length ++ (le_bytes 4 i.memory ++ (le_bytes 4 i.passes
    ++ (le_bytes 4 0x13 ++ (le_bytes 4 i.kind
    ++ (counted i.password ++ (counted i.salt ++ (counted i.secret ++ counted i.associated))))))))

-- 3.2, step 1: "H_0 = H^(64)( .. )"
unfoldable pub h0 : Inputs → List ℕ
h0 i = blake2b 64 (prehash i)

-- 3.2, step 2: "m' = 4 * p * floor (m / 4p)", a lane having four segments
abbrev pub figures : Inputs → Figures
figures i =
    record { lanes = i.lanes; segment = i.memory / (4 * i.lanes); passes = i.passes; kind = i.kind }

-- 3.2, steps 3 and 4: "B[i][j] = H'^(1024)(H_0 || LE32(j) || LE32(i))", for j 0 and 1
unfoldable pub first_block_of : List ℕ → ℕ → ℕ → List ℕ
first_block_of h i j = block_words 128 (long_hash 1024 (h ++ (le_bytes 4 j ++ le_bytes 4 i)))

-- .. of the first n lanes, each in its place
unfoldable pub first_blocks : Figures → List ℕ → ℕ → List ℕ → List ℕ
first_blocks f h zero m = m
first_blocks f h (suc n) m =
    put_at (block_at f n 1 * 128) (first_block_of h n 1)
    (put_at (block_at f n 0 * 128) (first_block_of h n 0) (first_blocks f h n m))

-- 3.2, steps 3 to 6: the memory once it is filled
unfoldable pub filled_memory : Figures → List ℕ → List ℕ
filled_memory f h = fill (chooser f) f (first_blocks f h f.lanes (replicate (blocks f * 128) 0))

-- 3.2, step 7: "C = B[0][q-1] XOR B[1][q-1] XOR ... XOR B[p-1][q-1]", over the first n lanes
unfoldable pub last_column : Figures → List ℕ → ℕ → List ℕ
last_column f m zero = replicate 128 0
last_column f m (suc n) = xors (last_column f m n) (block m (block_at f n (lane_length f - 1)))

-- 3.2, step 8: "H'^T(C)", from the figures, H_0 and T
unfoldable pub tag_of : Figures → List ℕ → ℕ → List ℕ
tag_of f h t = long_hash t (serialize (last_column f (filled_memory f h) f.lanes))

-- 3.2: the tag of the inputs
unfoldable pub tag : Inputs → List ℕ
tag i = tag_of (figures i) (h0 i) i.tag_length
