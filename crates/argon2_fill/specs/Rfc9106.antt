-- RFC 9106 (September 2021), Argon2 Memory-Hard Function: filling the memory, once over the way reference blocks are chosen.
--
--   3.2, steps 5, 6    blocks of the first pass and of later ones     block, fill_block, segment, slices, passes, fill
--   3.4                lanes, slices, segments                        Figures, Position, lane_length, column, block_at
--   3.4.1              the word J_2 || J_1 of a block                 dependent, independent, argon2id, chooser
--   3.4.2              from the word to the reference block           reference_lane, area, relative, reference
-- Memory is a list of words, block after block and lane after lane: B[i][j] is the 128 words from 128 (i q + j) on. A chooser
-- gives the word J_2 * 2^32 + J_1 of a position, from the memory as it stands. Blocks 0 and 1 of each lane are given.
-- Version 0x13: a later pass adds to the old block by exclusive or.
-- Left out: Argon2i (3.4.1.2 beyond Argon2id's part); H_0, the first blocks and the tag (the crate argon2).
-- Assumes nothing.
use Rattle.std.specs.Prelude.{cond, ◌&&◌, List, ◌∷◌, ℕ, zero, suc, ◌+◌, ◌-◌, ◌*◌, ◌/◌, ◌%◌, ◌^◌, eqb, ltb, get_or, take, drop, replicate}
use Rattle.words.specs.Xor.{xors}
use Rattle.slices.specs.Over.{put_at}
use Rattle.argon2_block.specs.Rfc9106.{compress}

-- 3.1, 3.2: p lanes, blocks of a segment (q / 4), t passes, the type y (0 for Argon2d, 2 for Argon2id)
pub record Figures : Type 0 where
  pub lanes : ℕ
  pub segment : ℕ
  pub passes : ℕ
  pub kind : ℕ

-- 3.4: the pass r, the slice sl, the lane l, and a block's index in its segment
pub record Position : Type 0 where
  pub pass : ℕ
  pub slice : ℕ
  pub lane : ℕ
  pub index : ℕ

-- 3.2, step 2: q
abbrev pub lane_length : Figures → ℕ
lane_length f = 4 * f.segment

-- 3.2, step 2: m', the number of blocks
abbrev pub blocks : Figures → ℕ
blocks f = f.lanes * lane_length f

-- 3.4: j
abbrev pub column : Figures → Position → ℕ
column f p = p.slice * f.segment + p.index

-- the number of the block B[i][j]
abbrev pub block_at : Figures → ℕ → ℕ → ℕ
block_at f i j = i * lane_length f + j

-- B[i][j]
abbrev pub current : Figures → Position → ℕ
current f p = block_at f p.lane (column f p)

-- B[i][j - 1], and B[i][q - 1] for j = 0
unfoldable pub previous : Figures → Position → ℕ
previous f p =
    cond (eqb (column f p) 0) (block_at f p.lane (lane_length f - 1)) (block_at f p.lane (column f p - 1))

-- the words of a block
abbrev pub block : List ℕ → ℕ → List ℕ
block m n = take 128 (drop (n * 128) m)

-- 3.4.2: l = J_2 mod p, and in the first slice of the first pass the current lane
unfoldable pub reference_lane : Figures → Position → ℕ → ℕ
reference_lane f p word = cond (eqb p.pass 0 && eqb p.slice 0) p.lane (word / 2 ^ 32 % f.lanes)

-- 3.4.2: how many blocks the segments that are finished and not overwritten have: those before, or the last three
unfoldable pub finished : Figures → Position → ℕ
finished f p = cond (eqb p.pass 0) (p.slice * f.segment) (3 * f.segment)

-- 3.4.2: |W|: in the current lane the current segment's blocks count too, all but B[i][j - 1]; in another lane the last block
-- does not count for the first block of a segment
unfoldable pub area : Figures → Position → ℕ → ℕ
area f p l =
    cond (eqb l p.lane) (finished f p + p.index - 1) (cond (eqb p.index 0) (finished f p - 1) (finished f p))

-- 3.4.2: zz = |W| - 1 - y, with x = J_1^2 / 2^32 and y = |W| * x / 2^32
unfoldable pub relative : ℕ → ℕ → ℕ
relative w j = w - 1 - w * (j * j / 2 ^ 32) / 2 ^ 32

-- 3.4.2: where W begins: behind the current segment, in the first pass at the lane's front
unfoldable pub first : Figures → Position → ℕ
first f p = cond (eqb p.pass 0) 0 ((p.slice + 1) % 4 * f.segment)

-- 3.4.2: the reference block of a word J_2 * 2^32 + J_1
unfoldable pub reference : Figures → Position → ℕ → ℕ
reference f p word =
    let l : ℕ = reference_lane f p word in
    block_at f l ((first f p + relative (area f p l) (word % 2 ^ 32)) % lane_length f)

-- 3.5: R of a position, from the word that is chosen
abbrev pub source : Figures → Position → ℕ → List ℕ → List ℕ
source f p word m = xors (block m (previous f p)) (block m (reference f p word))

-- 3.2, steps 5 and 6: the block of a position, from the word that is chosen
unfoldable pub new_block : Figures → Position → ℕ → List ℕ → List ℕ
new_block f p word m =
    let g : List ℕ = compress (block m (previous f p)) (block m (reference f p word)) in
    cond (eqb p.pass 0) g (xors g (block m (current f p)))

-- 3.2, steps 5 and 6: .. put in its place
unfoldable pub fill_block : (List ℕ → Position → ℕ) → Figures → Position → List ℕ → List ℕ
fill_block choose f p m = put_at (current f p * 128) (new_block f p (choose m p) m) m

-- a position of a segment
abbrev pub at : Position → ℕ → Position
at p i = record { pass = p.pass; slice = p.slice; lane = p.lane; index = i }

-- n blocks of a segment, from the position's on
unfoldable pub fill_from : (List ℕ → Position → ℕ) → Figures → Position → ℕ → List ℕ → List ℕ
fill_from choose f p zero m = m
fill_from choose f p (suc n) m = fill_block choose f (at p (p.index + n)) (fill_from choose f p n m)

-- 3.2, steps 3 and 4: the first two blocks of a lane are given
unfoldable pub given : ℕ → ℕ → ℕ
given r sl = cond (eqb r 0 && eqb sl 0) 2 0

-- the segment of a pass, slice and lane
unfoldable pub segment : (List ℕ → Position → ℕ) → Figures → ℕ → ℕ → ℕ → List ℕ → List ℕ
segment choose f r sl l m =
    let p : Position = record { pass = r; slice = sl; lane = l; index = given r sl } in
    fill_from choose f p (f.segment - given r sl) m

-- 3.4: a slice's segments in the first n lanes
unfoldable pub segments : (List ℕ → Position → ℕ) → Figures → ℕ → ℕ → ℕ → List ℕ → List ℕ
segments choose f r sl zero m = m
segments choose f r sl (suc n) m = segment choose f r sl n (segments choose f r sl n m)

-- the first n slices of a pass
unfoldable pub slices : (List ℕ → Position → ℕ) → Figures → ℕ → ℕ → List ℕ → List ℕ
slices choose f r zero m = m
slices choose f r (suc n) m = segments choose f r n f.lanes (slices choose f r n m)

-- the first n passes
unfoldable pub passes : (List ℕ → Position → ℕ) → Figures → ℕ → List ℕ → List ℕ
passes choose f zero m = m
passes choose f (suc n) m = slices choose f n 4 (passes choose f n m)

-- 3.2, steps 5 and 6: all blocks but the given ones
unfoldable pub fill : (List ℕ → Position → ℕ) → Figures → List ℕ → List ℕ
fill choose f m = passes choose f f.passes m

-- 3.4.1.1: Argon2d: the first word of B[i][j - 1]
abbrev pub dependent : Figures → List ℕ → Position → ℕ
dependent f m p = get_or m (previous f p * 128) 0

-- 3.4.1.2: Z, the counter, zeros
unfoldable pub address_input : Figures → Position → ℕ → List ℕ
address_input f p counter =
    p.pass ∷ p.lane ∷ p.slice ∷ blocks f ∷ f.passes ∷ f.kind ∷ counter ∷ replicate 121 0

-- 3.4.1.2: G(ZERO(1024), G(ZERO(1024), Z || LE64(counter) || ZERO(968)))
unfoldable pub addresses : Figures → Position → ℕ → List ℕ
addresses f p counter = compress (replicate 128 0) (compress (replicate 128 0) (address_input f p counter))

-- the counter of the block of addresses that holds a position's word
abbrev pub counter_of : Position → ℕ
counter_of p = p.index / 128 + 1

-- 3.4.1.2: Argon2i: word by word of these blocks
abbrev pub independent : Figures → Position → ℕ
independent f p = get_or (addresses f p (counter_of p)) (p.index % 128) 0

-- 3.4.1.3: Argon2id: as Argon2i in the first pass and the slices 0 and 1, else as Argon2d
abbrev pub argon2id : Figures → List ℕ → Position → ℕ
argon2id f m p = cond (eqb p.pass 0 && ltb p.slice 2) (independent f p) (dependent f m p)

-- the chooser of a type
abbrev pub chooser : Figures → List ℕ → Position → ℕ
chooser f m p = cond (eqb f.kind 2) (argon2id f m p) (dependent f m p)
