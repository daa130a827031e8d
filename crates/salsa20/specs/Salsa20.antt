-- D. J. Bernstein, Salsa20 specification (27 April 2005): Salsa20/20 with a key of 32 bytes, as a stream.
--
--   3   quarterround    Four, quarterround
--   4   rowround        rowround
--   5   columnround     columnround
--   6   doubleround     doubleround, doublerounds
--   7   littleendian    of the crate words: le; its inverse on many words, of the crate stream: serialize
--   8   the hash        hash; of the crate stream: sum
--   9   the expansion   expanded, expand
--   10  encryption      block, blocks
-- A byte is a number below 256, a word one below 2^32, a state a list of 16 words. `blocks` is the block function as
-- the crate stream takes one: byte p of the stream of a key and a nonce is byte p % 64 of the block of counter p / 64.
-- Left out: keys of 16 bytes (9).
-- Differs: the hash and the expansion take their 64 bytes as the 16 words that littleendian makes of them; a counter is
-- any number, and its low 64 bits count.
-- Assumes nothing.
use Rattle.std.specs.Prelude.{List, [], ◌∷◌, ◌++◌, ℕ, zero, suc, get_or}
use Rattle.std.specs.Int.Bits.{bit_xor}
use Rattle.words.specs.Word.{plus, rotl}
use Rattle.words.specs.Endian.{le, le_bytes}
use Rattle.stream.specs.Words.{sum, serialize}

-- 3: four words
pub record Four : Type 0 where
  pub y0 : ℕ
  pub y1 : ℕ
  pub y2 : ℕ
  pub y3 : ℕ

-- 3: z1 = y1 ⊕ ((y0 + y3) <<< 7), z2 = y2 ⊕ ((z1 + y0) <<< 9), z3 = y3 ⊕ ((z2 + z1) <<< 13),
-- z0 = y0 ⊕ ((z3 + z2) <<< 18)
unfoldable pub quarterround : Four → Four
quarterround y =
    let z1 : ℕ = bit_xor y.y1 (rotl 32 7 (plus 32 y.y0 y.y3)) in
    let z2 : ℕ = bit_xor y.y2 (rotl 32 9 (plus 32 z1 y.y0)) in
    let z3 : ℕ = bit_xor y.y3 (rotl 32 13 (plus 32 z2 z1)) in
    let z0 : ℕ = bit_xor y.y0 (rotl 32 18 (plus 32 z3 z2)) in
    record { y0 = z0; y1 = z1; y2 = z2; y3 = z3 }

-- the quarterround of four words of a state
abbrev pub quarter : List ℕ → ℕ → ℕ → ℕ → ℕ → Four
quarter s i j k l = quarterround (record { y0 = get_or s i 0; y1 = get_or s j 0; y2 = get_or s k 0; y3 = get_or s l 0 })

-- 4: (z0, z1, z2, z3), (z5, z6, z7, z4), (z10, z11, z8, z9), (z15, z12, z13, z14)
unfoldable pub rowround : List ℕ → List ℕ
rowround y =
    let p : Four = quarter y 0 1 2 3 in
    let q : Four = quarter y 5 6 7 4 in
    let r : Four = quarter y 10 11 8 9 in
    let s : Four = quarter y 15 12 13 14 in
    p.y0 ∷ p.y1 ∷ p.y2 ∷ p.y3
    ∷ q.y3 ∷ q.y0 ∷ q.y1 ∷ q.y2
    ∷ r.y2 ∷ r.y3 ∷ r.y0 ∷ r.y1
    ∷ s.y1 ∷ s.y2 ∷ s.y3 ∷ s.y0 ∷ []

-- 5: (y0, y4, y8, y12), (y5, y9, y13, y1), (y10, y14, y2, y6), (y15, y3, y7, y11)
unfoldable pub columnround : List ℕ → List ℕ
columnround x =
    let p : Four = quarter x 0 4 8 12 in
    let q : Four = quarter x 5 9 13 1 in
    let r : Four = quarter x 10 14 2 6 in
    let s : Four = quarter x 15 3 7 11 in
    p.y0 ∷ q.y3 ∷ r.y2 ∷ s.y1
    ∷ p.y1 ∷ q.y0 ∷ r.y3 ∷ s.y2
    ∷ p.y2 ∷ q.y1 ∷ r.y0 ∷ s.y3
    ∷ p.y3 ∷ q.y2 ∷ r.y1 ∷ s.y0 ∷ []

-- 6: rowround(columnround(x))
unfoldable pub doubleround : List ℕ → List ℕ
doubleround x = rowround (columnround x)

-- 8: doubleround, n times
unfoldable pub doublerounds : ℕ → List ℕ → List ℕ
doublerounds zero x = x
doublerounds (suc n) x = doubleround (doublerounds n x)

-- 8: Salsa20(x) = x + doubleround¹⁰(x), of the words of x
unfoldable pub hash : List ℕ → List ℕ
hash x = serialize (sum (doublerounds 10 x) x)

-- 9: (σ0, k0, σ1, n, σ2, k1, σ3), the 16 bytes k0 and k1 of a key and the 16 bytes n
unfoldable pub expanded : List ℕ → List ℕ → List ℕ
expanded k n =
    0x61707865 ∷ le 4 k 0 ∷ le 4 k 4 ∷ le 4 k 8
    ∷ le 4 k 12 ∷ 0x3320646e ∷ le 4 n 0 ∷ le 4 n 4
    ∷ le 4 n 8 ∷ le 4 n 12 ∷ 0x79622d32 ∷ le 4 k 16
    ∷ le 4 k 20 ∷ le 4 k 24 ∷ le 4 k 28 ∷ 0x6b206574 ∷ []

-- 9: Salsa20_k(n)
unfoldable pub expand : List ℕ → List ℕ → List ℕ
expand k n = hash (expanded k n)

-- 10: Salsa20_k(v, i), the nonce v and the eight bytes of the counter i
unfoldable pub block : List ℕ → ℕ → List ℕ → List ℕ
block key counter nonce = expand key (nonce ++ le_bytes 8 counter)

-- the blocks of a key and a nonce, by their counter
abbrev pub blocks : List ℕ → List ℕ → ℕ → List ℕ
blocks key nonce counter = block key counter nonce
