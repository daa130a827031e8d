-- RFC 7693 (November 2015), The BLAKE2 Cryptographic Hash and Message Authentication Code: BLAKE2b without a key.
--
--   2.1   parameters               words of 64 bits, 12 rounds, blocks of 128 bytes, rotations 32, 24, 16 and 63
--   2.4   words and bytes          block_words, serialize
--   2.6   initialization vector    FIPS 180-4's for SHA-512 (fips180's Fips180.Constants: iv512)
--   2.7   message schedule         Constants: sigma_rows; scheduled
--   3.1   mixing function G        Four, half, mix, mixing_g
--   3.2   compression function F   working, round_on, rounds, joined, compression_f
--   3.3   padding and computing    blocks_before, padded, initial, chain, last_block, full, blake2b
-- Left out: BLAKE2s, and keys (kk is 0 throughout). Tree hashing is not in the RFC.
-- Differs: nn is any number, where the RFC has 1 to 64, and a message has any length, where it stops at 2^128 bytes
-- (docs/DECISIONS.md).
-- Assumes nothing.
use Rattle.std.specs.Prelude.{Bool, true, false, cond, List, [], ◌∷◌, ◌++◌, ℕ, zero, suc, ◌+◌, ◌-◌, ◌*◌, ◌/◌, ◌%◌, ◌^◌, length, get_or, set, take, drop, replicate}
use Rattle.std.specs.Int.Bits.{bit_xor}
use Rattle.words.specs.Word.{plus, rotr}
use Rattle.words.specs.Endian.{le, le_bytes}
use Rattle.words.specs.Xor.{xors}
use Rattle.slices.specs.Over.{over}
use Rattle.fips180.specs.Fips180.Constants.{iv512}
pub mod Constants
use Rattle.blake2b.specs.Rfc7693.Constants.{sigma_rows}

-- 2.4: the first n words of some bytes, least significant byte first
unfoldable pub block_words : ℕ → List ℕ → List ℕ
block_words zero block = []
block_words (suc n) block = block_words n block ++ (le 8 block (n * 8) ∷ [])

-- .. and the bytes of words
unfoldable pub serialize : List ℕ → List ℕ
serialize [] = []
serialize (w ∷ ws) = le_bytes 8 w ++ serialize ws

-- 3.1: the words v[a], v[b], v[c], v[d]
pub record Four : Type 0 where
  pub a : ℕ
  pub b : ℕ
  pub c : ℕ
  pub d : ℕ

-- 3.1: v[a] := v[a] + v[b] + x; v[d] := (v[d] ^ v[a]) >>> m; v[c] := v[c] + v[d]; v[b] := (v[b] ^ v[c]) >>> n
unfoldable pub half : ℕ → ℕ → ℕ → Four → Four
half m n x s =
    let a : ℕ = plus 64 (plus 64 s.a s.b) x in
    let d : ℕ = rotr 64 m (bit_xor s.d a) in
    let c : ℕ = plus 64 s.c d in
    let b : ℕ = rotr 64 n (bit_xor s.b c) in
    record { a = a; b = b; c = c; d = d }

-- 3.1: with x, R1 and R2, then with y, R3 and R4
unfoldable pub mix : Four → ℕ → ℕ → Four
mix s x y = half 16 63 y (half 32 24 x s)

-- 3.1: G( v, a, b, c, d, x, y )
unfoldable pub mixing_g : List ℕ → ℕ → ℕ → ℕ → ℕ → ℕ → ℕ → List ℕ
mixing_g v a b c d x y =
    let q : Four = mix (record { a = get_or v a 0; b = get_or v b 0; c = get_or v c 0; d = get_or v d 0 }) x y in
    set (set (set (set v a q.a) b q.b) c q.c) d q.d

-- 2.7, 3.2: m[s[j]], where s[j] stands at `at` in SIGMA
abbrev pub scheduled : List ℕ → ℕ → ℕ
scheduled m at = get_or m (get_or sigma_rows at 0) 0

-- 3.2: the eight mixings of a round, by the row s of SIGMA that begins at `row`
unfoldable pub round_on : List ℕ → ℕ → List ℕ → List ℕ
round_on m row v₀ =
    let v₁ : List ℕ = mixing_g v₀ 0 4 8 12 (scheduled m row) (scheduled m (row + 1)) in
    let v₂ : List ℕ = mixing_g v₁ 1 5 9 13 (scheduled m (row + 2)) (scheduled m (row + 3)) in
    let v₃ : List ℕ = mixing_g v₂ 2 6 10 14 (scheduled m (row + 4)) (scheduled m (row + 5)) in
    let v₄ : List ℕ = mixing_g v₃ 3 7 11 15 (scheduled m (row + 6)) (scheduled m (row + 7)) in
    let v₅ : List ℕ = mixing_g v₄ 0 5 10 15 (scheduled m (row + 8)) (scheduled m (row + 9)) in
    let v₆ : List ℕ = mixing_g v₅ 1 6 11 12 (scheduled m (row + 10)) (scheduled m (row + 11)) in
    let v₇ : List ℕ = mixing_g v₆ 2 7 8 13 (scheduled m (row + 12)) (scheduled m (row + 13)) in
    mixing_g v₇ 3 4 9 14 (scheduled m (row + 14)) (scheduled m (row + 15))

-- 3.2: "FOR i = 0 TO r - 1", with row i mod 10 of SIGMA
unfoldable pub rounds : ℕ → List ℕ → List ℕ → List ℕ
rounds zero m v = v
rounds (suc i) m v = round_on m (16 * (i % 10)) (rounds i m v)

-- 3.2: the working vector: h, and the IV with the counter's low and high word and the final block flag
unfoldable pub working : List ℕ → ℕ → Bool → List ℕ
working h t f =
    get_or h 0 0 ∷ get_or h 1 0 ∷ get_or h 2 0 ∷ get_or h 3 0 ∷ get_or h 4 0 ∷ get_or h 5 0 ∷ get_or h 6 0 ∷ get_or h 7 0
    ∷ get_or iv512 0 0 ∷ get_or iv512 1 0 ∷ get_or iv512 2 0 ∷ get_or iv512 3 0
    ∷ bit_xor (get_or iv512 4 0) (t % 2 ^ 64) ∷ bit_xor (get_or iv512 5 0) (t / 2 ^ 64)
    ∷ cond f (bit_xor (get_or iv512 6 0) (2 ^ 64 - 1)) (get_or iv512 6 0) ∷ get_or iv512 7 0 ∷ []

-- 3.2: "h[i] := h[i] ^ v[i] ^ v[i + 8]"
unfoldable pub joined : List ℕ → List ℕ → List ℕ
joined h v = xors (xors h (take 8 v)) (drop 8 v)

-- 3.2: F( h, m, t, f ), where m is the words of a block
unfoldable pub compression_f : List ℕ → List ℕ → ℕ → Bool → List ℕ
compression_f h block t f = joined h (rounds 12 (block_words 16 block) (working h t f))

-- 3.3: dd - 1 for a message of n bytes: how many blocks come before the last, which may be full; no bytes are one block
abbrev pub blocks_before : ℕ → ℕ
blocks_before n = (n - 1) / 128

-- 3.3: "padded with zero bytes" to a block
abbrev pub padded : List ℕ → List ℕ
padded m = over m (replicate 128 0)

-- 3.3: "h[0] := h[0] ^ 0x01010000 ^ (kk << 8) ^ nn", kk being 0
unfoldable pub initial : ℕ → List ℕ
initial nn = bit_xor (bit_xor (get_or iv512 0 0) 0x01010000) nn ∷ drop 1 iv512

-- 3.3: h after n blocks of m that are not the last, t bytes having come before
unfoldable pub chain : ℕ → List ℕ → ℕ → List ℕ → List ℕ
chain zero h t m = h
chain (suc n) h t m = chain n (compression_f h (take 128 m) (t + 128) false) (t + 128) (drop 128 m)

-- 3.3: d[dd - 1] before it is padded
abbrev pub last_block : List ℕ → List ℕ
last_block m = drop (128 * blocks_before (length m)) m

-- 3.3: the bytes of h[0..7] after the last block
unfoldable pub full : ℕ → List ℕ → List ℕ
full nn m =
    serialize (compression_f (chain (blocks_before (length m)) (initial nn) 0 m) (padded (last_block m)) (length m) true)

-- 3.3: "RETURN first nn bytes from little-endian word array h[]"
unfoldable pub blake2b : ℕ → List ℕ → List ℕ
blake2b nn m = take nn (full nn m)
