-- RFC 8439 (June 2018), ChaCha20 and Poly1305 for IETF Protocols: ChaCha20.
--
--   2.1    the quarter round     Four, half, quarter_round
--   2.2    on a state's words    qround
--   2.3    the block function    initial_state, block; of the crate stream: sum, serialize
--   2.3.1  in pseudocode         inner_block, inner_blocks
--   2.4    encryption            encrypt
-- A byte is a number below 256, a word one below 2^32, a state a list of 16 words. `blocks` is the block function as
-- the crate stream takes one: byte p of the stream of a key and a nonce is byte p % 64 of the block of counter p / 64.
-- Left out: Poly1305 and the AEAD construction (2.5 to 2.8).
-- Differs: a counter is any number, and its low 32 bits count, so that the stream goes on behind 2^38 bytes.
-- Assumes nothing.
use Rattle.std.specs.Prelude.{List, [], ◌∷◌, ◌++◌, ℕ, zero, suc, ◌+◌, ◌/◌, ◌%◌, ◌^◌, length, get_or, set, take, drop}
use Rattle.std.specs.Int.Bits.{bit_xor}
use Rattle.words.specs.Word.{plus, rotl}
use Rattle.words.specs.Endian.{le}
use Rattle.words.specs.Xor.{xors}
use Rattle.stream.specs.Words.{sum, serialize}

-- 2.1: the words a, b, c, d
pub record Four : Type 0 where
  pub a : ℕ
  pub b : ℕ
  pub c : ℕ
  pub d : ℕ

-- 2.1: a += b; d ^= a; d <<<= m; c += d; b ^= c; b <<<= n
unfoldable pub half : ℕ → ℕ → Four → Four
half m n s =
    let a : ℕ = plus 32 s.a s.b in
    let d : ℕ = rotl 32 m (bit_xor s.d a) in
    let c : ℕ = plus 32 s.c d in
    let b : ℕ = rotl 32 n (bit_xor s.b c) in
    record { a = a; b = b; c = c; d = d }

-- 2.1: the lines 1 and 2, with 16 and 12, then the lines 3 and 4, with 8 and 7
unfoldable pub quarter_round : Four → Four
quarter_round s = half 8 7 (half 16 12 s)

-- 2.2: QUARTERROUND(x, y, z, w)
unfoldable pub qround : List ℕ → ℕ → ℕ → ℕ → ℕ → List ℕ
qround s x y z w =
    let q : Four = quarter_round (record { a = get_or s x 0; b = get_or s y 0; c = get_or s z 0; d = get_or s w 0 }) in
    set (set (set (set s x q.a) y q.b) z q.c) w q.d

-- 2.3.1: inner_block: a column round and a diagonal round
unfoldable pub inner_block : List ℕ → List ℕ
inner_block s₀ =
    let s₁ : List ℕ = qround s₀ 0 4 8 12 in
    let s₂ : List ℕ = qround s₁ 1 5 9 13 in
    let s₃ : List ℕ = qround s₂ 2 6 10 14 in
    let s₄ : List ℕ = qround s₃ 3 7 11 15 in
    let s₅ : List ℕ = qround s₄ 0 5 10 15 in
    let s₆ : List ℕ = qround s₅ 1 6 11 12 in
    let s₇ : List ℕ = qround s₆ 2 7 8 13 in
    qround s₇ 3 4 9 14

-- 2.3.1: for i = 1 upto n
unfoldable pub inner_blocks : ℕ → List ℕ → List ℕ
inner_blocks zero s = s
inner_blocks (suc n) s = inner_block (inner_blocks n s)

-- 2.3: four constants, the key's eight words, the counter, the nonce's three words
unfoldable pub initial_state : List ℕ → ℕ → List ℕ → List ℕ
initial_state key counter nonce =
    0x61707865 ∷ 0x3320646e ∷ 0x79622d32 ∷ 0x6b206574
    ∷ le 4 key 0 ∷ le 4 key 4 ∷ le 4 key 8 ∷ le 4 key 12
    ∷ le 4 key 16 ∷ le 4 key 20 ∷ le 4 key 24 ∷ le 4 key 28
    ∷ counter % 2 ^ 32 ∷ le 4 nonce 0 ∷ le 4 nonce 4 ∷ le 4 nonce 8 ∷ []

-- 2.3.1: chacha20_block
unfoldable pub block : List ℕ → ℕ → List ℕ → List ℕ
block key counter nonce =
    serialize (sum (inner_blocks 10 (initial_state key counter nonce)) (initial_state key counter nonce))

-- the blocks of a key and a nonce, by their counter
abbrev pub blocks : List ℕ → List ℕ → ℕ → List ℕ
blocks key nonce counter = block key counter nonce

-- 2.4: n whole blocks, and then what is left
unfoldable pub encrypt_blocks : ℕ → List ℕ → ℕ → List ℕ → List ℕ → List ℕ
encrypt_blocks zero key counter nonce s = xors s (block key counter nonce)
encrypt_blocks (suc n) key counter nonce s =
    xors (take 64 s) (block key counter nonce) ++ encrypt_blocks n key (counter + 1) nonce (drop 64 s)

-- 2.4.1: chacha20_encrypt
unfoldable pub encrypt : List ℕ → ℕ → List ℕ → List ℕ → List ℕ
encrypt key counter nonce s = encrypt_blocks (length s / 64) key counter nonce s
