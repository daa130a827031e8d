-- FIPS 180-4 (August 2015), Secure Hash Standard: SHA-256 and SHA-512, over the width of a word.
--
--   2.2.2, 3.2          operations on words     words' Word: plus, rotr, shr
--   3.1                 words and bytes         words' Endian: be, be_bytes
--   4.1.2, 4.1.3        functions               ch, maj, big_sigma, small_sigma
--   4.2.2, 4.2.3        constants               Constants: k256, k512
--   5.1.1, 5.1.2        padding                 zero_bytes, padding, pad
--   5.2.1, 5.2.2        parsing                 block_bytes, parse
--   5.3.3, 5.3.5        initial hash values     Constants: iv256, iv512
--   6.2.2, 6.4.2        computation             schedule, round, rounds, compress, hash_blocks, digest, hash
-- Left out: SHA-1, SHA-224, SHA-384, SHA-512/t.
-- Differs: a message is whole bytes; `hash` is defined for every length, where the standard stops at 2^64 (2^128) bits
-- (docs/DECISIONS.md, D4).
-- Assumes nothing.
use Rattle.std.specs.Prelude.{List, [], ◌∷◌, ◌++◌, ℕ, zero, suc, ◌+◌, ◌-◌, ◌*◌, ◌/◌, ◌%◌, ◌^◌, length, get_or, replicate}
use Rattle.std.specs.Int.Bits.{bit_and, bit_xor}
use Rattle.words.specs.Word.{plus, rotr, shr}
use Rattle.words.specs.Endian.{be, be_bytes}
use Rattle.slices.specs.Cut.{cut}
pub mod Constants
use Rattle.fips180.specs.Fips180.Constants.{k256, k512, iv256, iv512}

-- 4.1.2, 4.1.3: Ch and Maj, equations 4.2, 4.3, 4.8 and 4.9, on words of n bits
abbrev pub ch : ℕ → ℕ → ℕ → ℕ → ℕ
ch n x y z = bit_xor (bit_and x y) (bit_and (bit_xor x (2 ^ n - 1)) z)

abbrev pub maj : ℕ → ℕ → ℕ → ℕ
maj x y z = bit_xor (bit_xor (bit_and x y) (bit_and x z)) (bit_and y z)

-- 4.1.2, 4.1.3: the shape of equations 4.4, 4.5, 4.10, 4.11 (two sums of three rotations) ..
abbrev pub big_sigma : ℕ → ℕ → ℕ → ℕ → ℕ → ℕ
big_sigma n i j k x = bit_xor (bit_xor (rotr n i x) (rotr n j x)) (rotr n k x)

-- .. and of 4.6, 4.7, 4.12, 4.13 (two rotations and a shift)
abbrev pub small_sigma : ℕ → ℕ → ℕ → ℕ → ℕ → ℕ
small_sigma n i j k x = bit_xor (bit_xor (rotr n i x) (rotr n j x)) (shr k x)

-- what the two algorithms differ in: the width of a word in bits and in bytes, the four functions, the constants, the
-- initial hash value
pub record Sha2 : Type 0 where
  pub bits : ℕ
  pub bytes : ℕ
  pub big_sigma0 : ℕ → ℕ
  pub big_sigma1 : ℕ → ℕ
  pub small_sigma0 : ℕ → ℕ
  pub small_sigma1 : ℕ → ℕ
  pub constants : List ℕ
  pub iv : List ℕ

-- 5.2: a block is sixteen words
abbrev pub block_bytes : Sha2 → ℕ
block_bytes p = 16 * p.bytes

-- 5.1: the k of "the smallest, non-negative solution to the equation l + 1 + k ≡ 448 mod 512" (896 mod 1024), in bytes:
-- behind n bytes of message stand the byte 80, these zero bytes and the length in two words (Laws.Padding,
-- zero_bytes_fit, zero_bytes_least)
unfoldable pub zero_bytes : Sha2 → ℕ → ℕ
zero_bytes p n = (2 * block_bytes p - (2 * p.bytes + 1) - n % block_bytes p) % block_bytes p

-- 5.1: what is put behind a message of n bytes
unfoldable pub padding : Sha2 → ℕ → List ℕ
padding p n = 0x80 ∷ (replicate (zero_bytes p n) 0 ++ be_bytes (2 * p.bytes) (8 * n))

unfoldable pub pad : Sha2 → List ℕ → List ℕ
pad p m = m ++ padding p (length m)

-- 5.2: all whole blocks
unfoldable pub parse : Sha2 → List ℕ → List (List ℕ)
parse p m = cut (block_bytes p) (length m / block_bytes p) m

-- 6.2.2 and 6.4.2, step 1: the message schedule: the block's first t words, then a word more at a time
unfoldable pub block_words : Sha2 → ℕ → List ℕ → List ℕ
block_words p zero block = []
block_words p (suc t) block = block_words p t block ++ (be p.bytes block (t * p.bytes) ∷ [])

unfoldable pub next_word : Sha2 → ℕ → ℕ → ℕ → ℕ → ℕ
next_word p w2 w7 w15 w16 =
    plus p.bits (plus p.bits (plus p.bits (p.small_sigma1 w2) w7) (p.small_sigma0 w15)) w16

unfoldable pub word_after : Sha2 → List ℕ → ℕ
word_after p ws =
    next_word p (get_or ws (length ws - 2) 0) (get_or ws (length ws - 7) 0) (get_or ws (length ws - 15) 0)
    (get_or ws (length ws - 16) 0)

unfoldable pub grow : Sha2 → ℕ → List ℕ → List ℕ
grow p zero ws = ws
grow p (suc m) ws = grow p m ws ++ (word_after p (grow p m ws) ∷ [])

unfoldable pub schedule : Sha2 → List ℕ → List ℕ
schedule p block = grow p (length p.constants - 16) (block_words p 16 block)

-- step 3: a round on the working variables a to h
unfoldable pub t1 : Sha2 → ℕ → ℕ → ℕ → ℕ → ℕ → ℕ → ℕ
t1 p e f g h k w =
    plus p.bits (plus p.bits (plus p.bits (plus p.bits h (p.big_sigma1 e)) (ch p.bits e f g)) k) w

unfoldable pub t2 : Sha2 → ℕ → ℕ → ℕ → ℕ
t2 p a b c = plus p.bits (p.big_sigma0 a) (maj a b c)

unfoldable pub round_on : Sha2 → ℕ → ℕ → ℕ → ℕ → ℕ → ℕ → ℕ → ℕ → ℕ → ℕ → List ℕ
round_on p a b c d e f g h k w =
    plus p.bits (t1 p e f g h k w) (t2 p a b c) ∷ a ∷ b ∷ c ∷ plus p.bits d (t1 p e f g h k w) ∷ e ∷ f ∷ g ∷ []

unfoldable pub round : Sha2 → List ℕ → ℕ → ℕ → List ℕ
round p s k w =
    round_on p (get_or s 0 0) (get_or s 1 0) (get_or s 2 0) (get_or s 3 0) (get_or s 4 0) (get_or s 5 0) (get_or s 6 0) (get_or s 7 0) k
    w

unfoldable pub rounds : Sha2 → List ℕ → List ℕ → ℕ → List ℕ → List ℕ
rounds p ks ws zero s = s
rounds p ks ws (suc t) s = round p (rounds p ks ws t s) (get_or ks t 0) (get_or ws t 0)

-- step 4: the intermediate hash value
unfoldable pub sums : ℕ → List ℕ → List ℕ → List ℕ
sums n (x ∷ xs) (y ∷ ys) = plus n x y ∷ sums n xs ys
sums n [] ys = []
sums n (x ∷ xs) [] = []

unfoldable pub compress : Sha2 → List ℕ → List ℕ → List ℕ
compress p s block = sums p.bits s (rounds p p.constants (schedule p block) (length p.constants) s)

-- 6.2.2 and 6.4.2: "each message block is processed in order"
unfoldable pub hash_blocks : Sha2 → List ℕ → List (List ℕ) → List ℕ
hash_blocks p s [] = s
hash_blocks p s (b ∷ bs) = hash_blocks p (compress p s b) bs

-- the message digest: the words of the final hash value joined
unfoldable pub digest : Sha2 → List ℕ → List ℕ
digest p [] = []
digest p (w ∷ ws) = be_bytes p.bytes w ++ digest p ws

unfoldable pub hash : Sha2 → List ℕ → List ℕ
hash p m = digest p (hash_blocks p p.iv (parse p (pad p m)))

-- 4.1.2, 4.2.2, 5.3.3
abbrev pub sha256 : Sha2
sha256 = record {
  bits = 32;
  bytes = 4;
  big_sigma0 = big_sigma 32 2 13 22;
  big_sigma1 = big_sigma 32 6 11 25;
  small_sigma0 = small_sigma 32 7 18 3;
  small_sigma1 = small_sigma 32 17 19 10;
  constants = k256;
  iv = iv256;
}

-- 4.1.3, 4.2.3, 5.3.5
abbrev pub sha512 : Sha2
sha512 = record {
  bits = 64;
  bytes = 8;
  big_sigma0 = big_sigma 64 28 34 39;
  big_sigma1 = big_sigma 64 14 18 41;
  small_sigma0 = small_sigma 64 1 8 7;
  small_sigma1 = small_sigma 64 19 61 6;
  constants = k512;
  iv = iv512;
}
