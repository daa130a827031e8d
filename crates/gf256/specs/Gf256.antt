-- FIPS 197 (November 26, 2001; updated May 9, 2023), Advanced Encryption Standard: the field GF(2^8) and the S-box.
--
--   4.1    addition                  lib.Bits.bit_xor; sum4, of four
--   4.2    multiplication            reduced, x_times, gmul
--   4.4    multiplicative inverses   ginv
--   5.1.1  the S-box                 bit, affine_bit, from_bits, sbox
--   5.3.2  the inverse S-box         place_below, inv_sbox
-- A byte is a number below 256, bit i of it the coefficient of x^i.
-- Not here: words and states (crate fips197).
-- Left out: the matrix products of 4.3, which stand where they are used (5.1.3, 5.3.3).
-- Differs: the S-boxes are given by their rules, not by the tables; the laws Sbox have the table of 5.1.1.
-- Assumes nothing.
use Rattle.std.specs.Prelude.{cond, ℕ, zero, suc, ◌+◌, ◌*◌, ◌/◌, ◌%◌, ◌^◌, eqb}
use lib.Bits.{bit_xor}

-- 4.1: a sum of four
abbrev pub sum4 : ℕ → ℕ → ℕ → ℕ → ℕ
sum4 a b c d = bit_xor (bit_xor (bit_xor a b) c) d

-- 4.2: x^8 modulo the polynomial x^8 + x^4 + x^3 + x + 1
abbrev pub reduced : ℕ
reduced = 0x1b

-- 4.2: multiplication by x, that is {02}
unfoldable pub x_times : ℕ → ℕ
x_times b = bit_xor (b * 2 % 256) (b / 128 * reduced)

-- 4.2: the sum of a • x^i over the bits i of b, of which n are left
unfoldable pub gmul_bits : ℕ → ℕ → ℕ → ℕ
gmul_bits zero a b = 0
gmul_bits (suc n) a b = bit_xor (b % 2 * a) (gmul_bits n (x_times a) (b / 2))

-- 4.2: a • b
unfoldable pub gmul : ℕ → ℕ → ℕ
gmul a b = gmul_bits 8 a b

-- a, its square, the square of that …: the product of n of them
unfoldable pub gmul_squares : ℕ → ℕ → ℕ
gmul_squares zero a = 1
gmul_squares (suc n) a = gmul a (gmul_squares n (gmul a a))

-- 4.4: the multiplicative inverse, a^254 = a^2 • a^4 • … • a^128; {00} at {00}, as 5.1.1 wants it
unfoldable pub ginv : ℕ → ℕ
ginv a = gmul_squares 7 (gmul a a)

-- 5.1.1: bit i of b, its index modulo 8
unfoldable pub bit : ℕ → ℕ → ℕ
bit b i = b / 2 ^ (i % 8) % 2

-- 5.1.1: bit i of the affine map, with the constant {63}
unfoldable pub affine_bit : ℕ → ℕ → ℕ
affine_bit b i = (bit b i + bit b (i + 4) + bit b (i + 5) + bit b (i + 6) + bit b (i + 7) + bit 0x63 i) % 2

-- the number of n bits whose bit i is f i
unfoldable pub from_bits : ℕ → (ℕ → ℕ) → ℕ
from_bits zero f = 0
from_bits (suc n) f = f n * 2 ^ n + from_bits n f

-- 5.1.1: the S-box, the affine map of the inverse
unfoldable pub sbox : ℕ → ℕ
sbox b = from_bits 8 (affine_bit (ginv b))

-- the greatest place below n at which f is y, 0 where there is none
unfoldable pub place_below : (ℕ → ℕ) → ℕ → ℕ → ℕ
place_below f zero y = 0
place_below f (suc n) y = cond (eqb (f n) y) n (place_below f n y)

-- 5.3.2: the inverse S-box: the place at which the S-box is b
unfoldable pub inv_sbox : ℕ → ℕ
inv_sbox b = place_below sbox 256 b
