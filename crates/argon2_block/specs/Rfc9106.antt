-- RFC 9106 (September 2021), Argon2 Memory-Hard Function: the compression of two blocks.
--
--   3.6  permutation P             mul_add, Four, half, gb, gb_on, p
--   3.5  compression function G    rows, columns, permuted, compress
-- A word is a number below 2^64, a block a list of 128 words: RFC 9106's matrix of eight rows of eight 16-byte registers, row
-- by row, a register as its low word and then its high one. `p s at step` is P on the eight registers whose low words stand at
-- at, at + step, .. of the block: row i is at 16 i with step 2, column i at 2 i with step 16.
-- Left out: the filling (the crate argon2_fill), the variable-length hash (argon2_hash).
-- Assumes nothing.
use Rattle.std.specs.Prelude.{ℕ, zero, suc, ◌+◌, ◌*◌, ◌%◌, ◌^◌, List, bit_xor, slice_index, slice_set}
use Rattle.words.specs.Word.{rotr}
use Rattle.words.specs.Xor.{xors}

-- 3.6: a + b + 2 * trunc(a) * trunc(b), modulo 2^64
unfoldable pub mul_add : ℕ → ℕ → ℕ
mul_add a b = (a + b + 2 * ((a % 2 ^ 32) * (b % 2 ^ 32))) % 2 ^ 64

-- 3.6: the words a, b, c, d
pub record Four : Type 0 where
  pub a : ℕ
  pub b : ℕ
  pub c : ℕ
  pub d : ℕ

-- 3.6: four lines of GB, with the rotations m and n
unfoldable pub half : ℕ → ℕ → Four → Four
half m n s =
    let a : ℕ = mul_add s.a s.b in
    let d : ℕ = rotr 64 m (bit_xor s.d a) in
    let c : ℕ = mul_add s.c d in
    let b : ℕ = rotr 64 n (bit_xor s.b c) in
    record { a = a; b = b; c = c; d = d }

-- 3.6: GB(a, b, c, d)
unfoldable pub gb : Four → Four
gb s = half 16 63 (half 32 24 s)

-- 3.6: GB(v_i, v_j, v_k, v_l)
unfoldable pub gb_on : List ℕ → ℕ → ℕ → ℕ → ℕ → List ℕ
gb_on s i j k l =
    let q : Four = gb (record { a = slice_index s i; b = slice_index s j; c = slice_index s k; d = slice_index s l }) in
    slice_set (slice_set (slice_set (slice_set s i q.a) j q.b) k q.c) l q.d

-- 3.6: P on eight registers of a block: v_2n is the word at + n * step, v_2n+1 the one behind it
unfoldable pub p : List ℕ → ℕ → ℕ → List ℕ
p s₀ at step =
    let s₁ : List ℕ = gb_on s₀ at (at + 2 * step) (at + 4 * step) (at + 6 * step) in
    let s₂ : List ℕ = gb_on s₁ (at + 1) (at + 2 * step + 1) (at + 4 * step + 1) (at + 6 * step + 1) in
    let s₃ : List ℕ = gb_on s₂ (at + step) (at + 3 * step) (at + 5 * step) (at + 7 * step) in
    let s₄ : List ℕ = gb_on s₃ (at + step + 1) (at + 3 * step + 1) (at + 5 * step + 1) (at + 7 * step + 1) in
    let s₅ : List ℕ = gb_on s₄ at (at + 2 * step + 1) (at + 5 * step) (at + 7 * step + 1) in
    let s₆ : List ℕ = gb_on s₅ (at + 1) (at + 3 * step) (at + 5 * step + 1) (at + 6 * step) in
    let s₇ : List ℕ = gb_on s₆ (at + step) (at + 3 * step + 1) (at + 4 * step) (at + 6 * step + 1) in
    gb_on s₇ (at + step + 1) (at + 2 * step) (at + 4 * step + 1) (at + 7 * step)

-- 3.5: P on the first n rows
unfoldable pub rows : ℕ → List ℕ → List ℕ
rows zero s = s
rows (suc n) s = p (rows n s) (n * 16) 2

-- 3.5: P on the first n columns
unfoldable pub columns : ℕ → List ℕ → List ℕ
columns zero s = s
columns (suc n) s = p (columns n s) (n * 2) 16

-- 3.5: from R to Z: rows, then columns
unfoldable pub permuted : List ℕ → List ℕ
permuted s = columns 8 (rows 8 s)

-- 3.5: G(X, Y): R = X XOR Y, and Z XOR R
unfoldable pub compress : List ℕ → List ℕ → List ℕ
compress x y = xors (permuted (xors x y)) (xors x y)
