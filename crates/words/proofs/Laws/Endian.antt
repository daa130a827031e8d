-- Numbers and their bytes, for any count of bytes. Each law stands for both orders.
--
-- In order:
--   le_4, be_4                a number of four bytes, written out
--   le-add, be-add            a number of m + n bytes is one of m and one of n
--   le_8, be_8                eight bytes are twice four
--   le_past, be_past          nothing is read behind the end
--   le-take, be-take          only the bytes read count
--   le-append, be-append      a reading in the first of two lists
--   le-drop, be-drop          a reading further on
--   le-lt, be-lt              n bytes make a number below 256^n
--   length-le_bytes, length-be_bytes
--   le-le_bytes, le_bytes-le  from a number to its bytes and back, from bytes to their number and back
-- Not here: exclusive or (XorBytes).
-- Assumes nothing.
use Rattle.std.proofs.Common.{◌≡◌, ℕ, zero, suc, ◌+◌, ◌*◌, ◌/◌, ◌%◌, ◌^◌, ◌<◌, ◌≤◌, List, ◌∷◌, ◌++◌, length, get_or, take, drop, sym, refl, ap, ◌∙◌, add-zero, add_assoc, mul_assoc, mul_comm, pow-suc, zero-add, add-one, arith, get_or-drop, drop-cons, get_or-take}
use native.Mathlib.Nat.{one-le-pow, mod-one}
use lib.Arith.{digits_lt, digits_div, digits_mod, mod-mul}
use lib.ListN.{get_or-eq_default, get_or-append}
use Rattle.words.specs.Endian.{Bytes, le, be, le_bytes, be_bytes}

pub le_4 : (s : List ℕ) (at : ℕ) → le 4 s at
    ≡ get_or s at 0 + 256 * (get_or s (at + 1) 0 + 256 * (get_or s (at + 2) 0 + 256 * get_or s (at + 3) 0))
unfolding le
le_4 s at = simp add_assoc (omega arith)

pub be_4 : (s : List ℕ) (at : ℕ) → be 4 s at
    ≡ ((get_or s at 0 * 256 + get_or s (at + 1) 0) * 256 + get_or s (at + 2) 0) * 256 + get_or s (at + 3) 0
unfolding be
be_4 s at = rw (add-zero at) (omega arith)

pub le-add : (m n : ℕ) (s : List ℕ) (at : ℕ) → le (m + n) s at ≡ le m s at + 256 ^ m * le n s (at + m)
unfolding le
le-add zero n s at = rw (zero-add, add-zero) (omega arith)
le-add (suc m) n s at =
    let e : at + suc m ≡ at + 1 + m = omega arith in
    let d : suc m + n ≡ suc (m + n) = omega arith in
    let k : 256 ^ m * 256 * le n s (at + 1 + m) ≡ 256 * (256 ^ m * le n s (at + 1 + m)) =
    rw (mul_comm (256 ^ m) 256, mul_assoc) in
    rw (e, d, pow-suc, le-add m n s (at + 1), k) (omega arith)

pub be-add : (m n : ℕ) (s : List ℕ) (at : ℕ) → be (m + n) s at ≡ be m s at * 256 ^ n + be n s (at + m)
unfolding be
be-add m zero s at = rw (add-zero m) (omega arith)
be-add m (suc n) s at =
    let d : m + suc n ≡ suc (m + n) = omega arith in
    let e : at + (m + n) ≡ at + m + n = omega arith in
    let k : be m s at * (256 ^ n * 256) ≡ be m s at * 256 ^ n * 256 = sym (mul_assoc (be m s at) (256 ^ n) 256) in
    rw (d, e, pow-suc, be-add m n s at, k) (omega arith)

pub le_8 : (s : List ℕ) (at : ℕ) → le 8 s at ≡ le 4 s at + le 4 s (at + 4) * 2 ^ 32
le_8 s at = le-add 4 4 s at ∙ omega arith

pub be_8 : (s : List ℕ) (at : ℕ) → be 8 s at ≡ be 4 s at * 2 ^ 32 + be 4 s (at + 4)
be_8 s at = be-add 4 4 s at

pub le_past : (n : ℕ) (s : List ℕ) (at : ℕ) → length s ≤ at → le n s at ≡ 0
unfolding le
le_past zero s at h = refl
le_past (suc n) s at h =
    let k : length s ≤ at + 1 = omega arith in
    rw (get_or-eq_default s 0 h, le_past n s (at + 1) k)

pub be_past : (n : ℕ) (s : List ℕ) (at : ℕ) → length s ≤ at → be n s at ≡ 0
unfolding be
be_past zero s at h = refl
be_past (suc n) s at h =
    let k : length s ≤ at + n = omega arith in
    rw (be_past n s at h, get_or-eq_default s 0 k)

pub le-take : (m n : ℕ) (s : List ℕ) (at : ℕ) → at + n ≤ m → le n (take m s) at ≡ le n s at
unfolding le
le-take m zero s at h = refl
le-take m (suc n) s at h =
    let k : at < m = omega arith in
    let j : at + 1 + n ≤ m = omega arith in
    rw (get_or-take m s at 0 k, le-take m n s (at + 1) j)

pub be-take : (m n : ℕ) (s : List ℕ) (at : ℕ) → at + n ≤ m → be n (take m s) at ≡ be n s at
unfolding be
be-take m zero s at h = refl
be-take m (suc n) s at h =
    let k : at + n < m = omega arith in
    let j : at + n ≤ m = omega arith in
    rw (be-take m n s at j, get_or-take m s (at + n) 0 k)

pub le-append : (n : ℕ) (s t : List ℕ) (at : ℕ) → at + n ≤ length s → le n (s ++ t) at ≡ le n s at
unfolding le
le-append zero s t at h = refl
le-append (suc n) s t at h =
    let k : at < length s = omega arith in
    let j : at + 1 + n ≤ length s = omega arith in
    rw (get_or-append s t 0 at k, le-append n s t (at + 1) j)

pub be-append : (n : ℕ) (s t : List ℕ) (at : ℕ) → at + n ≤ length s → be n (s ++ t) at ≡ be n s at
unfolding be
be-append zero s t at h = refl
be-append (suc n) s t at h =
    let k : at + n < length s = omega arith in
    let j : at + n ≤ length s = omega arith in
    rw (be-append n s t at j, get_or-append s t 0 (at + n) k)

pub le-drop : (m n : ℕ) (s : List ℕ) (at : ℕ) → le n (drop m s) at ≡ le n s (m + at)
unfolding le
le-drop m zero s at = refl
le-drop m (suc n) s at = rw (get_or-drop m s at 0, le-drop m n s (at + 1), add_assoc m at 1)

pub be-drop : (m n : ℕ) (s : List ℕ) (at : ℕ) → be n (drop m s) at ≡ be n s (m + at)
unfolding be
be-drop m zero s at = refl
be-drop m (suc n) s at = rw (be-drop m n s at, get_or-drop m s (at + n) 0, add_assoc m at n)

-- a byte below a number
le-digit : (a b : ℕ) → a + 256 * b ≡ b * 256 + a
le-digit a b = omega arith

pub le-lt : (n : ℕ) (s : List ℕ) (at : ℕ) → Bytes s → le n s at < 256 ^ n
unfolding le
le-lt zero s at p = omega arith
le-lt (suc n) s at p = rw (le-digit, pow-suc) (digits_lt (le-lt n s (at + 1) p) (p at))

pub be-lt : (n : ℕ) (s : List ℕ) (at : ℕ) → Bytes s → be n s at < 256 ^ n
unfolding be
be-lt zero s at p = omega arith
be-lt (suc n) s at p = rw pow-suc (digits_lt (be-lt n s at p) (p (at + n)))

pub length-le_bytes : (n x : ℕ) → length (le_bytes n x) ≡ n
unfolding le_bytes
length-le_bytes zero x = refl
length-le_bytes (suc n) x = ap suc (length-le_bytes n (x / 256))

pub length-be_bytes : (n x : ℕ) → length (be_bytes n x) ≡ n
unfolding be_bytes
length-be_bytes zero x = refl
length-be_bytes (suc n) x = ap suc (length-be_bytes n x)

pub le-le_bytes : (n x : ℕ) → le n (le_bytes n x) 0 ≡ x % 256 ^ n
unfolding le le_bytes
le-le_bytes zero x = sym (mod-one x)
le-le_bytes (suc n) x =
    let p : 0 < 256 ^ n = one-le-pow n 256 (omega arith) in
    rw (← le-drop 1 n (x % 256 ∷ le_bytes n (x / 256)) 0, le-le_bytes n (x / 256), le-digit, pow-suc)
    (sym (mod-mul x p (omega arith)))

pub le_bytes-le : (n : ℕ) (s : List ℕ) (at : ℕ) → Bytes s → at + n ≤ length s → le_bytes n (le n s at)
    ≡ take n (drop at s)
unfolding le le_bytes
le_bytes-le zero s at p h = refl
le_bytes-le (suc n) s at p h =
    let k : at < length s = omega arith in
    let j : at + 1 + n ≤ length s = omega arith in
    rw (
      le-digit,
      digits_mod (le n s (at + 1)) (p at),
      digits_div (le n s (at + 1)) (p at),
      le_bytes-le n s (at + 1) p j,
      drop-cons s at 0 k,
      add-one at,
    )
