-- Exclusive or byte by byte and word by word: the bytes of an exclusive or are the exclusive ors of the bytes.
--
-- In order: le_bytes-xor, be_bytes-xor (a word's bytes), le-xors (a list's numbers).
-- Not here: exclusive or of numbers (Xor) and of lists (Xors).
-- Assumes nothing.
use Rattle.std.proofs.Common.{◌≡◌, ℕ, zero, suc, ◌+◌, ◌*◌, ◌/◌, ◌^◌, ◌<◌, ◌≤◌, List, ◌∷◌, length, get_or, sym, refl, ap, ◌∙◌, ap₂, pow-suc, arith, pow-add}
use lib.Bits.{bit_xor, xor_shr, xor_mod, xor_block}
use Rattle.words.specs.Endian.{Bytes, le, le_bytes, be_bytes}
use Rattle.words.specs.Xor.{xors}
use Rattle.words.proofs.Laws.Xors.{get_or-xors}

pub le_bytes-xor : (n x y : ℕ) → le_bytes n (bit_xor x y) ≡ xors (le_bytes n x) (le_bytes n y)
unfolding le_bytes xors
le_bytes-xor zero x y = refl
le_bytes-xor (suc n) x y =
    ap₂ ◌∷◌ (xor_mod x y 8) (ap (le_bytes n) (xor_shr x y 8) ∙ le_bytes-xor n (x / 256) (y / 256))

-- powers of 256 as powers of two
pow_256 : (n : ℕ) → 256 ^ n ≡ 2 ^ (8 * n)
pow_256 zero = refl
pow_256 (suc n) =
    let e : 8 * suc n ≡ 8 * n + 8 = omega arith in
    rw (e, pow-add 2 (8 * n) 8, pow-suc, pow_256 n)

pub be_bytes-xor : (n x y : ℕ) → be_bytes n (bit_xor x y) ≡ xors (be_bytes n x) (be_bytes n y)
unfolding be_bytes xors
be_bytes-xor zero x y = refl
be_bytes-xor (suc n) x y =
    ap₂ ◌∷◌
    (rw (pow_256 n, xor_shr x y (8 * n)) (xor_mod (x / 2 ^ (8 * n)) (y / 2 ^ (8 * n)) 8))
    (be_bytes-xor n x y)

-- a number with one more byte below it
le-cons : (a b : ℕ) → a + 256 * b ≡ b * 2 ^ 8 + a
le-cons a b = omega arith

pub le-xors : (n : ℕ) (s t : List ℕ) (at : ℕ) → Bytes s → Bytes t → at + n ≤ length s → at + n ≤ length t
    → le n (xors s t) at ≡ bit_xor (le n s at) (le n t at)
unfolding le
le-xors zero s t at p q h k = refl
le-xors (suc n) s t at p q h k =
    let a : at < length s = omega arith in
    let b : at < length t = omega arith in
    let c : at + 1 + n ≤ length s = omega arith in
    let d : at + 1 + n ≤ length t = omega arith in
    rw (get_or-xors s t at a b, le-xors n s t (at + 1) p q c d)
    (le-cons (bit_xor (get_or s at 0) (get_or t at 0)) (bit_xor (le n s (at + 1)) (le n t (at + 1)))
    ∙ sym (xor_block 8 (le n s (at + 1)) (le n t (at + 1)) (get_or s at 0) (get_or t at 0) (p at) (q at))
    ∙ ap₂ bit_xor (sym (le-cons (get_or s at 0) (le n s (at + 1)))) (sym (le-cons (get_or t at 0) (le n t (at + 1)))))
