-- FIPS 197, 5.2: the key expansion, word by word.
--
-- In order:
--   temp_first, temp_half, temp_plain    what is added, by the place of the word
--   expanded_more, expanded_all          a loop that fills an array: one turn, and its end
-- Assumes nothing.
use mathlib.Core.Path.{◌≡◌, sym, ap, ◌∙◌}
use mathlib.Core.List.{List}
use Prim.Native.Nat.{ℕ, suc, ◌+◌, ◌-◌, ◌/◌, ◌%◌, ◌<◌, ◌≤◌}
use native.Mathlib.Numerals.{add-one}
use native.Mathlib.Omega.{arith}
use lib.Bits.{bit_xor}
use lib.ListN.{length, get_or, take, set}
use lib.Seq.{length-take-le, get_or-take, take-suc-set, take_all}
use borrow.Author.Tests.{eq-eqb, ne_eqb}
use Rattle.fips197.specs.Fips197.{rot_word, sub_word, rcon, temp, next_word, expanded, key_expansion}

pub temp_first : (i p : ℕ) → i % 8 ≡ 0 → temp i p ≡ bit_xor (sub_word (rot_word p)) (rcon (i / 8))
unfolding temp
temp_first i p e = rw (eq-eqb (i % 8) 0 e)

pub temp_half : (i p : ℕ) → (i % 8 ≡ 0 → ⊥) → i % 8 ≡ 4 → temp i p ≡ sub_word p
unfolding temp
temp_half i p n e = rw (ne_eqb (i % 8) 0 n, eq-eqb (i % 8) 4 e)

pub temp_plain : (i p : ℕ) → (i % 8 ≡ 0 → ⊥) → (i % 8 ≡ 4 → ⊥) → temp i p ≡ p
unfolding temp
temp_plain i p n m = rw (ne_eqb (i % 8) 0 n, ne_eqb (i % 8) 4 m)

-- the next word, from an array of which the first i words are there
next_word-take : (w : List ℕ) (i : ℕ) → 8 ≤ i → i ≤ length w → next_word (take i w) ≡ bit_xor (get_or w (i - 8) 0) (temp i (get_or w (i - 1) 0))
unfolding next_word
next_word-take w i h l =
    let a : i - 8 < i = omega arith in
    let b : i - 1 < i = omega arith in
    rw (length-take-le i w l, get_or-take i w (i - 8) 0 a, get_or-take i w (i - 1) 0 b)

pub expanded_more : (key w : List ℕ) (i v : ℕ) → 8 ≤ i → i < length w → take i w ≡ expanded key (i - 8)
    → v ≡ bit_xor (get_or w (i - 8) 0) (temp i (get_or w (i - 1) 0)) → take (i + 1) (set w i v) ≡ expanded key (i + 1 - 8)
unfolding expanded
expanded_more key w i v h l e p =
    let n : i + 1 - 8 ≡ suc (i - 8) = omega arith in
    let m : i ≤ length w = omega arith in
    let q : v ≡ next_word (expanded key (i - 8)) = p ∙ sym (next_word-take w i h m) ∙ ap next_word e in
    rw (n, add-one i, take-suc-set w i v l, e, q)

pub expanded_all : (key w : List ℕ) (i : ℕ) → i ≡ 60 → length w ≡ 60 → take i w ≡ expanded key (i - 8) → w ≡ key_expansion key
unfolding key_expansion
expanded_all key w i e l p =
    let h : length w ≤ i = omega arith in
    let n : i - 8 ≡ 52 = omega arith in
    sym (take_all i w h) ∙ p ∙ ap (expanded key) n
