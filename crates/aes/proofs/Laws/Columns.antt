-- A block and the words of its four columns.
--
-- In order: columns_is (by the bytes of the words), columns-word (by four bytes each), columns-xor, columns-key (a
-- round key added).
-- Not here: words and their bytes (fips197, Laws.Words).
-- Assumes nothing.
use mathlib.Core.Path.{◌≡◌, ◌∙◌}
use mathlib.Core.List.{List, [], ◌∷◌}
use Prim.Native.Nat.{ℕ, ◌+◌, ◌*◌, ◌≤◌}
use native.Mathlib.Nat.{add-zero}
use lib.Bits.{bit_xor}
use lib.ListN.{length, get_or, take}
use Rattle.words.specs.Endian.{Bytes}
use Rattle.words.specs.Xor.{xors}
use Rattle.fips197.specs.Fips197.{word, byte_of, add_round_key}
use Rattle.fips197.specs.HasBytes.{HasBytes}
use Rattle.fips197.proofs.Laws.Words.{bytes_own, bytes_word, bytes_xor}
use Rattle.fips197.proofs.Laws.States.{state-take}
use Rattle.aes.specs.Columns.{state_of}

pub columns_is : {a b c d x₀ x₁ x₂ x₃ y₀ y₁ y₂ y₃ z₀ z₁ z₂ z₃ u₀ u₁ u₂ u₃ : ℕ}
    → HasBytes a x₀ x₁ x₂ x₃ → HasBytes b y₀ y₁ y₂ y₃ → HasBytes c z₀ z₁ z₂ z₃ → HasBytes d u₀ u₁ u₂ u₃
    → state_of a b c d ≡ x₀ ∷ x₁ ∷ x₂ ∷ x₃ ∷ y₀ ∷ y₁ ∷ y₂ ∷ y₃ ∷ z₀ ∷ z₁ ∷ z₂ ∷ z₃ ∷ u₀ ∷ u₁ ∷ u₂ ∷ u₃ ∷ []
columns_is p q r s = cc

-- the words of the first sixteen bytes of a list
pub columns-word : (s : List ℕ) → 16 ≤ length s → Bytes s → (a b c d : ℕ)
    → a ≡ word (get_or s 0 0) (get_or s 1 0) (get_or s 2 0) (get_or s 3 0)
    → b ≡ word (get_or s 4 0) (get_or s 5 0) (get_or s 6 0) (get_or s 7 0)
    → c ≡ word (get_or s 8 0) (get_or s 9 0) (get_or s 10 0) (get_or s 11 0)
    → d ≡ word (get_or s 12 0) (get_or s 13 0) (get_or s 14 0) (get_or s 15 0)
    → state_of a b c d ≡ take 16 s
columns-word s h l a b c d ea eb ec ed =
    rw (ea, eb, ec, ed)
    (columns_is (bytes_word (l 0) (l 1) (l 2) (l 3)) (bytes_word (l 4) (l 5) (l 6) (l 7)) (bytes_word (l 8) (l 9) (l 10) (l 11))
    (bytes_word (l 12) (l 13) (l 14) (l 15))
    ∙ state-take s h)

-- the bytes of two words, added
xor_own : (u v : ℕ)
    → HasBytes (bit_xor u v) (bit_xor (byte_of u 0) (byte_of v 0)) (bit_xor (byte_of u 1) (byte_of v 1)) (bit_xor (byte_of u 2) (byte_of v 2))
    (bit_xor (byte_of u 3) (byte_of v 3))
xor_own u v = bytes_xor (bytes_own u) (bytes_own v)

pub columns-xor : (a b c d e f g h : ℕ)
    → state_of (bit_xor a e) (bit_xor b f) (bit_xor c g) (bit_xor d h) ≡ xors (state_of a b c d) (state_of e f g h)
unfolding xors
columns-xor a b c d e f g h = columns_is (xor_own a e) (xor_own b f) (xor_own c g) (xor_own d h)

pub columns-key : (a b c d : ℕ) (w : List ℕ) (i : ℕ)
    → state_of (bit_xor a (get_or w (4 * i) 0)) (bit_xor b (get_or w (4 * i + 1) 0)) (bit_xor c (get_or w (4 * i + 2) 0))
    (bit_xor d (get_or w (4 * i + 3) 0))
    ≡ add_round_key (state_of a b c d) w i
columns-key a b c d w i =
    simp add-zero
    (columns_is (xor_own a (get_or w (4 * i) 0)) (xor_own b (get_or w (4 * i + 1) 0)) (xor_own c (get_or w (4 * i + 2) 0))
    (xor_own d (get_or w (4 * i + 3) 0)))
