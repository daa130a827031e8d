-- Words and their four bytes.
--
-- In order:
--   byte_of-lt                  a byte of a word is one
--   bytes_own, bytes_word       a word's own bytes; the word of four bytes
--   word_bytes                  the word of a word's bytes
--   bytes_is                    equal bytes
--   bytes_xor                   the bytes of an exclusive or are the exclusive ors of the bytes
-- Not here: exclusive or of words of any length (words, Laws.XorBytes).
-- Assumes nothing.
use mathlib.Core.Path.{◌≡◌, refl, ◌∙◌, ap, ap₂}
use Prim.Native.Nat.{ℕ, zero, suc, ◌/◌, ◌%◌, ◌^◌, ◌<◌}
use native.Mathlib.Omega.{arith}
use lib.Bits.{bit_xor, xor_shr, xor_mod}
use lib.Pow.{shr-shr}
use Rattle.fips197.specs.Fips197.{word, byte_of}
use Rattle.fips197.specs.HasBytes.{HasBytes}

pub byte_of-lt : (w r : ℕ) → byte_of w r < 256
byte_of-lt w zero = omega arith
byte_of-lt w (suc zero) = omega arith
byte_of-lt w (suc (suc zero)) = omega arith
byte_of-lt w (suc (suc (suc r))) = omega arith

pub bytes_own : (w : ℕ) → HasBytes w (byte_of w 0) (byte_of w 1) (byte_of w 2) (byte_of w 3)
bytes_own w = record { at0 = refl; at1 = refl; at2 = refl; at3 = refl }

pub bytes_word : {a b c d : ℕ} → a < 256 → b < 256 → c < 256 → d < 256 → HasBytes (word a b c d) a b c d
bytes_word p q r s = record { at0 = omega arith; at1 = omega arith; at2 = omega arith; at3 = omega arith }

-- that a quotient's quotient is a quotient is what omega has to be told
pub word_bytes : (w : ℕ) → w < 2 ^ 32 → word (byte_of w 0) (byte_of w 1) (byte_of w 2) (byte_of w 3) ≡ w
word_bytes w h =
    let top : byte_of w 0 ≡ w / 0x1000000 = omega arith in
    omega (arith, shr-shr w 8 8, shr-shr w 16 8)

pub bytes_is : {w a₀ a₁ a₂ a₃ b₀ b₁ b₂ b₃ : ℕ} → HasBytes w a₀ a₁ a₂ a₃ → a₀ ≡ b₀ → a₁ ≡ b₁ → a₂ ≡ b₂ → a₃ ≡ b₃
    → HasBytes w b₀ b₁ b₂ b₃
bytes_is p e₀ e₁ e₂ e₃ = record { at0 = p.at0 ∙ e₀; at1 = p.at1 ∙ e₁; at2 = p.at2 ∙ e₂; at3 = p.at3 ∙ e₃ }

-- one byte, k bits up
byte_xor : (u v k : ℕ) → bit_xor u v / 2 ^ k % 256 ≡ bit_xor (u / 2 ^ k % 256) (v / 2 ^ k % 256)
byte_xor u v k = ap (λ (x : ℕ). x % 256) (xor_shr u v k) ∙ xor_mod (u / 2 ^ k) (v / 2 ^ k) 8

pub bytes_xor : {u v a₀ a₁ a₂ a₃ b₀ b₁ b₂ b₃ : ℕ} → HasBytes u a₀ a₁ a₂ a₃ → HasBytes v b₀ b₁ b₂ b₃
    → HasBytes (bit_xor u v) (bit_xor a₀ b₀) (bit_xor a₁ b₁) (bit_xor a₂ b₂) (bit_xor a₃ b₃)
bytes_xor {u} {v} p q =
    record {
      at0 = byte_xor u v 24 ∙ ap₂ bit_xor p.at0 q.at0;
      at1 = byte_xor u v 16 ∙ ap₂ bit_xor p.at1 q.at1;
      at2 = byte_xor u v 8 ∙ ap₂ bit_xor p.at2 q.at2;
      at3 = xor_mod u v 8 ∙ ap₂ bit_xor p.at3 q.at3;
    }
