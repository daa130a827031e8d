-- Sums of four in the field.
--
-- In order: sum4_ap (equal parts), sum4-xor (two sums added), sum4-lt.
-- Not here: exclusive or itself (words, Laws.Xor); multiplication (Field).
-- Assumes nothing.
use mathlib.Core.Path.{◌≡◌, ◌∙◌, ap, ap₂}
use Prim.Native.Nat.{ℕ, ◌<◌}
use lib.Bits.{bit_xor, xor_lt}
use Rattle.words.proofs.Laws.Xor.{xor_mid}
use Rattle.gf256.specs.Gf256.{sum4}

pub sum4_ap : {a b c d e f g h : ℕ} → a ≡ e → b ≡ f → c ≡ g → d ≡ h → sum4 a b c d ≡ sum4 e f g h
sum4_ap p q r s = ap₂ bit_xor (ap₂ bit_xor (ap₂ bit_xor p q) r) s

pub sum4-xor : (a b c d e f g h : ℕ)
    → bit_xor (sum4 a b c d) (sum4 e f g h) ≡ sum4 (bit_xor a e) (bit_xor b f) (bit_xor c g) (bit_xor d h)
sum4-xor a b c d e f g h =
    xor_mid (bit_xor (bit_xor a b) c) d (bit_xor (bit_xor e f) g) h
    ∙ ap (λ (x : ℕ). bit_xor x (bit_xor d h))
    (xor_mid (bit_xor a b) c (bit_xor e f) g ∙ ap (λ (x : ℕ). bit_xor x (bit_xor c g)) (xor_mid a b e f))

pub sum4-lt : {a b c d : ℕ} → a < 256 → b < 256 → c < 256 → d < 256 → sum4 a b c d < 256
sum4-lt {a} {b} {c} {d} p q r s =
    xor_lt 8 (bit_xor (bit_xor a b) c) d (xor_lt 8 (bit_xor a b) c (xor_lt 8 a b p q) r) s
