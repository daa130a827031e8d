-- Exclusive or of numbers is a sum in which every number is its own opposite.
--
-- In order: xor_low (the lowest bit), xor_assoc, xor_mid, xor_undo.
-- Not here: xor_comm, xor_self, xor_zero_r, xor-lt, xor_shr, xor-mod (the kit's lib.Bits); lists (Xors).
-- Assumes nothing.
use Rattle.std.proofs.Common.{◌≡◌, ℕ, zero, suc, ◌+◌, ◌*◌, ◌/◌, ◌%◌, ◌<◌, sym, refl, ap, ◌∙◌, ap₂, arith}
use lib.Arith.{bin_ind, digits_mod}
use lib.Bits.{bit_xor, differ, xor_step, xor_shr, xor_comm, xor_self, xor_zero_r}

differ_assoc : (p q r : ℕ) → p < 2 → q < 2 → r < 2 → differ (differ p q) r ≡ differ p (differ q r)
differ_assoc zero q r hp hq hr = refl
differ_assoc (suc zero) zero r hp hq hr = refl
differ_assoc (suc zero) (suc zero) zero hp hq hr = refl
differ_assoc (suc zero) (suc zero) (suc zero) hp hq hr = refl
differ_assoc (suc zero) (suc zero) (suc (suc r)) hp hq hr = absurd (let z : ⊥ = omega arith in z)
differ_assoc (suc zero) (suc (suc q)) r hp hq hr = absurd (let z : ⊥ = omega arith in z)
differ_assoc (suc (suc p)) q r hp hq hr = absurd (let z : ⊥ = omega arith in z)

bit-lt : (n : ℕ) → n % 2 < 2
bit-lt n = omega arith

differ_lt : (p q : ℕ) → p < 2 → q < 2 → differ p q < 2
differ_lt zero q hp hq = hq
differ_lt (suc zero) zero hp hq = hp
differ_lt (suc zero) (suc zero) hp hq = omega arith
differ_lt (suc zero) (suc (suc q)) hp hq = absurd (let z : ⊥ = omega arith in z)
differ_lt (suc (suc p)) q hp hq = absurd (let z : ⊥ = omega arith in z)

pub xor_low : (a b : ℕ) → bit_xor a b % 2 ≡ differ (a % 2) (b % 2)
xor_low a b =
    ap (λ (x : ℕ). x % 2) (xor_step a b) ∙ digits_mod (bit_xor (a / 2) (b / 2))
    (differ_lt (a % 2) (b % 2) (bit-lt a) (bit-lt b))

pub xor_assoc : (a b c : ℕ) → bit_xor (bit_xor a b) c ≡ bit_xor a (bit_xor b c)
xor_assoc a =
    bin_ind (λ (n : ℕ). (b c : ℕ) → bit_xor (bit_xor n b) c ≡ bit_xor n (bit_xor b c)) (λ b c. refl)
    (λ n ih b c.
    xor_step (bit_xor n b) c
    ∙ ap₂ (λ (x y : ℕ). x * 2 + y)
    (ap (λ (x : ℕ). bit_xor x (c / 2)) (xor_shr n b 1) ∙ ih (b / 2) (c / 2) ∙ ap (bit_xor (n / 2)) (sym (xor_shr b c 1)))
    (ap (λ (x : ℕ). differ x (c % 2)) (xor_low n b)
    ∙ differ_assoc (n % 2) (b % 2) (c % 2) (bit-lt n) (bit-lt b) (bit-lt c)
    ∙ ap (differ (n % 2)) (sym (xor_low b c)))
    ∙ sym (xor_step n (bit_xor b c))) a

-- the two in the middle change places
pub xor_mid : (a b c d : ℕ) → bit_xor (bit_xor a b) (bit_xor c d) ≡ bit_xor (bit_xor a c) (bit_xor b d)
xor_mid a b c d =
    xor_assoc a b (bit_xor c d)
    ∙ ap (bit_xor a) (sym (xor_assoc b c d) ∙ ap (λ (x : ℕ). bit_xor x d) (xor_comm b c) ∙ xor_assoc c b d)
    ∙ sym (xor_assoc a c (bit_xor b d))

pub xor_undo : (a b : ℕ) → bit_xor (bit_xor a b) b ≡ a
xor_undo a b = xor_assoc a b b ∙ ap (bit_xor a) (xor_self b) ∙ xor_zero_r a
