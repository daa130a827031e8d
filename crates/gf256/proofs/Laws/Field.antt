-- Multiplication in GF(2^8) is linear in its second factor, and gives bytes. Two linear functions that agree at the
-- powers of two agree at every byte: eight values are tested, not 256.
--
-- In order:
--   gmul-xor, gmul-lt                  products
--   Linear, linear_self, linear_by, linear_gmul, linear_xor
--   linear_same                        by their values at powers of two
--   gmul_2, gmul_3, gmul_9, gmul_11, gmul_13, gmul_14    products by doublings
-- Not here: sums of four (Sums).
-- Assumes nothing.
use mathlib.Core.Path.{◌≡◌, refl, sym, ◌∙◌, ap, ap₂}
use Prim.Native.Nat.{ℕ, zero, suc, ◌*◌, ◌/◌, ◌%◌, ◌^◌, ◌<◌}
use native.Mathlib.Nat.{mod-lt, zero-mul, one-mul, div-add-mod', pow-succ', div-lt_iff_lt-mul}
use native.Mathlib.Omega.{arith}
use lib.Bits.{bit_xor, differ, xor_shr, xor_self, xor_zero_r, xor_lt, xor_shifted}
use lib.Dec.{T, eqb}
use lib.Pow.{pow_pos}
use Rattle.words.proofs.Laws.Tests.{below, same_below}
use Rattle.words.proofs.Laws.Xor.{xor_low, xor_mid}
use Rattle.gf256.specs.Gf256.{reduced, x_times, gmul_bits, gmul}

bit-lt : (n : ℕ) → n % 2 < 2
bit-lt n = omega arith

-- the exclusive or of two bits, times a number
differ_times : (p q a : ℕ) → p < 2 → q < 2 → differ p q * a ≡ bit_xor (p * a) (q * a)
differ_times zero q a hp hq = rw (zero-mul a)
differ_times (suc zero) zero a hp hq = rw (zero-mul a) (sym (xor_zero_r (1 * a)))
differ_times (suc zero) (suc zero) a hp hq = rw (zero-mul a) (sym (xor_self (1 * a)))
differ_times (suc zero) (suc (suc q)) a hp hq = absurd (omega arith)
differ_times (suc (suc p)) q a hp hq = absurd (omega arith)

gmul_bits-xor : (n a b c : ℕ) → gmul_bits n a (bit_xor b c) ≡ bit_xor (gmul_bits n a b) (gmul_bits n a c)
unfolding gmul_bits
gmul_bits-xor zero a b c = refl
gmul_bits-xor (suc n) a b c =
    ap₂ bit_xor (ap (λ (x : ℕ). x * a) (xor_low b c) ∙ differ_times (b % 2) (c % 2) a (bit-lt b) (bit-lt c))
    (ap (gmul_bits n (x_times a)) (xor_shr b c 1) ∙ gmul_bits-xor n (x_times a) (b / 2) (c / 2))
    ∙ xor_mid (b % 2 * a) (c % 2 * a) (gmul_bits n (x_times a) (b / 2)) (gmul_bits n (x_times a) (c / 2))

pub gmul-xor : (k a b : ℕ) → gmul k (bit_xor a b) ≡ bit_xor (gmul k a) (gmul k b)
unfolding gmul
gmul-xor k a b = gmul_bits-xor 8 k a b

-- a bit times a byte is a byte
bit_times_lt : (p a : ℕ) → p < 2 → a < 256 → p * a < 256
bit_times_lt zero a hp h = rw (zero-mul a) (omega arith)
bit_times_lt (suc zero) a hp h = rw (one-mul a) h
bit_times_lt (suc (suc p)) a hp h = absurd (omega arith)

x_times-lt : (a : ℕ) → a < 256 → x_times a < 256
unfolding x_times
x_times-lt a h = xor_lt 8 (a * 2 % 256) (a / 128 * reduced) (omega arith) (omega arith)

gmul_bits-lt : (n a b : ℕ) → a < 256 → gmul_bits n a b < 256
unfolding gmul_bits
gmul_bits-lt zero a b h = omega arith
gmul_bits-lt (suc n) a b h =
    xor_lt 8 (b % 2 * a) (gmul_bits n (x_times a) (b / 2)) (bit_times_lt (b % 2) a (bit-lt b) h)
    (gmul_bits-lt n (x_times a) (b / 2) (x_times-lt a h))

pub gmul-lt : (a b : ℕ) → a < 256 → gmul a b < 256
unfolding gmul
gmul-lt a b h = gmul_bits-lt 8 a b h

-- functions that keep sums
pub record Linear (f : ℕ → ℕ) : Type 0 where
  pub sum : (a b : ℕ) → f (bit_xor a b) ≡ bit_xor (f a) (f b)

pub linear_self : Linear (λ s. s)
linear_self = record { sum = λ a b. refl }

pub linear_by : (k : ℕ) → Linear (gmul k)
linear_by k = record { sum = gmul-xor k }

pub linear_gmul : (k : ℕ) (f : ℕ → ℕ) → Linear f → Linear (λ s. gmul k (f s))
linear_gmul k f l = record { sum = λ a b. ap (gmul k) (l.sum a b) ∙ gmul-xor k (f a) (f b) }

pub linear_xor : (f g : ℕ → ℕ) → Linear f → Linear g → Linear (λ s. bit_xor (f s) (g s))
linear_xor f g p q =
    record { sum = λ a b. ap₂ bit_xor (p.sum a b) (q.sum a b) ∙ xor_mid (f a) (f b) (g a) (g b) }

linear_at_zero : (f : ℕ → ℕ) → Linear f → f 0 ≡ 0
linear_at_zero f l = l.sum 0 0 ∙ xor_self (f 0)

module _ (f g : ℕ → ℕ) (p : Linear f) (q : Linear g) where
  digit_same : (a m : ℕ) → a < 2 → f m ≡ g m → f (a * m) ≡ g (a * m)
  digit_same zero m h e = rw (zero-mul m) (linear_at_zero f p ∙ sym (linear_at_zero g q))
  digit_same (suc zero) m h e = rw (one-mul m) e
  digit_same (suc (suc a)) m h e = absurd (omega arith)

  powers_same : (n : ℕ) → ((k : ℕ) → k < n → f (2 ^ k) ≡ g (2 ^ k)) → (s : ℕ) → s < 2 ^ n → f s ≡ g s
  powers_same zero t zero h = linear_at_zero f p ∙ sym (linear_at_zero g q)
  powers_same zero t (suc s) h = absurd (omega arith)
  powers_same (suc n) t s h =
      let small : s % 2 ^ n < 2 ^ n = mod-lt s (pow_pos n) in
      let e : bit_xor (s / 2 ^ n * 2 ^ n) (s % 2 ^ n) ≡ s =
      xor_shifted (s / 2 ^ n) n (s % 2 ^ n) small ∙ div-add-mod' s (2 ^ n) in
      let half : s / 2 ^ n < 2 = (div-lt_iff_lt-mul (pow_pos n)).1 (rw (pow-succ' 2 n) at h) in
      let high = digit_same (s / 2 ^ n) (2 ^ n) half (t n (omega arith)) in
      let low = powers_same n (λ k l. t k (omega arith)) (s % 2 ^ n) small in
      ap f (sym e) ∙ p.sum (s / 2 ^ n * 2 ^ n) (s % 2 ^ n) ∙ ap₂ bit_xor high low
      ∙ sym (q.sum (s / 2 ^ n * 2 ^ n) (s % 2 ^ n)) ∙ ap g e

  -- one computed test of eight values
  pub linear_same : T (below (λ k. eqb (f (2 ^ k)) (g (2 ^ k))) 8) → (s : ℕ) → s < 256 → f s ≡ g s
  linear_same t s h = powers_same 8 (same_below (λ k. f (2 ^ k)) (λ k. g (2 ^ k)) 8 t) s h

-- 4.2: the product by {02}
pub gmul_2 : (b : ℕ) → b < 256 → gmul 2 b ≡ x_times b
unfolding gmul gmul_bits x_times
gmul_2 b h = same_below (gmul 2) x_times 256 tt b h

abbrev by4 : ℕ → ℕ
by4 b = gmul 2 (gmul 2 b)

abbrev by8 : ℕ → ℕ
by8 b = gmul 2 (gmul 2 (gmul 2 b))

linear_8 : Linear by8
linear_8 = linear_gmul 2 by4 (linear_gmul 2 (gmul 2) (linear_by 2))

linear_12 : Linear (λ s. bit_xor (by8 s) (by4 s))
linear_12 = linear_xor by8 by4 linear_8 (linear_gmul 2 (gmul 2) (linear_by 2))

pub gmul_3 : (b : ℕ) → b < 256 → bit_xor (gmul 2 b) b ≡ gmul 3 b
unfolding gmul gmul_bits x_times
gmul_3 = linear_same (λ s. bit_xor (gmul 2 s) s) (gmul 3) (linear_xor (gmul 2) (λ s. s) (linear_by 2) linear_self) (linear_by 3) tt

pub gmul_9 : (b : ℕ) → b < 256 → bit_xor (by8 b) b ≡ gmul 9 b
unfolding gmul gmul_bits x_times
gmul_9 = linear_same (λ s. bit_xor (by8 s) s) (gmul 9) (linear_xor by8 (λ s. s) linear_8 linear_self) (linear_by 9) tt

pub gmul_11 : (b : ℕ) → b < 256 → bit_xor (bit_xor (by8 b) b) (gmul 2 b) ≡ gmul 11 b
unfolding gmul gmul_bits x_times
gmul_11 =
    linear_same (λ s. bit_xor (bit_xor (by8 s) s) (gmul 2 s)) (gmul 11)
    (linear_xor (λ s. bit_xor (by8 s) s) (gmul 2) (linear_xor by8 (λ s. s) linear_8 linear_self) (linear_by 2)) (linear_by 11) tt

pub gmul_13 : (b : ℕ) → b < 256 → bit_xor (bit_xor (by8 b) (by4 b)) b ≡ gmul 13 b
unfolding gmul gmul_bits x_times
gmul_13 =
    linear_same (λ s. bit_xor (bit_xor (by8 s) (by4 s)) s) (gmul 13)
    (linear_xor (λ s. bit_xor (by8 s) (by4 s)) (λ s. s) linear_12 linear_self) (linear_by 13) tt

pub gmul_14 : (b : ℕ) → b < 256 → bit_xor (bit_xor (by8 b) (by4 b)) (gmul 2 b) ≡ gmul 14 b
unfolding gmul gmul_bits x_times
gmul_14 =
    linear_same (λ s. bit_xor (bit_xor (by8 s) (by4 s)) (gmul 2 s)) (gmul 14)
    (linear_xor (λ s. bit_xor (by8 s) (by4 s)) (gmul 2) linear_12 (linear_by 2)) (linear_by 14) tt
