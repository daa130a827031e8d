-- MixColumns() and InvMixColumns() on a column of bytes: both are linear, so that each undoes the other where it does
-- so for the columns with one bit set.
--
-- In order:
--   Linear4, linear4_same     linear functions of four bytes, by their values at powers of two
--   mix_byte_linear, inv_mix_byte_linear
--   mix_byte-lt, inv_mix_byte-lt
--   row, inv_mix_byte-mix_byte, mix_byte-inv_mix_byte  each matrix undoes the other
-- Assumes nothing.
use mathlib.Core.Path.{◌≡◌, refl, sym, ◌∙◌}
use mathlib.Core.Bool.{Bool}
use Prim.Native.Nat.{ℕ, zero, suc, ◌^◌, ◌<◌}
use native.Mathlib.Omega.{arith}
use lib.Bits.{bit_xor, xor_zero_l, xor_zero_r}
use lib.Dec.{T, eqb, lit<}
use Rattle.words.proofs.Laws.Tests.{below}
use Rattle.gf256.specs.Gf256.{sum4, x_times, gmul_bits, gmul}
use Rattle.gf256.proofs.Laws.Sums.{sum4_ap, sum4-xor, sum4-lt}
use Rattle.gf256.proofs.Laws.Field.{gmul-lt, Linear, linear_self, linear_by, linear_same}
use Rattle.fips197.specs.Fips197.{mix_byte, inv_mix_byte}

-- functions of four bytes that keep sums
pub record Linear4 (f : ℕ → ℕ → ℕ → ℕ → ℕ) : Type 0 where
  pub sum : (a b c d e g h k : ℕ) → f (bit_xor a e) (bit_xor b g) (bit_xor c h) (bit_xor d k) ≡ bit_xor (f a b c d) (f e g h k)

-- the tests: f and g agree at the powers of two, on each axis
abbrev agree : (ℕ → ℕ) → (ℕ → ℕ) → Bool
agree f g = below (λ k. eqb (f (2 ^ k)) (g (2 ^ k))) 8

abbrev Agree4 : (ℕ → ℕ → ℕ → ℕ → ℕ) → (ℕ → ℕ → ℕ → ℕ → ℕ) → Type 0
Agree4 f g =
    T (agree (λ s. f s 0 0 0) (λ s. g s 0 0 0)) × (T (agree (λ s. f 0 s 0 0) (λ s. g 0 s 0 0))
    × (T (agree (λ s. f 0 0 s 0) (λ s. g 0 0 s 0)) × T (agree (λ s. f 0 0 0 s) (λ s. g 0 0 0 s))))

module _ (f : ℕ → ℕ → ℕ → ℕ → ℕ) (p : Linear4 f) where
  linear_0 : Linear (λ s. f s 0 0 0)
  linear_0 = record { sum = λ a b. p.sum a 0 0 0 b 0 0 0 }

  linear_1 : Linear (λ s. f 0 s 0 0)
  linear_1 = record { sum = λ a b. p.sum 0 a 0 0 0 b 0 0 }

  linear_2 : Linear (λ s. f 0 0 s 0)
  linear_2 = record { sum = λ a b. p.sum 0 0 a 0 0 0 b 0 }

  linear_3 : Linear (λ s. f 0 0 0 s)
  linear_3 = record { sum = λ a b. p.sum 0 0 0 a 0 0 0 b }

  -- the sum of its values on the axes
  linear4_axes : (a b c d : ℕ) → f a b c d ≡ sum4 (f a 0 0 0) (f 0 b 0 0) (f 0 0 c 0) (f 0 0 0 d)
  linear4_axes a b c d =
      let first : f a b 0 0 ≡ bit_xor (f a 0 0 0) (f 0 b 0 0) = cc (p.sum a 0 0 0 0 b 0 0, xor_zero_r a, xor_zero_l b) in
      let second : f a b c 0 ≡ bit_xor (f a b 0 0) (f 0 0 c 0) = cc (p.sum a b 0 0 0 0 c 0, xor_zero_r a, xor_zero_r b, xor_zero_l c) in
      let third : f a b c d ≡ bit_xor (f a b c 0) (f 0 0 0 d) =
      cc (p.sum a b c 0 0 0 0 d, xor_zero_r a, xor_zero_r b, xor_zero_r c, xor_zero_l d) in
      cc

module _ (f g : ℕ → ℕ → ℕ → ℕ → ℕ) (p : Linear4 f) (q : Linear4 g) where
  pub linear4_same : Agree4 f g → (a b c d : ℕ) → a < 256 → b < 256 → c < 256 → d < 256 → f a b c d ≡ g a b c d
  linear4_same t a b c d ha hb hc hd =
      linear4_axes f p a b c d
      ∙ sum4_ap
      (linear_same (λ s. f s 0 0 0) (λ s. g s 0 0 0) (linear_0 f p) (linear_0 g q) t.0 a ha)
      (linear_same (λ s. f 0 s 0 0) (λ s. g 0 s 0 0) (linear_1 f p) (linear_1 g q) t.1.0 b hb)
      (linear_same (λ s. f 0 0 s 0) (λ s. g 0 0 s 0) (linear_2 f p) (linear_2 g q) t.1.1.0 c hc)
      (linear_same (λ s. f 0 0 0 s) (λ s. g 0 0 0 s) (linear_3 f p) (linear_3 g q) t.1.1.1 d hd)
      ∙ sym (linear4_axes g q a b c d)

-- a sum of four linear functions, of a byte each
linear4_sum4 : (f g h k : ℕ → ℕ) → Linear f → Linear g → Linear h → Linear k → Linear4 (λ a b c d. sum4 (f a) (g b) (h c) (k d))
linear4_sum4 f g h k p q r t =
    record {
      sum = λ a b c d a' b' c' d'. sum4_ap (p.sum a a') (q.sum b b') (r.sum c c') (t.sum d d')
          ∙ sym (sum4-xor (f a) (g b) (h c) (k d) (f a') (g b') (h c') (k d'));
    }

pub mix_byte_linear : (r : ℕ) → Linear4 (mix_byte r)
mix_byte_linear zero = linear4_sum4 (gmul 2) (gmul 3) (λ s. s) (λ s. s) (linear_by 2) (linear_by 3) linear_self linear_self
mix_byte_linear (suc zero) = linear4_sum4 (λ s. s) (gmul 2) (gmul 3) (λ s. s) linear_self (linear_by 2) (linear_by 3) linear_self
mix_byte_linear (suc (suc zero)) = linear4_sum4 (λ s. s) (λ s. s) (gmul 2) (gmul 3) linear_self linear_self (linear_by 2) (linear_by 3)
mix_byte_linear (suc (suc (suc r))) = linear4_sum4 (gmul 3) (λ s. s) (λ s. s) (gmul 2) (linear_by 3) linear_self linear_self (linear_by 2)

-- four products, whatever the factors
products_linear : (j k m n : ℕ) → Linear4 (λ a b c d. sum4 (gmul j a) (gmul k b) (gmul m c) (gmul n d))
products_linear j k m n = linear4_sum4 (gmul j) (gmul k) (gmul m) (gmul n) (linear_by j) (linear_by k) (linear_by m) (linear_by n)

pub inv_mix_byte_linear : (r : ℕ) → Linear4 (inv_mix_byte r)
inv_mix_byte_linear zero = products_linear _ _ _ _
inv_mix_byte_linear (suc zero) = products_linear _ _ _ _
inv_mix_byte_linear (suc (suc zero)) = products_linear _ _ _ _
inv_mix_byte_linear (suc (suc (suc r))) = products_linear _ _ _ _

pub mix_byte-lt : (r a b c d : ℕ) → a < 256 → b < 256 → c < 256 → d < 256 → mix_byte r a b c d < 256
mix_byte-lt zero a b c d ha hb hc hd = sum4-lt (gmul-lt 2 a (omega arith)) (gmul-lt 3 b (omega arith)) hc hd
mix_byte-lt (suc zero) a b c d ha hb hc hd = sum4-lt ha (gmul-lt 2 b (omega arith)) (gmul-lt 3 c (omega arith)) hd
mix_byte-lt (suc (suc zero)) a b c d ha hb hc hd = sum4-lt ha hb (gmul-lt 2 c (omega arith)) (gmul-lt 3 d (omega arith))
mix_byte-lt (suc (suc (suc r))) a b c d ha hb hc hd = sum4-lt (gmul-lt 3 a (omega arith)) hb hc (gmul-lt 2 d (omega arith))

-- four products are bytes, whatever is multiplied
products_lt : (j k m n : ℕ) → j < 256 → k < 256 → m < 256 → n < 256 → (a b c d : ℕ)
    → sum4 (gmul j a) (gmul k b) (gmul m c) (gmul n d) < 256
products_lt j k m n p q r s a b c d = sum4-lt (gmul-lt j a p) (gmul-lt k b q) (gmul-lt m c r) (gmul-lt n d s)

pub inv_mix_byte-lt : (r a b c d : ℕ) → inv_mix_byte r a b c d < 256
inv_mix_byte-lt zero a b c d = products_lt _ _ _ _ (lit< tt) (lit< tt) (lit< tt) (lit< tt) a b c d
inv_mix_byte-lt (suc zero) a b c d = products_lt _ _ _ _ (lit< tt) (lit< tt) (lit< tt) (lit< tt) a b c d
inv_mix_byte-lt (suc (suc zero)) a b c d = products_lt _ _ _ _ (lit< tt) (lit< tt) (lit< tt) (lit< tt) a b c d
inv_mix_byte-lt (suc (suc (suc r))) a b c d = products_lt _ _ _ _ (lit< tt) (lit< tt) (lit< tt) (lit< tt) a b c d

-- row r of a column
abbrev pub row : ℕ → ℕ → ℕ → ℕ → ℕ → ℕ
row zero a b c d = a
row (suc zero) a b c d = b
row (suc (suc zero)) a b c d = c
row (suc (suc (suc r))) a b c d = d

row_linear : (r : ℕ) → Linear4 (row r)
row_linear zero = record { sum = λ a b c d e g h k. refl }
row_linear (suc zero) = record { sum = λ a b c d e g h k. refl }
row_linear (suc (suc zero)) = record { sum = λ a b c d e g h k. refl }
row_linear (suc (suc (suc r))) = record { sum = λ a b c d e g h k. refl }

-- a byte of u over the columns of m
abbrev pub after : (ℕ → ℕ → ℕ → ℕ → ℕ) → (ℕ → ℕ → ℕ → ℕ → ℕ → ℕ) → ℕ → ℕ → ℕ → ℕ → ℕ
after u m a b c d = u (m 0 a b c d) (m 1 a b c d) (m 2 a b c d) (m 3 a b c d)

after_linear : (u : ℕ → ℕ → ℕ → ℕ → ℕ) (m : ℕ → ℕ → ℕ → ℕ → ℕ → ℕ) → Linear4 u → ((r : ℕ) → Linear4 (m r)) → Linear4 (after u m)
after_linear u m p q =
    record {
      sum = λ a b c d e g h k. cc (
        (q 0).sum a b c d e g h k,
        (q 1).sum a b c d e g h k,
        (q 2).sum a b c d e g h k,
        (q 3).sum a b c d e g h k,
        p.sum (m 0 a b c d) (m 1 a b c d) (m 2 a b c d) (m 3 a b c d) (m 0 e g h k) (m 1 e g h k) (m 2 e g h k) (m 3 e g h k),
      );
    }

-- u undoes m in row r
abbrev pub Undoes : (ℕ → ℕ → ℕ → ℕ → ℕ → ℕ) → (ℕ → ℕ → ℕ → ℕ → ℕ → ℕ) → ℕ → Type 0
Undoes u m r = (a b c d : ℕ) → a < 256 → b < 256 → c < 256 → d < 256 → after (u r) m a b c d ≡ row r a b c d

module _ (u m : ℕ → ℕ → ℕ → ℕ → ℕ → ℕ) (p : (r : ℕ) → Linear4 (u r)) (q : (r : ℕ) → Linear4 (m r)) where
  undoes_row : (r : ℕ) → Agree4 (after (u r) m) (row r) → Undoes u m r
  undoes_row r t = linear4_same (after (u r) m) (row r) (after_linear (u r) m (p r) q) (row_linear r) t

-- 5.3.3: InvMixColumns() is the inverse of MixColumns()
pub inv_mix_byte-mix_byte : (r : ℕ) → r < 4 → Undoes inv_mix_byte mix_byte r
unfolding gmul gmul_bits x_times
inv_mix_byte-mix_byte zero h = undoes_row inv_mix_byte mix_byte inv_mix_byte_linear mix_byte_linear 0 (tt, (tt, (tt, tt)))
inv_mix_byte-mix_byte (suc zero) h = undoes_row inv_mix_byte mix_byte inv_mix_byte_linear mix_byte_linear 1 (tt, (tt, (tt, tt)))
inv_mix_byte-mix_byte (suc (suc zero)) h = undoes_row inv_mix_byte mix_byte inv_mix_byte_linear mix_byte_linear 2 (tt, (tt, (tt, tt)))
inv_mix_byte-mix_byte (suc (suc (suc zero))) h = undoes_row inv_mix_byte mix_byte inv_mix_byte_linear mix_byte_linear 3 (tt, (tt, (tt, tt)))
inv_mix_byte-mix_byte (suc (suc (suc (suc r)))) h = absurd (omega arith)

pub mix_byte-inv_mix_byte : (r : ℕ) → r < 4 → Undoes mix_byte inv_mix_byte r
unfolding gmul gmul_bits x_times
mix_byte-inv_mix_byte zero h = undoes_row mix_byte inv_mix_byte mix_byte_linear inv_mix_byte_linear 0 (tt, (tt, (tt, tt)))
mix_byte-inv_mix_byte (suc zero) h = undoes_row mix_byte inv_mix_byte mix_byte_linear inv_mix_byte_linear 1 (tt, (tt, (tt, tt)))
mix_byte-inv_mix_byte (suc (suc zero)) h = undoes_row mix_byte inv_mix_byte mix_byte_linear inv_mix_byte_linear 2 (tt, (tt, (tt, tt)))
mix_byte-inv_mix_byte (suc (suc (suc zero))) h = undoes_row mix_byte inv_mix_byte mix_byte_linear inv_mix_byte_linear 3 (tt, (tt, (tt, tt)))
mix_byte-inv_mix_byte (suc (suc (suc (suc r)))) h = absurd (omega arith)
