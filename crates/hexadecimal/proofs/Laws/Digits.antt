-- One digit and its value.
--
-- In order:
--   between_true                         what the test of a run of characters tells
--   value-lt                             a value is below 16
--   value-digit, is_upper_digit-digit      the digit of a value
--   is_digit_upper, digit_value           a digit in upper case, and its value
--   value-upper_case, is_digit-upper_case   both cases of a digit have one value, and both are digits
-- Assumes nothing.
use mathlib.Core.Path.{◌≡◌, ap, ◌∙◌}
use mathlib.Core.Bool.{true, false, or-true}
use Prim.Native.Nat.{ℕ, ◌+◌, ◌-◌, ◌≤◌, ◌<◌}
use native.Mathlib.Omega.{arith}
use lib.Dec.{leb}
use lib.Ieee.Bits.{is_true}
use borrow.Author.Tests.{leb-true, le-leb, lt-ltb, le-ltb}
use Rattle.words.proofs.Laws.Cases.{by_bool, and_true}
use Rattle.words.proofs.Laws.Tests.{below_at, same_below}
use Rattle.hexadecimal.specs.Rfc4648.{digit, between, is_decimal, is_upper_letter, is_lower_letter, is_upper_digit, is_digit, value, upper_case}

pub between_true : (first last c : ℕ) → between first last c ≡ true → (first ≤ c) × (c ≤ last)
between_true first last c t =
    let b = and_true (leb first c) (leb c last) t in
    (leb-true first c b.0, leb-true c last b.1)

true_between : (first last c : ℕ) → first ≤ c → c ≤ last → between first last c ≡ true
true_between first last c h k = rw (le-leb first c h, le-leb c last k)

pub value-lt : (c : ℕ) → value c < 16
unfolding value
value-lt c =
    by_bool (is_decimal c)
    (λ t. let b = between_true 0x30 0x39 c t in rw t (omega arith))
    (λ f. by_bool (is_upper_letter c)
    (λ t. let b = between_true 0x41 0x46 c t in rw (f, t) (omega arith))
    (λ g. by_bool (is_lower_letter c)
    (λ t. let b = between_true 0x61 0x66 c t in rw (f, g, t) (omega arith))
    (λ t. rw (f, g, t) (omega arith))))

pub value-digit : (n : ℕ) → n < 16 → value (digit n) ≡ n
unfolding value digit
value-digit n h = same_below (λ k. value (digit k)) (λ k. k) 16 tt n h

pub is_upper_digit-digit : (n : ℕ) → n < 16 → is_upper_digit (digit n) ≡ true
unfolding is_upper_digit digit
is_upper_digit-digit n h = is_true (is_upper_digit (digit n)) (below_at (λ k. is_upper_digit (digit k)) 16 tt n h)

pub is_digit_upper : (c : ℕ) → is_upper_digit c ≡ true → is_digit c ≡ true
unfolding is_upper_digit is_digit
is_digit_upper c w = rw w

pub digit_value : (c : ℕ) → is_upper_digit c ≡ true → digit (value c) ≡ c
unfolding is_upper_digit value digit
digit_value c w =
    by_bool (is_decimal c)
    (λ t. let b = between_true 0x30 0x39 c t in rw t (rw (lt-ltb (c - 0x30) 10 (omega arith)) (omega arith)))
    (λ f. let u : is_upper_letter c ≡ true = rw f at w in
    let b = between_true 0x41 0x46 c u in
    rw (f, u) (rw (le-ltb (c - 0x41 + 10) 10 (omega arith)) (omega arith)))

-- a digit's letter in upper case is a digit of the same value
upper_case_lower : (c : ℕ) → is_lower_letter c ≡ true → upper_case c ≡ c - 0x20
unfolding upper_case
upper_case_lower c t = rw t

upper_case_other : (c : ℕ) → is_lower_letter c ≡ false → upper_case c ≡ c
unfolding upper_case
upper_case_other c f = rw f

pub value-upper_case : (c : ℕ) → value (upper_case c) ≡ value c
unfolding value upper_case
value-upper_case c =
    by_bool (is_lower_letter c)
    (λ t. let b = between_true 0x61 0x66 c t in
    same_below (λ k. value (upper_case k)) value 0x67 tt c (omega arith))
    (λ f. ap value (upper_case_other c f))

pub is_digit-upper_case : (c : ℕ) → is_digit (upper_case c) ≡ is_digit c
unfolding is_digit
is_digit-upper_case c =
    by_bool (is_lower_letter c)
    (λ t. let b = between_true 0x61 0x66 c t in
    let u = true_between 0x41 0x46 (c - 0x20) (omega arith) (omega arith) in
    ap is_digit (upper_case_lower c t) ∙ rw (u, t) (simp or-true))
    (λ f. ap is_digit (upper_case_other c f))
