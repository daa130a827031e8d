-- A number in decimal and the reading of it undo each other.
--
-- In order:
--   is_digit-digit, digit_some                            what is written is a digit, and it is "0" for 0 alone
--   is_digit-ge, is_digit-le                               where the digits lie
--   value_from-append                                     a digit more at the text's end
--   value-decimal_in, value-decimal, value_decimal_64     the text of a number is read as the number
--   decimal_in-digit, decimal_in_more                      the text of one digit; .. of a number with a digit more
--   decimal_in-value_from, value_first, decimal-value      the number of a text is written as the text
--   digit_is, decimal_in_is, decimal_is, decimal_is_64    the text of a number is in decimal
-- Not here: how the code writes the digits (Digits).
-- Assumes nothing.
use mathlib.Core.Path.{◌≡◌, refl, sym, ap, ◌∙◌}
use mathlib.Core.Bool.{true, not, ◌&&◌}
use mathlib.Core.List.{List, [], ◌∷◌, ◌++◌, append_assoc, append-nil}
use Prim.Native.Nat.{ℕ, zero, suc, ◌+◌, ◌-◌, ◌*◌, ◌/◌, ◌%◌, ◌^◌, ◌≤◌, ◌<◌}
use native.Mathlib.Nat.{zero-add, pow-suc}
use native.Mathlib.Omega.{arith}
use lib.Dec.{leb, ltb, eqb}
use lib.ListN.{length}
use borrow.Author.Tests.{lt-ltb, le-ltb, le-leb, ne_eqb, leb-true, ltb-true, ltb-false, eqb-false, not-true}
use Rattle.words.proofs.Laws.Cases.{by_bool, and_true}
use Rattle.decimal.specs.Decimal.{digit, decimal_in, decimal, is_digit, all_digits, is_decimal, value_from, value}

pub is_digit-digit : (n : ℕ) → is_digit (digit n) ≡ true
unfolding is_digit digit
is_digit-digit n = rw (le-leb 0x30 (0x30 + n % 10) (omega arith), le-leb (0x30 + n % 10) 0x39 (omega arith))

digit_some : (n : ℕ) → 0 < n → n < 10 → digit n ≡ 0x30 → ⊥
unfolding digit
digit_some n p h e = omega arith

pub is_digit-ge : (x : ℕ) → is_digit x ≡ true → 0x30 ≤ x
unfolding is_digit
is_digit-ge x e = leb-true 0x30 x (and_true (leb 0x30 x) (leb x 0x39) e).0

pub is_digit-le : (x : ℕ) → is_digit x ≡ true → x ≤ 0x39
unfolding is_digit
is_digit-le x e = leb-true x 0x39 (and_true (leb 0x30 x) (leb x 0x39) e).1

pub value_from-append : (n : ℕ) (w : List ℕ) (x : ℕ) → value_from n (w ++ (x ∷ [])) ≡ 10 * value_from n w + (x - 0x30)
unfolding value_from
value_from-append n [] x = refl
value_from-append n (y ∷ w) x = value_from-append (10 * n + (y - 0x30)) w x

pub value-decimal_in : (k n : ℕ) → n < 10 ^ k → value (decimal_in k n) ≡ n
unfolding value value_from decimal_in digit
value-decimal_in zero n h = omega arith
value-decimal_in (suc k) n h =
    by_bool (ltb n 10)
    (λ t. let l = ltb-true n 10 t in rw t (omega arith))
    (λ t.
    let p = pow-suc 10 k in
    let e = value-decimal_in k (n / 10) (omega arith) in
    rw (t, value_from-append 0 (decimal_in k (n / 10)) (digit n)) (omega arith))

pub value-decimal : (n : ℕ) → n < 10 ^ 20 → value (decimal n) ≡ n
unfolding decimal
value-decimal n h = value-decimal_in 20 n h

-- twenty digits hold every number of 64 bits
pub value_decimal_64 : (n : ℕ) → n < 2 ^ 64 → value (decimal n) ≡ n
value_decimal_64 n h = value-decimal n (omega arith)

decimal_in-digit : (k x : ℕ) → is_digit x ≡ true → decimal_in (suc k) (x - 0x30) ≡ x ∷ []
unfolding decimal_in digit
decimal_in-digit k x e =
    let a = is_digit-ge x e in
    let b = is_digit-le x e in
    let d : 0x30 + (x - 0x30) % 10 ≡ x = omega arith in
    rw (lt-ltb (x - 0x30) 10 (omega arith), d)

-- a number that is not zero, as the digits in front of x
decimal_in_more : (k n x : ℕ) → 0 < n → is_digit x ≡ true
    → decimal_in (suc k) (10 * n + (x - 0x30)) ≡ decimal_in k n ++ (x ∷ [])
unfolding decimal_in digit
decimal_in_more k n x h e =
    let a = is_digit-ge x e in
    let b = is_digit-le x e in
    let q : (10 * n + (x - 0x30)) / 10 ≡ n = omega arith in
    let d : 0x30 + (10 * n + (x - 0x30)) % 10 ≡ x = omega arith in
    rw (le-ltb (10 * n + (x - 0x30)) 10 (omega arith), q, d)

-- .. as those in front of the text w
pub decimal_in-value_from : (w : List ℕ) (k n : ℕ) → 0 < n → all_digits w ≡ true
    → decimal_in (k + length w) (value_from n w) ≡ decimal_in k n ++ w
unfolding value_from all_digits
decimal_in-value_from [] k n h e = let s : k + length {A = ℕ} [] ≡ k = omega arith in rw (s, append-nil)
decimal_in-value_from (x ∷ w) k n h e =
    let b = and_true (is_digit x) (all_digits w) e in
    let s : k + length (x ∷ w) ≡ suc k + length w = omega arith in
    rw (
      s,
      decimal_in-value_from w (suc k) (10 * n + (x - 0x30)) (omega arith) b.1,
      decimal_in_more k n x h b.0,
      append_assoc,
    )

value_first : (x : ℕ) (w : List ℕ) → value (x ∷ w) ≡ value_from (x - 0x30) w
unfolding value value_from
value_first x w = ap (λ (n : ℕ). value_from n w) (zero-add (x - 0x30))

pub decimal-value : (w : List ℕ) → is_decimal w ≡ true → length w ≤ 20 → decimal (value w) ≡ w
unfolding decimal value_from is_decimal
decimal-value [] e l = let z : ◌≡◌ {A = ℕ} 0 1 = cc in absurd (omega arith)
decimal-value (x ∷ []) e l = rw (value_first x []) (decimal_in-digit 19 x e)
decimal-value (x ∷ y ∷ w) e l =
    let b = and_true (is_digit x && not (eqb x 0x30)) (all_digits (y ∷ w)) e in
    let c = and_true (is_digit x) (not (eqb x 0x30)) b.0 in
    let g = is_digit-ge x c.0 in
    let z = eqb-false x 0x30 (not-true (eqb x 0x30) c.1) in
    let s : 20 ≡ suc (19 - length (y ∷ w)) + length (y ∷ w) = omega arith in
    rw (value_first x (y ∷ w), s)
    (decimal_in-value_from (y ∷ w) (suc (19 - length (y ∷ w))) (x - 0x30) (omega arith) b.1
    ∙ rw (decimal_in-digit (19 - length (y ∷ w)) x c.0))

-- a digit that is not zero, with digits behind it
digit_is : (n : ℕ) (w : List ℕ) → 0 < n → n < 10 → all_digits w ≡ true → is_decimal (digit n ∷ w) ≡ true
unfolding is_decimal
digit_is n [] p h e = is_digit-digit n
digit_is n (y ∷ w) p h e = rw (is_digit-digit n, ne_eqb (digit n) 0x30 (digit_some n p h), e)

-- .. and all digits of a number that is not zero
decimal_in_is : (k n : ℕ) (w : List ℕ) → 0 < n → n < 10 ^ k → all_digits w ≡ true
    → is_decimal (decimal_in k n ++ w) ≡ true
unfolding decimal_in all_digits
decimal_in_is zero n w p h e = absurd (omega arith)
decimal_in_is (suc k) n w p h e =
    by_bool (ltb n 10)
    (λ t. rw t (digit_is n w p (ltb-true n 10 t) e))
    (λ t.
    let l = ltb-false n 10 t in
    let q = pow-suc 10 k in
    rw (t, append_assoc)
    (decimal_in_is k (n / 10) (digit n ∷ w) (omega arith) (omega arith) (rw (is_digit-digit n) e)))

pub decimal_is : (n : ℕ) → n < 10 ^ 20 → is_decimal (decimal n) ≡ true
unfolding decimal decimal_in digit all_digits is_decimal is_digit
decimal_is zero h = refl
decimal_is (suc n) h =
    let a : decimal_in 20 (suc n) ++ [] ≡ decimal_in 20 (suc n) = rw append-nil in
    rw (sym a) (decimal_in_is 20 (suc n) [] (omega arith) h refl)

pub decimal_is_64 : (n : ℕ) → n < 2 ^ 64 → is_decimal (decimal n) ≡ true
decimal_is_64 n h = decimal_is n (omega arith)
