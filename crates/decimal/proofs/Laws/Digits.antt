-- A digit more in front of those that stand at the text's end.
--
-- In order:
--   length-decimal_in, length-decimal    no more digits than the count
--   decimal_last, decimal_more          the first digit of a number below ten; a digit more, and those before it
--   Stands, Ends                        the digits that stand in a text: some, all
--   stands_none, stands_last, stands_more, stands_all    as the code writes them
-- Assumes nothing.
use mathlib.Core.Path.{◌≡◌, ap, ◌∙◌}
use mathlib.Core.List.{List, [], ◌∷◌, ◌++◌, append_assoc, append-nil}
use Prim.Native.Nat.{ℕ, zero, suc, ◌+◌, ◌-◌, ◌/◌, ◌%◌, ◌≤◌, ◌<◌}
use native.Mathlib.Omega.{arith}
use lib.Dec.{ltb}
use lib.ListN.{length, drop, set, length-set, length-append, length-drop, drop_of_length-le}
use lib.Seq.{drop-cons, get_or-set_same, drop-set-lt}
use borrow.Author.Tests.{lt-ltb, le-ltb}
use Rattle.words.proofs.Laws.Cases.{by_bool}
use Rattle.decimal.specs.Decimal.{digit, decimal_in, decimal}

pub length-decimal_in : (k n : ℕ) → length (decimal_in k n) ≤ k
unfolding decimal_in
length-decimal_in zero n = omega arith
length-decimal_in (suc k) n =
    by_bool (ltb n 10)
    (λ t. rw t (omega arith))
    (λ t. rw (t, length-append (decimal_in k (n / 10)) (digit n ∷ [])) (omega (arith, length-decimal_in k (n / 10))))

pub length-decimal : (n : ℕ) → length (decimal n) ≤ 20
unfolding decimal
length-decimal n = length-decimal_in 20 n

drop-set : (l : List ℕ) (i a : ℕ) → i < length l → drop i (set l i a) ≡ a ∷ drop (suc i) l
drop-set l i a h =
    let e = length-set l i a in
    let k : i < length (set l i a) = omega arith in
    rw (drop-cons (set l i a) i 0 k, get_or-set_same l i a 0 h, drop-set-lt (suc i) l i a (omega arith))

-- .. stored in the text t, whose end holds the digits behind
decimal_last : (k n : ℕ) (t : List ℕ) → k < length t → n < 10
    → drop k (set t k (digit n)) ≡ decimal_in (suc k) n ++ drop (suc k) t
unfolding decimal_in
decimal_last k n t h l = drop-set t k (digit n) h ∙ rw (lt-ltb n 10 l)

decimal_more : (k n : ℕ) (t : List ℕ) → k < length t → 10 ≤ n
    → decimal_in k (n / 10) ++ drop k (set t k (digit n)) ≡ decimal_in (suc k) n ++ drop (suc k) t
unfolding decimal_in
decimal_more k n t h l =
    rw (le-ltb n 10 l, drop-set t k (digit n) h, append_assoc)

-- the digits of the rest, at most `at`, with those that stand in t from `at` on, are all of n's
pub record Stands (n : ℕ) (t : List ℕ) (at rest : ℕ) : Type 0 where
  pub long : length t ≡ 20
  pub at_le : at ≤ 20
  pub digits_are : decimal_in at rest ++ drop at t ≡ decimal n

-- the digits stand in t from `at` on
abbrev pub Ends : ℕ → List ℕ → ℕ → Type 0
Ends n t at = record { text_value : drop at t ≡ decimal n; n_value : at + length (decimal n) ≡ 20 }

ends : (n : ℕ) (t : List ℕ) (at : ℕ) → length t ≡ 20 → at ≤ 20 → drop at t ≡ decimal n → Ends n t at
ends n t at l h e =
    let f = ap (λ (w : List ℕ). length w) e in
    let g = length-drop at t in
    record { text_value = e; n_value = omega arith }

pub stands_none : (n : ℕ) (t : List ℕ) → length t ≡ 20 → Stands n t 20 n
unfolding decimal
stands_none n t l =
    let h : length t ≤ 20 = omega arith in
    record { long = l; at_le = omega arith; digits_are = rw (drop_of_length-le t h, append-nil) }

pub stands_last : (n : ℕ) (t : List ℕ) (at rest : ℕ) → Stands n t at rest → 0 < at → rest < 10
    → Ends n (set t (at - 1) (0x30 + rest % 10)) (at - 1)
unfolding digit
stands_last n t zero rest s h l = absurd (omega arith)
stands_last n t (suc k) rest s h l =
    let e : suc k - 1 ≡ k = omega arith in
    let a = s.long in
    let b = s.at_le in
    let f : k < length t = omega arith in
    rw e
    (ends n (set t k (digit rest)) k (length-set t k (digit rest) ∙ a) (omega arith)
    (decimal_last k rest t f l ∙ s.digits_are))

pub stands_more : (n : ℕ) (t : List ℕ) (at rest : ℕ) → Stands n t at rest → 0 < at → 10 ≤ rest
    → Stands n (set t (at - 1) (0x30 + rest % 10)) (at - 1) (rest / 10)
unfolding digit
stands_more n t zero rest s h l = absurd (omega arith)
stands_more n t (suc k) rest s h l =
    let e : suc k - 1 ≡ k = omega arith in
    let a = s.long in
    let b = s.at_le in
    let f : k < length t = omega arith in
    rw e
    (record {
      long = length-set t k (digit rest) ∙ a;
      at_le = omega arith;
      digits_are = decimal_more k rest t f l ∙ s.digits_are;
    })

pub stands_all : (n : ℕ) (t : List ℕ) (at rest : ℕ) → Stands n t at rest → at ≡ 0 → Ends n t 0
unfolding decimal_in
stands_all n t zero rest s h = ends n t 0 s.long (omega arith) s.digits_are
stands_all n t (suc k) rest s h = absurd (omega arith)
