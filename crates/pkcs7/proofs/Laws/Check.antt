-- The check of a last piece: a loop that looks at every byte, the last one first, and gathers the bits that are wrong.
--
-- In order:
--   checked_from                                  the check of the bytes from a place on
--   checked_from_end, checked_from_more           where the loop starts, and one turn
--   checked_from_all                              the loop's end
--   answer-zero, answer_large, answer-checked     the returns
--   answer_of, answer_wrong                       what an answer says, for callers
-- Not here: what the padding's length means (Padding).
-- Assumes nothing.
use mathlib.Core.Path.{◌≡◌, refl, ◌∙◌}
use mathlib.Core.Bool.{Bool, true, false, cond, ◌&&◌}
use mathlib.Core.List.{List, [], ◌∷◌}
use Prim.Native.Nat.{ℕ, zero, suc, ◌+◌, ◌-◌, ◌<◌, ◌≤◌}
use native.Mathlib.Omega.{arith}
use native.Mathlib.Numerals.{add-one}
use borrow.Author.Tests.{ltb-true, ltb-false, le-ltb, lt-ltb, eq-eqb, ne_eqb, eqb-true, eqb-false}
use lib.Bits.{bit_or, or_zero_r}
use lib.Dec.{eqb, ltb}
use lib.ListN.{length, get_or, drop, drop_of_length-le}
use lib.Seq.{drop-cons}
use Rattle.words.proofs.Laws.Cases.{by_bool}
use Rattle.slices.proofs.Laws.Same.{eqb_or_xor}
use Rattle.std.specs.Prelude.{Some, None}
use Rattle.pkcs7.specs.Pkcs7.{all_are, padding_by, padding}
use Rattle.pkcs7.specs.Answer.{answer, wrong_bits}

-- whether the bytes s, of which the first stands at i of sixteen, are p where the last p must be
unfoldable pub checked_from : ℕ → ℕ → List ℕ → Bool
checked_from p i [] = true
checked_from p i (x ∷ xs) = cond (ltb (i + p) 16) (checked_from p (suc i) xs) (checked_from p (suc i) xs && eqb x p)

pub checked_from_end : (p : ℕ) (s : List ℕ) → length s ≡ 16 → checked_from p 16 (drop 16 s) ≡ true
unfolding checked_from
checked_from_end p s e = rw (drop_of_length-le s (let z : length s ≤ 16 = omega arith in z))

-- one byte before the others
pub checked_from_more : (d p i : ℕ) (s : List ℕ) → i < length s → eqb d 0 ≡ checked_from p (i + 1) (drop (i + 1) s)
    → eqb (bit_or d (wrong_bits i p (get_or s i 0))) 0 ≡ checked_from p i (drop i s)
unfolding checked_from wrong_bits
checked_from_more d p i s h e =
    by_bool (ltb (i + p) 16)
    (λ t. rw (drop-cons s i 0 h, t, or_zero_r) (rw add-one at e))
    (λ f. rw (drop-cons s i 0 h, f, eqb_or_xor d (get_or s i 0) p, e, add-one))

and_comm : (a b : Bool) → (a && b) ≡ (b && a)
and_comm true true = refl
and_comm true false = refl
and_comm false true = refl
and_comm false false = refl

-- the bytes that the padding covers are p
covered : (p i : ℕ) (s : List ℕ) → p ≤ 16 → length s + i ≡ 16 → checked_from p i s ≡ all_are p (drop (16 - p - i) s)
unfolding checked_from all_are
covered p i [] l e = rw (drop_of_length-le [] (let z : 0 ≤ 16 - p - i = omega arith in z))
covered p i (x ∷ xs) l e = go (ltb (i + p) 16) refl (covered p (suc i) xs l (omega arith))
  where
    go : (t : Bool) → ltb (i + p) 16 ≡ t → checked_from p (suc i) xs ≡ all_are p (drop (16 - p - suc i) xs)
        → cond t (checked_from p (suc i) xs) (checked_from p (suc i) xs && eqb x p)
        ≡ all_are p (drop (16 - p - i) (x ∷ xs))
    go true q f =
        let n = ltb-true (i + p) 16 q in
        let k : 16 - p - i ≡ suc (16 - p - suc i) = omega arith in
        rw (k, f)
    go false q f =
        let n = ltb-false (i + p) 16 q in
        let k : 16 - p - i ≡ 0 = omega arith in
        let j : 16 - p - suc i ≡ 0 = omega arith in
        rw (k, f, j) (and_comm (all_are p xs) (eqb x p))

pub checked_from_all : (p : ℕ) (s : List ℕ) → length s ≡ 16 → p ≤ 16 → checked_from p 0 s ≡ all_are p (drop (16 - p) s)
checked_from_all p s e l = let k : 16 - p - 0 ≡ 16 - p = omega arith in rw k at (covered p 0 s l (omega arith))

-- a piece's padding, by the tests
padding_piece : (s : List ℕ) (p : ℕ) → length s ≡ 16 → get_or s 15 0 ≡ p
    → padding s ≡ cond (eqb p 0) 0 (cond (ltb 16 p) 0 (cond (ltb 16 p) 0 (cond (all_are p (drop (16 - p) s)) p 0)))
unfolding padding padding_by
padding_piece s p e q = rw (e, q)

module _ (s : List ℕ) (p : ℕ) (e : length s ≡ 16) (q : get_or s 15 0 ≡ p) where
  pub answer-zero : p ≡ 0 → None ≡ answer (padding s)
  unfolding answer
  answer-zero z = rw (padding_piece s p e q, eq-eqb p 0 z)

  pub answer_large : (p ≡ 0 → ⊥) → 16 < p → None ≡ answer (padding s)
  unfolding answer
  answer_large n l = rw (padding_piece s p e q, ne_eqb p 0 n, lt-ltb 16 p l)

  pub answer-checked : (p ≡ 0 → ⊥) → p ≤ 16 → (t : Bool) → t ≡ checked_from p 0 s
      → cond t (Some p) None ≡ answer (padding s)
  unfolding answer
  answer-checked n l true h =
      rw (padding_piece s p e q, ne_eqb p 0 n, le-ltb 16 p l, ← checked_from_all p s e l, ← h, ne_eqb p 0 n)
  answer-checked n l false h =
      rw (padding_piece s p e q, ne_eqb p 0 n, le-ltb 16 p l, ← checked_from_all p s e l, ← h)

-- an answer with a length tells it
pub answer_of : (n p : ℕ) → answer n ≡ Some p → (n ≡ p) × (1 ≤ p)
unfolding answer
answer_of n p h =
    by_bool (eqb n 0) (λ t. let z : ◌≡◌ {A = ℕ} 0 1 = cc (rw t at h) in absurd (omega arith))
    (λ f. let e : n ≡ p = cc (rw f at h) in let z = eqb-false n 0 f in (e, low p (λ y. z (e ∙ y))))
  where
    low : (k : ℕ) → (k ≡ 0 → ⊥) → 1 ≤ k
    low zero z = absurd (z refl)
    low (suc k) z = omega arith

-- the other answer says that there is no padding
pub answer_wrong : (n : ℕ) → answer n ≡ None → n ≡ 0
unfolding answer
answer_wrong n h =
    by_bool (eqb n 0) (λ t. eqb-true n 0 t) (λ f. let z : ◌≡◌ {A = ℕ} 0 1 = cc (rw f at h) in absurd (omega arith))
