-- Comparing two lists by the or of the exclusive ors of their elements.
--
-- In order:
--   same_refl, same_true, same_length    the test and the equation
--   eqb_or_xor                           differences gathered
--   same_more, same_all                  one turn, and the loop's end
-- Assumes nothing.
use mathlib.Core.Path.{◌≡◌, refl, ap, ap₂}
use mathlib.Core.Bool.{Bool, true, false, ◌&&◌}
use mathlib.Core.List.{List, [], ◌∷◌}
use Prim.Native.Nat.{ℕ}
use native.Mathlib.Omega.{arith}
use lib.Dec.{eqb}
use lib.Bits.{bit_or, bit_xor, or_add_and, xor_add_and, and_le_l, and_le_r, xor_self, or_zero_l}
use lib.ListN.{length}
use borrow.Author.Tests.{eq-eqb, ne_eqb, eqb-true, eqb-false}
use Rattle.words.proofs.Laws.Cases.{by_bool, and_true, and_true_r}
use Rattle.slices.specs.Same.{same}

pub same_refl : (s : List ℕ) → same s s ≡ true
unfolding same
same_refl [] = refl
same_refl (x ∷ s) = rw (eq-eqb x x refl, same_refl s)

pub same_true : (s t : List ℕ) → same s t ≡ true → s ≡ t
unfolding same
same_true [] [] e = refl
same_true [] (y ∷ t) e = let z : ◌≡◌ {A = ℕ} 0 1 = cc in absurd (omega arith)
same_true (x ∷ s) [] e = let z : ◌≡◌ {A = ℕ} 0 1 = cc in absurd (omega arith)
same_true (x ∷ s) (y ∷ t) e =
    let h = and_true (eqb x y) (same s t) e in
    ap₂ ◌∷◌ (eqb-true x y h.0) (same_true s t h.1)

pub same_length : (s t : List ℕ) → (length s ≡ length t → ⊥) → same s t ≡ false
same_length s t n = by_bool (same s t) (λ t'. absurd (n (ap length (same_true s t t')))) (λ f. f)

or_zero : (d z : ℕ) → bit_or d z ≡ 0 → (d ≡ 0) × (z ≡ 0)
or_zero d z h = omega (arith, or_add_and d z, and_le_l d z, and_le_r d z)

xor-zero : (x y : ℕ) → bit_xor x y ≡ 0 → x ≡ y
xor-zero x y h = omega (arith, xor_add_and x y, and_le_l x y, and_le_r x y)

-- the bits gathered so far, and those in which two numbers differ
pub eqb_or_xor : (d x y : ℕ) → eqb (bit_or d (bit_xor x y)) 0 ≡ (eqb d 0 && eqb x y)
eqb_or_xor d x y =
    by_bool (eqb d 0)
    (λ t. let p : d ≡ 0 = eqb-true d 0 t in
    by_bool (eqb x y)
    (λ u. let q : x ≡ y = eqb-true x y u in
    let z : bit_or d (bit_xor x y) ≡ 0 = rw (p, q, or_zero_l) (xor_self y) in
    rw (t, u) (eq-eqb _ 0 z))
    (λ u. rw (t, u) (ne_eqb _ 0 (λ z. eqb-false _ _ u (xor-zero x y (or_zero d (bit_xor x y) z).1)))))
    (λ t. rw t (ne_eqb _ 0 (λ z. eqb-false _ _ t (or_zero d (bit_xor x y) z).0)))

and_assoc : (p q r : Bool) → ((p && q) && r) ≡ (p && (q && r))
and_assoc true q r = refl
and_assoc false q r = refl

-- what was seen so far, with what is left to compare
abbrev pub compared : ℕ → List ℕ → List ℕ → Bool
compared d a b = eqb d 0 && same a b

pub same_more : (d x y : ℕ) (a b : List ℕ) → compared (bit_or d (bit_xor x y)) a b ≡ compared d (x ∷ a) (y ∷ b)
unfolding same
same_more d x y a b = rw (eqb_or_xor, and_assoc)

pub same_all : (d : ℕ) (a b : List ℕ) → length a ≡ length b → length a ≡ 0 → eqb d 0 ≡ compared d a b
unfolding same
same_all d [] [] e n = rw and_true_r
same_all d [] (y ∷ b) e n = absurd (omega arith)
same_all d (x ∷ a) b e n = absurd (omega arith)
