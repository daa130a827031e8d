-- The line of a refusal with its place.
--
-- In order:
--   refusal_number, refusal_placed    the two lines
--   length-placed, length_refusal     how long they are
--   over_snoc, placed_long, placed_kept, placed_stands    how the code lays them over the output
--   part_is                           the digits, lent
-- Assumes nothing.
use mathlib.Core.Path.{◌≡◌, refl, sym, ap, ◌∙◌}
use mathlib.Core.List.{List, [], ◌∷◌, ◌++◌}
use Prim.Native.Nat.{ℕ, suc, ◌+◌, ◌-◌, ◌/◌, ◌%◌, ◌≤◌, ◌<◌}
use native.Mathlib.Omega.{arith}
use lib.Dec.{eqb}
use lib.ListN.{length, take, drop, set, get_or, length-set, length-append, length-drop}
use lib.Seq.{drop-cons, set_at, append_snoc, length-take-le, take_all}
use borrow.Author.Tests.{eq-eqb, ne_eqb}
use Rattle.words.proofs.Laws.Cases.{by_bool}
use Rattle.slices.specs.Over.{over}
use Rattle.slices.proofs.Laws.Over.{over_tail, over_fits, length_over}
use Rattle.refusals.specs.declared.Refusal.{Refusal}
use Rattle.refusals.specs.Numbers.{of_refusal, place_of}
use Rattle.decimal.specs.Decimal.{decimal}
use Rattle.decimal.proofs.Laws.Digits.{length-decimal}
use Rattle.listing.specs.Listing.{number_line, placed_line, refusal_line}

pub refusal_number : (r : Refusal) (n : ℕ) → n ≡ of_refusal r → n ≡ 1 → refusal_line r ≡ number_line n
unfolding refusal_line
refusal_number r n e h = rw (← e, eq-eqb n 1 h)

pub refusal_placed : (r : Refusal) (n at : ℕ) → n ≡ of_refusal r → at ≡ place_of r → (n ≡ 1 → ⊥)
    → refusal_line r ≡ placed_line n (decimal at)
unfolding refusal_line
refusal_placed r n at e f h = rw (← e, ← f, ne_eqb n 1 h)

pub length-placed : (n : ℕ) (w : List ℕ) → length (placed_line n w) ≡ 5 + length w
length-placed n w = let l = length-append w (0x0A ∷ []) in omega arith

pub length_refusal : (r : Refusal) → length (refusal_line r) ≤ 25
unfolding refusal_line
length_refusal r =
    by_bool (eqb (of_refusal r) 1)
    (λ t. rw t (omega arith))
    (λ t. rw t (omega (arith, length-placed (of_refusal r) (decimal (place_of r)), length-decimal (place_of r))))

over_snoc : (v d : List ℕ) (i a : ℕ) → i ≡ length v → i < length d → set (over v d) i a ≡ over (v ++ (a ∷ [])) d
unfolding over
over_snoc v d i a e h =
    let j = length-append v (a ∷ []) in
    let f : length (v ++ (a ∷ [])) ≡ suc i = omega arith in
    rw (f, ← e, drop-cons d i 0 h, set_at v (get_or d i 0) (drop (suc i) d) a i (sym e))
    (sym (append_snoc v a (drop (suc i) d)))

-- a number and a space
abbrev pub front : ℕ → List ℕ
front n = 0x52 ∷ (0x30 + n / 10) ∷ (0x30 + n % 10) ∷ 0x20 ∷ []

-- .. over d, the digits w behind it, and the line's end
module _ (n : ℕ) (w d x ys : List ℕ) (k : ℕ) (h : 5 + length w ≤ length d) (e : x ≡ over (front n) d)
    (f : k ≡ length x - 4)
    (g : ys ≡ over (take (length (take k (drop 4 x))) w) (take k (drop 4 x))) where
  digits_stand : take 4 x ++ (ys ++ drop k (drop 4 x)) ≡ over (front n ++ w) d
  digits_stand =
      let l : length x ≡ length d = ap (λ (v : List ℕ). length v) e ∙ length_over (front n) d (omega arith) in
      let m : length (drop 4 x) ≡ length x - 4 = length-drop 4 x in
      let z : length (take k (drop 4 x)) ≡ k = length-take-le k (drop 4 x) (omega arith) in
      let y = g ∙ over_fits w (take k (drop 4 x)) (omega arith) in
      over_tail (front n) w d x ys 4 k e refl (omega arith) (omega arith) y

  pub placed_long : length (take 4 x ++ (ys ++ drop k (drop 4 x))) ≡ length d
  placed_long = ap (λ (v : List ℕ). length v) digits_stand ∙ length_over (front n ++ w) d (omega arith)

  pub placed_kept : length (set (take 4 x ++ (ys ++ drop k (drop 4 x))) (4 + length w) 0x0A) ≡ length d
  placed_kept = length-set (take 4 x ++ (ys ++ drop k (drop 4 x))) (4 + length w) 0x0A ∙ placed_long

  pub placed_stands : set (take 4 x ++ (ys ++ drop k (drop 4 x))) (4 + length w) 0x0A ≡ over (placed_line n w) d
  placed_stands = rw digits_stand (over_snoc (front n ++ w) d (4 + length w) 0x0A (omega arith) (omega arith))

-- the digits at a text's end, lent as a slice
pub part_is : (t w q : List ℕ) (s : ℕ) → drop s t ≡ w → s + length w ≡ 20 → q ≡ take 20 (drop s t) → q ≡ w
part_is t w q s e f g =
    let l = ap (λ (v : List ℕ). length v) e in
    g ∙ take_all 20 (drop s t) (omega arith) ∙ e
