-- A ciphertext cut into pieces of z bytes, and the blocks of the pieces.
--
-- In order:
--   cut_in_same                       the count that ends it need only be large enough
--   cut_none, cut_full, cut_last     nothing left, a full piece before the rest, the last one
--   length_cut                       how many pieces there are
--   joined-cut, cut_nonempty         they are the ciphertext again, and none is empty
--   pieces_at, total_at, positive_at, length_at
--                                    so this is one of the cuttings into any positive sizes that add up
--   length-blocks                    how long their blocks are
--   cut_alike                        what is within two sizes is cut alike
--   count_le, count_lt               larger pieces are no more, and of twice the size fewer, where one is not enough
-- Assumes nothing.
use mathlib.Core.Path.{◌≡◌, refl, sym, ap, ap₂, ◌∙◌}
use mathlib.Core.List.{List, [], ◌∷◌, ◌++◌}
use Prim.Native.Nat.{ℕ, zero, suc, ◌+◌, ◌-◌, ◌*◌, ◌/◌, ◌≤◌, ◌<◌}
use native.Mathlib.Nat.{
  zero-mul,
  suc-mul,
  mul-add,
  mul-le-mul_left,
  div-eq_of_lt,
  div-eq-sub-div,
  div-mul-le_self,
  le-div_iff_mul-le,
}
use native.Mathlib.Omega.{arith}
use lib.Dec.{eqb, leb}
use lib.ListN.{length, take, drop, length-append, length-take, length-drop, drop_of_length-le, take-append-drop}
use lib.Seq.{take_all, take_at, drop_at}
use borrow.Author.Tests.{eq-eqb, ne_eqb, eqb-true, eqb-false, leb-true, leb-false}
use Rattle.words.proofs.Laws.Cases.{by_bool}
use Rattle.fips180.specs.Feeds.{joined}
use Rattle.cutting.specs.Cutting.{
  Positive,
  total,
  pieces,
  cut_in,
  cut,
  blocks_from,
  sizes_at,
  NonEmpty,
  block_count,
  cut_length,
}
use Rattle.cutting.proofs.Laws.Pieces.{
  length-nil,
  pieces-lengths,
  total-lengths,
  lengths_positive,
  length-lengths,
}
use Rattle.cutting.proofs.Laws.Blocks.{length-blocks_from}

-- rounding up: none, and one more
round_none : (n : ℕ) → 0 < n → (0 + (n - 1)) / n ≡ 0
round_none n h = div-eq_of_lt (omega arith)

round_more : (t n : ℕ) → 0 < n → 0 < t → (t + (n - 1)) / n ≡ (t - n + (n - 1)) / n + 1
round_more t n h l =
    by_bool (leb n t)
    (λ e.
    let g = leb-true n t e in
    let f : t + (n - 1) - n ≡ t - n + (n - 1) = omega arith in
    div-eq-sub-div h (omega arith) ∙ ap (λ (x : ℕ). x / n + 1) f)
    (λ e.
    let g = leb-false n t e in
    let f : t + (n - 1) - n ≡ t - 1 = omega arith in
    let k : t - n + (n - 1) ≡ n - 1 = omega arith in
    let a : t - 1 < n = omega arith in
    let b : n - 1 < n = omega arith in
    div-eq-sub-div h (omega arith) ∙ ap (λ (x : ℕ). x / n + 1) f ∙ rw (k, div-eq_of_lt a, div-eq_of_lt b))

module _ (z : ℕ) (some : 0 < z) where
  shorter : (t : List ℕ) (m : ℕ) → length t ≤ suc m → (length t ≡ 0 → ⊥) → length (drop z t) ≤ m
  shorter t m h n = omega (arith, length-drop z t)

  cut_in_same : (m n : ℕ) (t : List ℕ) → length t ≤ m → length t ≤ n → cut_in z m t ≡ cut_in z n t
  unfolding cut_in
  cut_in_same zero zero t h l = refl
  cut_in_same zero (suc n) t h l =
      let e : length t ≡ 0 = omega arith in
      rw (eq-eqb (length t) 0 e)
  cut_in_same (suc m) zero t h l =
      let e : length t ≡ 0 = omega arith in
      rw (eq-eqb (length t) 0 e)
  cut_in_same (suc m) (suc n) t h l =
      by_bool (eqb (length t) 0) (λ e. rw e)
      (λ e.
      let d = eqb-false (length t) 0 e in
      rw e (ap (λ (r : List (List ℕ)). take z t ∷ r)
      (cut_in_same m n (drop z t) (shorter t m h d) (shorter t n l d))))

  pub cut_none : (t : List ℕ) → length t ≡ 0 → cut z t ≡ []
  unfolding cut_in
  cut_none t e = rw e

  -- a piece before the rest
  cut_some : (t : List ℕ) (m : ℕ) → length t ≡ suc m → cut z t ≡ take z t ∷ cut z (drop z t)
  unfolding cut_in
  cut_some t m e =
      let n : length t ≡ 0 → ⊥ = λ x. omega arith in
      let f = shorter t m (omega arith) n in
      rw (e, ne_eqb (length t) 0 n)
      (ap (λ (r : List (List ℕ)). take z t ∷ r) (cut_in_same m (length (drop z t)) (drop z t) f (omega arith)))

  pub cut_full : (a b : List ℕ) → length a ≡ z → cut z (a ++ b) ≡ a ∷ cut z b
  cut_full a b e =
      let n : length (a ++ b) ≡ suc (z - 1 + length b) = omega (arith, length-append a b) in
      cut_some (a ++ b) _ n ∙ rw (take_at a b z e, drop_at a b z e)

  pub cut_last : (a : List ℕ) → (length a ≡ 0 → ⊥) → length a ≤ z → cut z a ≡ a ∷ []
  cut_last a n h =
      let m : length a ≡ suc (length a - 1) = omega arith in
      let e : drop z a ≡ [] = drop_of_length-le a h in
      cut_some a _ m ∙ rw (take_all z a h, e) (ap (λ (r : List (List ℕ)). a ∷ r) (cut_none [] refl))

  length-cut_in : (m : ℕ) (t : List ℕ) → length t ≤ m → length (cut_in z m t) ≡ block_count z (length t)
  unfolding cut_in block_count
  length-cut_in zero t h =
      let e : length t ≡ 0 = omega arith in
      rw (e, round_none z some)
  length-cut_in (suc m) t h =
      by_bool (eqb (length t) 0)
      (λ e. rw (e, eqb-true (length t) 0 e, round_none z some))
      (λ e.
      let d = eqb-false (length t) 0 e in
      let r = round_more (length t) z some (omega arith) in
      let f = length-cut_in m (drop z t) (shorter t m h d) in
      rw (e, r, f, length-drop z t) (omega arith))

  pub length_cut : (t : List ℕ) → length (cut z t) ≡ block_count z (length t)
  length_cut t = length-cut_in (length t) t (omega arith)

  joined-cut_in : (m : ℕ) (t : List ℕ) → length t ≤ m → joined (cut_in z m t) ≡ t
  unfolding cut_in joined
  joined-cut_in zero t h = sym (length-nil t (omega arith))
  joined-cut_in (suc m) t h =
      by_bool (eqb (length t) 0)
      (λ e. rw e (sym (length-nil t (eqb-true (length t) 0 e))))
      (λ e.
      let d = eqb-false (length t) 0 e in
      rw e (ap (λ (r : List ℕ). take z t ++ r) (joined-cut_in m (drop z t) (shorter t m h d)) ∙ take-append-drop z t))

  pub joined-cut : (t : List ℕ) → joined (cut z t) ≡ t
  joined-cut t = joined-cut_in (length t) t (omega arith)

  cut_in_some : (m : ℕ) (t : List ℕ) → NonEmpty (cut_in z m t)
  unfolding cut_in NonEmpty
  cut_in_some zero t = tt
  cut_in_some (suc m) t =
      by_bool (eqb (length t) 0)
      (λ e. rw e tt)
      (λ e.
      let d = eqb-false (length t) 0 e in
      rw e (omega (arith, length-take z t), cut_in_some m (drop z t)))

  pub cut_nonempty : (t : List ℕ) → NonEmpty (cut z t)
  cut_nonempty t = cut_in_some (length t) t

  -- they are the pieces of a cutting into any sizes
  pub pieces_at : (t : List ℕ) → pieces (sizes_at z t) t ≡ cut z t
  pieces_at t = ap (pieces (sizes_at z t)) (sym (joined-cut t)) ∙ pieces-lengths (cut z t)

  pub total_at : (t : List ℕ) → total (sizes_at z t) ≡ length t
  total_at t = total-lengths (cut z t) ∙ ap length (joined-cut t)

  pub positive_at : (t : List ℕ) → Positive (sizes_at z t)
  positive_at t = lengths_positive (cut z t) (cut_nonempty t)

  pub length_at : (t : List ℕ) → length (sizes_at z t) ≡ block_count z (length t)
  length_at t = length-lengths (cut z t) ∙ length_cut t

  pub length-blocks : (base : List ℕ) (i : ℕ) (t : List ℕ)
      → length (blocks_from base i (cut z t)) ≡ cut_length z (length t)
  length-blocks base i t =
      length-blocks_from base i (cut z t)
      ∙ ap₂ (λ (n m : ℕ). n + 36 * (m + 1)) (ap length (joined-cut t)) (length_cut t)

pub cut_alike : (z w : ℕ) → 0 < z → 0 < w → (t : List ℕ) → length t ≤ z → length t ≤ w → cut w t ≡ cut z t
cut_alike z w hz hw t lz lw =
    by_bool (eqb (length t) 0)
    (λ e. let d = eqb-true (length t) 0 e in cut_none w hw t d ∙ sym (cut_none z hz t d))
    (λ e. let d = eqb-false (length t) 0 e in cut_last w hw t d lw ∙ sym (cut_last z hz t d lz))

-- a number of pieces that n bytes reach, and their own number
count_reached : (z n q : ℕ) → 0 < z → q * z < n + z → q ≤ block_count z n
unfolding block_count
count_reached z n q some h =
    let l : q * z ≤ n + (z - 1) = omega arith in
    (le-div_iff_mul-le {k = z} {x = q} {y = n + (z - 1)} some).1 l

count_below : (z n : ℕ) → 0 < z → block_count z n * z < n + z
unfolding block_count
count_below z n some = omega (arith, div-mul-le_self (n + (z - 1)) z)

-- q pieces of w bytes, and q or one more of z
reach_le : (z w n q : ℕ) → 0 < z → z ≤ w → q * w < n + w → q * z < n + z
reach_le z w n zero some h l = omega (arith, zero-mul z)
reach_le z w n (suc p) some h l = omega (arith, suc-mul p z, suc-mul p w, mul-le-mul_left p h)

reach_lt : (z w n q : ℕ) → 0 < z → z + z ≤ w → z < n → q * w < n + w → suc q * z < n + z
reach_lt z w n zero some h m l = omega (arith, suc-mul 0 z, zero-mul z)
reach_lt z w n (suc zero) some h m l = omega (arith, suc-mul 1 z, suc-mul 0 z, zero-mul z)
reach_lt z w n (suc (suc p)) some h m l =
    omega (
      arith,
      suc-mul (suc (suc p)) z,
      suc-mul (suc p) z,
      suc-mul p z,
      suc-mul (suc p) w,
      suc-mul p w,
      mul-le-mul_left p h,
      mul-add p z z,
    )

pub count_le : (z w n : ℕ) → 0 < z → z ≤ w → block_count w n ≤ block_count z n
count_le z w n some h =
    count_reached z n (block_count w n) some (reach_le z w n (block_count w n) some h (count_below w n (omega arith)))

pub count_lt : (z w n : ℕ) → 0 < z → z + z ≤ w → z < n → block_count w n < block_count z n
count_lt z w n some h l =
    count_reached z n (suc (block_count w n)) some
    (reach_lt z w n (block_count w n) some h l (count_below w n (omega arith)))
