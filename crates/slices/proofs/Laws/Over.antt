-- Writing over the front of a list.
--
-- In order:
--   length_over, over_nil, over_all    how long, nothing written, all written
--   over_own                           a list's own front over it
--   over_over                          what begins with it hides it
--   take_over, drop_over               the written part, and what stays
--   over_append                        one part written behind another
--   over_more                          one byte more of a list
--   over_sets                          stores one after the other
--   over_tail                          a tail lent to a writer, and back
--   over_fits, over_whole              a copy that has room, and one that fills all
--   over_behind, over_behind_fits      a copy behind the list's own front
-- Assumes nothing.
use mathlib.Core.Path.{◌≡◌, refl, sym, ap, ◌∙◌}
use mathlib.Core.List.{List, [], ◌++◌, append_assoc, append-nil}
use Prim.Native.Nat.{ℕ, suc, ◌+◌, ◌-◌, ◌≤◌, ◌<◌}
use native.Mathlib.Nat.{zero-add}
use native.Mathlib.Numerals.{add-one}
use native.Mathlib.Omega.{arith}
use lib.ListN.{length, take, drop, get_or, set, length-append, length-drop, take-append-drop, drop_of_length-le}
use lib.Seq.{take_at, drop_at, take_all, drop-drop, drop-append-add, drop-cons, take-suc, set_at, append_snoc, length-take-le, sets, sets-eq}
use Rattle.slices.specs.Over.{over}

pub length_over : (w d : List ℕ) → length w ≤ length d → length (over w d) ≡ length d
unfolding over
length_over w d h = simp (length-append, length-drop) (omega arith)

pub over_nil : (d : List ℕ) → over [] d ≡ d
unfolding over
over_nil d = refl

pub over_all : (w d : List ℕ) → length d ≤ length w → over w d ≡ w
unfolding over
over_all w d h = rw (drop_of_length-le d h, append-nil)

pub over_own : (n : ℕ) (d : List ℕ) → n ≤ length d → over (take n d) d ≡ d
unfolding over
over_own n d h = rw (length-take-le n d h) (take-append-drop n d)

pub over_over : (w t d : List ℕ) → over (w ++ t) (over w d) ≡ over (w ++ t) d
unfolding over
over_over w t d = rw (length-append, drop-append-add, drop-drop)

pub take_over : (w d : List ℕ) (n : ℕ) → length w ≡ n → take n (over w d) ≡ w
unfolding over
take_over w d n e = take_at w (drop (length w) d) n e

pub drop_over : (w d : List ℕ) (n : ℕ) → length w ≡ n → drop n (over w d) ≡ drop n d
unfolding over
drop_over w d n e = drop_at w (drop (length w) d) n e ∙ ap (λ (k : ℕ). drop k d) e

pub over_append : (w b d : List ℕ) → w ++ over b (drop (length w) d) ≡ over (w ++ b) d
unfolding over
over_append w b d = rw (length-append, drop-drop, append_assoc)

pub over_more : (s d : List ℕ) (i : ℕ) → i < length s → i < length d → set (over (take i s) d) i (get_or s i 0)
    ≡ over (take (i + 1) s) d
unfolding over
over_more s d i h k =
    let a : i ≤ length s = omega arith in
    let b : suc i ≤ length s = omega arith in
    let e : length (take i s) ≡ i = length-take-le i s a in
    rw (
      add-one,
      length-take-le (suc i) s b,
      take-suc s i 0 h,
      e,
      drop-cons d i 0 k,
      set_at (take i s) (get_or d i 0)
          (drop (suc i) d) (get_or s i 0) i e,
    ) (sym (append_snoc (take i s) (get_or s i 0) (drop (suc i) d)))

-- stores at 0, 1, 2 ..
pub over_sets : (w d : List ℕ) → length w ≤ length d → sets d 0 w ≡ over w d
unfolding over
over_sets w d h = sets-eq w d 0 (omega arith) ∙ ap (λ (n : ℕ). w ++ drop n d) (zero-add (length w))

-- the part from `at` to the end, lent to a writer that writes b over it, and back: w ++ b stands over the whole
pub over_tail : (w b d xs ys : List ℕ) (at k : ℕ) → xs ≡ over w d → length w ≡ at → at ≤ length d → k ≡ length d - at
    → ys ≡ over b (take k (drop at xs))
    → take at xs ++ (ys ++ drop k (drop at xs)) ≡ over (w ++ b) d
unfolding over
over_tail w b d xs ys at k x e l f g =
    let m : length (drop (length w) d) ≤ k = simp length-drop (omega arith) in
    rw (
      g,
      x,
      take_at w (drop (length w) d) at e,
      drop_at w (drop (length w) d) at e,
      take_all k (drop (length w) d) m,
      drop_of_length-le (drop (length w) d) m,
      append-nil,
    ) (over_append w b d)

-- a copy that has room is whole
pub over_fits : (b d : List ℕ) → length b ≤ length d → over (take (length d) b) d ≡ over b d
over_fits b d h = ap (λ (w : List ℕ). over w d) (take_all (length d) b h)

-- a copy that fills all
pub over_whole : (b d : List ℕ) → length b ≡ length d → over (take (length d) b) d ≡ b
over_whole b d e =
    let h : length b ≤ length d = omega arith in
    let k : length d ≤ length b = omega arith in
    over_fits b d h ∙ over_all b d k

-- a copy of s to the tail of d from `at` on: as much of it as there is room for stands behind d's own first bytes
pub over_behind : (s d ys : List ℕ) (at k : ℕ) → at ≤ length d → k ≡ length d - at
    → ys ≡ over (take (length (take k (drop at d))) s) (take k (drop at d))
    → take at d ++ (ys ++ drop k (drop at d)) ≡ over (take at d ++ take k s) d
over_behind s d ys at k a e g =
    let r : length (take k (drop at d)) ≡ k = length-take-le k (drop at d) (simp length-drop (omega arith)) in
    let f : ys ≡ over (take k s) (take k (drop at d)) = g ∙ ap (λ (n : ℕ). over (take n s) (take k (drop at d))) r in
    over_tail (take at d) (take k s) d d ys at k (sym (over_own at d a)) (length-take-le at d a) a e f

-- .. and all of it where it fits
pub over_behind_fits : (s d ys : List ℕ) (at k : ℕ) → at + length s ≤ length d → k ≡ length d - at
    → ys ≡ over (take (length (take k (drop at d))) s) (take k (drop at d))
    → take at d ++ (ys ++ drop k (drop at d)) ≡ over (take at d ++ s) d
over_behind_fits s d ys at k h e g =
    let a : at ≤ length d = omega arith in
    let f : length s ≤ k = omega arith in
    over_behind s d ys at k a e g ∙ ap (λ (w : List ℕ). over (take at d ++ w) d) (take_all k s f)
