-- Writing at a place, one part behind the other.
--
-- In order:
--   length-laid, length-put_at    how long
--   put_at-laid                   a part laid behind what was laid: the two joined are laid
--   laid_first, laid_more         a first part, and one more, as code lays them
--   put_at_past                   nothing has room behind the end
--   put_at-append, put_at-put_at  behind a front that stays, and a part laid behind a part
--   put_at-tail                   the tail lent to a copy, and back
-- Assumes nothing.
use mathlib.Core.Path.{◌≡◌, sym, ap, ◌∙◌}
use mathlib.Core.List.{List, ◌++◌, append-nil, append_assoc}
use Prim.Native.Nat.{ℕ, ◌+◌, ◌-◌, ◌≤◌}
use native.Mathlib.Omega.{arith}
use lib.Dec.{leb}
use lib.ListN.{length, take, drop, length-append, length-drop, length-take, drop_of_length-le}
use lib.Seq.{take_all, take-append_seam, drop-append_seam, take-append-le, take-append-add, drop-append-add, drop-drop, length-take-le}
use borrow.Author.Tests.{leb-true, leb-false}
use Rattle.words.proofs.Laws.Cases.{by_bool}
use Rattle.slices.specs.Over.{over, laid, put_at}
use Rattle.slices.proofs.Laws.Over.{length_over}

pub length-laid : (w d : List ℕ) → length (laid w d) ≡ length d
length-laid w d = length_over (take (length d) w) d (rw length-take (omega arith))

pub length-put_at : (at : ℕ) (w d : List ℕ) → length (put_at at w d) ≡ length d
unfolding put_at
length-put_at at w d =
    let e : length (laid w (drop at d)) ≡ length d - at = length-laid w (drop at d) ∙ length-drop at d in
    rw (length-append, length-take, e) (omega arith)

-- nothing has room behind the end
pub put_at_past : (at : ℕ) (w d : List ℕ) → length d ≤ at → put_at at w d ≡ d
unfolding put_at over
put_at_past at w d h = rw (take_all at d h, drop_of_length-le d h) (append-nil d)

-- where there is room for the first part
put_at_laid_room : (w s d : List ℕ) (at m : ℕ) → length w ≡ at → length d ≡ at + m
    → put_at at s (laid w d) ≡ laid (w ++ s) d
unfolding put_at over
put_at_laid_room w s d at m e f =
    let a : length w ≤ length d = omega arith in
    let g : length d ≡ length w + m = omega arith in
    let n : length (drop (length w) d) ≡ m = simp length-drop (omega arith) in
    rw (
      ← e,
      take_all (length d) w a,
      take-append_seam w (drop (length w) d),
      drop-append_seam w (drop (length w) d),
      n,
      g,
      take-append-add w s m,
      length-append,
      ← drop-drop,
      append_assoc,
    )

put_at_laid_none : (w s d : List ℕ) (at : ℕ) → length w ≡ at → length d ≤ at → put_at at s (laid w d) ≡ laid (w ++ s) d
put_at_laid_none w s d at e h =
    let a : length d ≤ length w = omega arith in
    let b : length (laid w d) ≤ at = rw (length-laid w d) h in
    put_at_past at s (laid w d) b
    ∙ ap (λ (x : List ℕ). over x d) (sym (take-append-le (length d) w s a))

pub put_at-laid : (w s d : List ℕ) (at : ℕ) → length w ≡ at → put_at at s (laid w d) ≡ laid (w ++ s) d
put_at-laid w s d at e =
    by_bool (leb at (length d))
    (λ t. let h = leb-true at (length d) t in put_at_laid_room w s d at (length d - at) e (omega arith))
    (λ t. let h = leb-false at (length d) t in put_at_laid_none w s d at e (omega arith))

pub laid_first : (s d y : List ℕ) → y ≡ put_at 0 s d → y ≡ laid s d
unfolding put_at
laid_first s d y e = e

pub laid_more : (w s d x y : List ℕ) (at : ℕ) → length w ≡ at → x ≡ laid w d → y ≡ put_at at s x → y ≡ laid (w ++ s) d
laid_more w s d x y at e f g = g ∙ ap (λ (z : List ℕ). put_at at s z) f ∙ put_at-laid w s d at e

put_at-append : (p s x : List ℕ) (at n : ℕ) → length p ≡ at → put_at (at + n) s (p ++ x) ≡ p ++ put_at n s x
unfolding put_at
put_at-append p s x at n e = rw (← e, take-append-add p x n, drop-append-add p x n, append_assoc)

-- a part laid behind a part of n bytes
pub put_at-put_at : (w s d : List ℕ) (at n : ℕ) → length w ≡ n → at ≤ length d
    → put_at (at + n) s (put_at at w d) ≡ put_at at (w ++ s) d
unfolding put_at
put_at-put_at w s d at n e h =
    put_at-append (take at d) s (laid w (drop at d)) at n (length-take-le at d h)
    ∙ ap (λ (x : List ℕ). take at d ++ x) (put_at-laid w s (drop at d) n e)

-- the tail from `at` on, lent to a copy, and back
pub put_at-tail : (s d ys : List ℕ) (at k : ℕ) → at ≤ length d → k ≡ length d - at
    → ys ≡ laid s (take k (drop at d))
    → take at d ++ (ys ++ drop k (drop at d)) ≡ put_at at s d
unfolding put_at
put_at-tail s d ys at k a e g =
    let r : length (drop at d) ≤ k = simp length-drop (omega arith) in
    rw (g, take_all k (drop at d) r, drop_of_length-le (drop at d) r, append-nil)
