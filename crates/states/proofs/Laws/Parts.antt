-- Parts one behind the other: as code lays them, and as they are read again.
--
-- In order:
--   Put, put_first, put_more, put_all    parts laid behind each other from a place on, and over all
--   joined, Lies                         parts that stand one behind the other from a place on
--   lies_part, lies_next                 the first of them, and those behind it
-- Not here: words (Words).
-- Assumes nothing.
use mathlib.Core.Path.{◌≡◌, sym, ap, ◌∙◌}
use mathlib.Core.List.{List, [], ◌∷◌, ◌++◌}
use Prim.Native.Nat.{ℕ, ◌+◌, ◌≤◌}
use lib.ListN.{length, take, drop, length-append}
use lib.Seq.{take_at, drop_at, drop-drop}
use Rattle.slices.specs.Over.{put_at}
use Rattle.slices.proofs.Laws.Over.{over_whole}
use Rattle.slices.proofs.Laws.Put.{put_at-put_at, laid_first}

-- y is d with the n bytes w laid from `at` on
pub record Put (d y w : List ℕ) (at n : ℕ) : Type 0 where
  pub is : y ≡ put_at at w d
  pub long : length w ≡ n
  pub room : at ≤ length d

pub put_first : {y t : List ℕ} (w d : List ℕ) (at n : ℕ) → at ≤ length d → length w ≡ n → t ≡ w → y ≡ put_at at t d
    → Put d y w at n
put_first w d at n h l f e = record { is = e ∙ ap (λ (z : List ℕ). put_at at z d) f; long = l; room = h }

-- one part more, which code has as t
pub put_more : {d x y w t : List ℕ} {at n : ℕ} → Put d x w at n → (s : List ℕ) (m : ℕ) → length s ≡ m → t ≡ s
    → y ≡ put_at (at + n) t x
    → Put d y (w ++ s) at (n + m)
put_more {d} {x} {y} {w} {t} {at} {n} p s m l f e =
    record {
      is = e ∙ ap (λ (z : List ℕ). put_at (at + n) z x) f ∙ ap (λ (z : List ℕ). put_at (at + n) s z) p.is
          ∙ put_at-put_at w s d at n p.long p.room;
      long = rw (length-append, p.long, l);
      room = p.room;
    }

-- parts over all
pub put_all : {d y w : List ℕ} {n : ℕ} → Put d y w 0 n → length d ≡ n → y ≡ w
put_all {d} {y} {w} {n} p l =
    laid_first w d y p.is ∙ over_whole w d (p.long ∙ sym l)

abbrev pub joined : List (List ℕ) → List ℕ
joined [] = []
joined (x ∷ xs) = x ++ joined xs

-- from `at` on s is these parts
pub record Lies (s : List ℕ) (at : ℕ) (xs : List (List ℕ)) : Type 0 where
  pub is : drop at s ≡ joined xs

pub lies_part : {s x : List ℕ} {at : ℕ} {xs : List (List ℕ)} → Lies s at (x ∷ xs) → (n : ℕ) → length x ≡ n
    → take n (drop at s) ≡ x
lies_part {s} {x} {at} {xs} p n l = rw p.is (take_at x (joined xs) n l)

pub lies_next : {s x : List ℕ} {at : ℕ} {xs : List (List ℕ)} → Lies s at (x ∷ xs) → (n : ℕ) → length x ≡ n
    → Lies s (at + n) xs
lies_next {s} {x} {at} {xs} p n l =
    record { is = sym (drop-drop n at s) ∙ ap (drop n) p.is ∙ drop_at x (joined xs) n l }
