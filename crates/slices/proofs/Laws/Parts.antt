-- Parts of a list.
--
-- In order: length_part (how long a part is), part-tail (the part from a place to the end, as it is lent), part_front (a
-- part of a list's front).
-- Assumes nothing.
use mathlib.Core.Path.{◌≡◌}
use mathlib.Core.List.{List, [], ◌∷◌}
use Prim.Native.Nat.{ℕ, zero, suc, ◌+◌, ◌-◌, ◌≤◌}
use native.Mathlib.Omega.{arith}
use lib.ListN.{length, take, drop, length-drop}
use lib.Seq.{take_all, take-nil, take-take, length-take-le}

pub length_part : (s : List ℕ) (start n : ℕ) → start + n ≤ length s → length (take n (drop start s)) ≡ n
length_part s start n h = length-take-le n (drop start s) (simp length-drop (omega arith))

pub part-tail : (at : ℕ) (s : List ℕ) → take (length s - at) (drop at s) ≡ drop at s
part-tail at s = take_all (length s - at) (drop at s) (simp length-drop (omega arith))

pub part_front : (n i k : ℕ) (s : List ℕ) → i + k ≤ n → take k (drop i (take n s)) ≡ take k (drop i s)
part_front n zero k s h = take-take k n s (omega arith)
part_front n (suc i) k [] h = rw (take-nil n)
part_front zero (suc i) k (x ∷ s) h = absurd (omega arith)
part_front (suc n) (suc i) k (x ∷ s) h = part_front n i k s (omega arith)
