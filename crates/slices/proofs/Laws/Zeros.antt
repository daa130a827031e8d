-- Lists of zeros, cut in two.
--
-- In order: zeros-split, take-zeros, drop-zeros.
-- Assumes nothing.
use mathlib.Core.Path.{◌≡◌, sym, ap, ◌∙◌}
use mathlib.Core.List.{List, ◌++◌}
use Prim.Native.Nat.{ℕ, ◌+◌, ◌-◌, ◌≤◌}
use native.Mathlib.Omega.{arith}
use lib.ListN.{take, drop, replicate, length-replicate, replicate-append-replicate}
use lib.Seq.{take_at, drop_at}

abbrev pub zeros : ℕ → List ℕ
zeros n = replicate n 0

pub zeros-split : (j m : ℕ) → j ≤ m → zeros m ≡ zeros j ++ zeros (m - j)
zeros-split j m h =
    let e : j + (m - j) ≡ m = omega arith in
    sym (replicate-append-replicate j (m - j) 0 ∙ ap (λ (n : ℕ). zeros n) e)

pub take-zeros : (j m : ℕ) → j ≤ m → take j (zeros m) ≡ zeros j
take-zeros j m h = rw (zeros-split j m h) (take_at (zeros j) (zeros (m - j)) j (length-replicate j 0))

pub drop-zeros : (j m : ℕ) → j ≤ m → drop j (zeros m) ≡ zeros (m - j)
drop-zeros j m h = rw (zeros-split j m h) (drop_at (zeros j) (zeros (m - j)) j (length-replicate j 0))
