-- A nonce in sixteen bytes.
--
-- In order: over_padded (a copy into sixteen zeros), length-padded.
-- Assumes nothing.
use mathlib.Core.Path.{◌≡◌, ap}
use mathlib.Core.List.{List, ◌++◌}
use Prim.Native.Nat.{ℕ, ◌≤◌}
use native.Mathlib.Omega.{arith}
use lib.ListN.{length, take, replicate, length-append, length-replicate}
use lib.Seq.{take_all}
use Rattle.slices.specs.Over.{over}
use Rattle.slices.proofs.Laws.Zeros.{drop-zeros}
use Rattle.opening.specs.Steps.{padded}

pub over_padded : (s : List ℕ) → length s ≤ 16 → over (take 16 s) (replicate 16 0) ≡ padded s
unfolding over padded
over_padded s h =
    rw (take_all 16 s h) (ap (λ (z : List ℕ). s ++ z) (drop-zeros (length s) 16 h))

pub length-padded : (s : List ℕ) → length s ≤ 16 → length (padded s) ≡ 16
unfolding padded
length-padded s h = simp (length-append, length-replicate) (omega arith)
