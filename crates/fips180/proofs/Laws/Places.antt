-- A word of a block by its place among the words, where the place of its first byte may not fit a number of 64 bits.
--
-- In order: be_at (a place that does not fit reads what the greatest number reads: zeros).
-- Assumes nothing.
use mathlib.Core.Path.{◌≡◌, sym, ap, ◌∙◌}
use mathlib.Core.List.{List}
use Prim.Native.Nat.{ℕ, ◌*◌, ◌≤◌, min}
use native.Mathlib.Omega.{arith}
use lib.Dec.{ltb}
use lib.ListN.{length}
use borrow.Author.Tests.{ltb-true, ltb-false}
use Rattle.words.specs.Endian.{be}
use Rattle.words.proofs.Laws.Endian.{be_past}
use Rattle.words.proofs.Laws.Cases.{by_bool}

-- a word of n bytes at the place i * w, where `at` is that place or, where it is over it, the greatest number
pub be_at : (n most : ℕ) (s : List ℕ) (i w at : ℕ) → length s ≤ most → at ≡ min (i * w) most → be n s at ≡ be n s (i * w)
be_at n most s i w at h e =
    by_bool (ltb most (i * w))
    (λ t.
    let over = ltb-true _ _ t in
    be_past n s at (omega arith) ∙ sym (be_past n s (i * w) (omega arith)))
    (λ t.
    let fits = ltb-false _ _ t in
    let same : at ≡ i * w = omega arith in
    ap (be n s) same)
