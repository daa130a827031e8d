-- Where blocks stand, and that they stand in the memory.
--
-- In order:
--   slice_le, slice_ge, lane_le, times_le    products of a few and not too many
--   column-lt, block_at-lt                    a column of a lane, a block of the memory
--   previous_first, previous_next            the block before
--   previous_lt, current-lt                  both stand in the memory
-- Not here: the reference block (Reference).
-- Assumes nothing.
use mathlib.Core.Path.{◌≡◌}
use Prim.Native.Nat.{ℕ, suc, ◌+◌, ◌-◌, ◌*◌, ◌≤◌, ◌<◌}
use native.Mathlib.Nat.{mul-le-mul_right, mul-le-mul, suc-mul}
use native.Mathlib.Omega.{arith}
use lib.Dec.{eqb}
use borrow.Author.Tests.{eq-eqb, ne_eqb, eqb-true, eqb-false}
use Rattle.words.proofs.Laws.Cases.{by_bool}
use Rattle.argon2_fill.specs.Rfc9106.{Figures, Position, column, block_at, blocks, lane_length, current, previous}
use Rattle.argon2_fill.specs.State.{Placed}

pub slice_le : (sl n : ℕ) → sl < 4 → sl * n ≤ 3 * n
slice_le sl n h = mul-le-mul_right n (omega arith)

pub slice_ge : (sl n : ℕ) → 1 ≤ sl → n ≤ sl * n
slice_ge sl n h = let k : 1 * n ≤ sl * n = mul-le-mul_right n h in omega arith

pub lane_le : (l k q : ℕ) → l < k → l * q + q ≤ k * q
lane_le l k q h =
    let e = suc-mul l q in
    let m : suc l * q ≤ k * q = mul-le-mul_right q h in
    omega arith

pub times_le : (a b : ℕ) → a ≤ 16 → b ≤ 65536 → a * b ≤ 1048576
times_le a b h k = mul-le-mul h k

pub column-lt : (f : Figures) (p : Position) → Placed f p → column f p < 4 * f.segment
column-lt f p h =
    let k = slice_le p.slice f.segment h.slice in
    let l = h.index in
    omega arith

pub block_at-lt : (f : Figures) (i j : ℕ) → i < f.lanes → j < 4 * f.segment → block_at f i j < blocks f
block_at-lt f i j h k = let m = lane_le i f.lanes (4 * f.segment) h in omega arith

pub previous_first : (f : Figures) (p : Position) → column f p ≡ 0
    → previous f p ≡ block_at f p.lane (lane_length f - 1)
unfolding previous
previous_first f p e = rw (eq-eqb (column f p) 0 e)

pub previous_next : (f : Figures) (p : Position) → (column f p ≡ 0 → ⊥)
    → previous f p ≡ block_at f p.lane (column f p - 1)
unfolding previous
previous_next f p n = rw (ne_eqb (column f p) 0 n)

pub previous_lt : (f : Figures) (p : Position) → Placed f p → previous f p < blocks f
previous_lt f p h =
    let k = column-lt f p h in
    let l = h.fits.long in
    by_bool (eqb (column f p) 0)
    (λ t. rw (previous_first f p (eqb-true (column f p) 0 t))
    (block_at-lt f p.lane (lane_length f - 1) h.lane (omega arith)))
    (λ t. rw (previous_next f p (eqb-false (column f p) 0 t))
    (block_at-lt f p.lane (column f p - 1) h.lane (omega arith)))

pub current-lt : (f : Figures) (p : Position) → Placed f p → current f p < blocks f
current-lt f p h = block_at-lt f p.lane (column f p) h.lane (column-lt f p h)
