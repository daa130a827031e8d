-- How many blocks are to choose from, and which one a word chooses.
--
-- In order:
--   reference_lane_own, reference_lane_later, reference_lane_next, reference_lane-lt    the lane
--   finished_first, finished_later, finished_le, finished_open, finished_other    blocks of finished segments
--   area_own, area_front, area_other, area-ge, area-le        at least one, and not too many
--   square_lt, relative-le                                    no step leaves a word
--   relative_is, relative-lt                                  the place among them
--   first_front, first_later, first_le                        where they begin
--   reference_is, reference-lt                                the reference block stands in the memory
-- Not here: where blocks stand (Places).
-- Assumes nothing.
use mathlib.Core.Path.{◌≡◌}
use Prim.Native.Nat.{ℕ, ◌+◌, ◌-◌, ◌*◌, ◌/◌, ◌%◌, ◌^◌, ◌≤◌, ◌<◌}
use native.Mathlib.Nat.{mod-lt, mul-lt-mul_of_pos_left}
use native.Mathlib.Omega.{arith}
use lib.Dec.{eqb, ltb}
use borrow.Author.Tests.{eq-eqb, ne_eqb, eqb-true, eqb-false, ltb-true, ltb-false}
use Rattle.words.proofs.Laws.Cases.{by_bool}
use Rattle.argon2_block.proofs.Laws.Product.{product_lt}
use Rattle.argon2_fill.specs.Rfc9106.{Figures, Position, blocks, lane_length, reference_lane, finished, area, relative, first, reference}
use Rattle.argon2_fill.specs.State.{Placed, Open}
use Rattle.argon2_fill.proofs.Laws.Places.{slice_le, slice_ge, block_at-lt}

pub reference_lane_own : (f : Figures) (p : Position) (w : ℕ) → p.pass ≡ 0 → p.slice ≡ 0
    → reference_lane f p w ≡ p.lane
unfolding reference_lane
reference_lane_own f p w e g = rw (eq-eqb p.pass 0 e, eq-eqb p.slice 0 g)

pub reference_lane_later : (f : Figures) (p : Position) (w : ℕ) → (p.pass ≡ 0 → ⊥)
    → reference_lane f p w ≡ w / 2 ^ 32 % f.lanes
unfolding reference_lane
reference_lane_later f p w n = rw (ne_eqb p.pass 0 n)

pub reference_lane_next : (f : Figures) (p : Position) (w : ℕ) → p.pass ≡ 0 → (p.slice ≡ 0 → ⊥)
    → reference_lane f p w ≡ w / 2 ^ 32 % f.lanes
unfolding reference_lane
reference_lane_next f p w e n = rw (eq-eqb p.pass 0 e, ne_eqb p.slice 0 n)

pub reference_lane-lt : (f : Figures) (p : Position) (w : ℕ) → Placed f p → reference_lane f p w < f.lanes
reference_lane-lt f p w h =
    let k : w / 2 ^ 32 % f.lanes < f.lanes = mod-lt (w / 2 ^ 32) h.fits.some in
    by_bool (eqb p.pass 0)
    (λ t. by_bool (eqb p.slice 0)
    (λ u. rw (reference_lane_own f p w (eqb-true p.pass 0 t) (eqb-true p.slice 0 u)) h.lane)
    (λ u. rw (reference_lane_next f p w (eqb-true p.pass 0 t) (eqb-false p.slice 0 u)) k))
    (λ t. rw (reference_lane_later f p w (eqb-false p.pass 0 t)) k)

pub finished_first : (f : Figures) (p : Position) → p.pass ≡ 0 → finished f p ≡ p.slice * f.segment
unfolding finished
finished_first f p e = rw (eq-eqb p.pass 0 e)

pub finished_later : (f : Figures) (p : Position) → (p.pass ≡ 0 → ⊥) → finished f p ≡ 3 * f.segment
unfolding finished
finished_later f p n = rw (ne_eqb p.pass 0 n)

pub finished_le : (f : Figures) (p : Position) → Placed f p → finished f p ≤ 3 * f.segment
finished_le f p h =
    let k = slice_le p.slice f.segment h.slice in
    by_bool (eqb p.pass 0)
    (λ t. let e = finished_first f p (eqb-true p.pass 0 t) in omega arith)
    (λ t. let e = finished_later f p (eqb-false p.pass 0 t) in omega arith)

-- behind the first slice there is a finished segment
finished_behind : (f : Figures) (p : Position) → Placed f p → 1 ≤ p.slice → 2 ≤ finished f p
finished_behind f p h s =
    let k = slice_ge p.slice f.segment s in
    let l = h.fits.long in
    by_bool (eqb p.pass 0)
    (λ t. let e = finished_first f p (eqb-true p.pass 0 t) in omega arith)
    (λ t. let e = finished_later f p (eqb-false p.pass 0 t) in omega arith)

pub finished_open : (f : Figures) (p : Position) → Open f p → 2 ≤ finished f p + p.index
finished_open f p o =
    let h = o.placed in
    let l = h.fits.long in
    let k = o.free in
    by_bool (ltb 0 p.slice)
    (λ t. let e = finished_behind f p h (ltb-true 0 p.slice t) in omega arith)
    (λ t. let e = ltb-false 0 p.slice t in
    by_bool (eqb p.pass 0)
    (λ u. let g = eqb-true p.pass 0 u in omega arith)
    (λ u. let g = finished_later f p (eqb-false p.pass 0 u) in omega arith))

pub finished_other : (f : Figures) (p : Position) (w : ℕ) → Placed f p → (reference_lane f p w ≡ p.lane → ⊥)
    → 2 ≤ finished f p
finished_other f p w h n =
    let l = h.fits.long in
    by_bool (ltb 0 p.slice)
    (λ t. finished_behind f p h (ltb-true 0 p.slice t))
    (λ t. let e : p.slice ≡ 0 = let k = ltb-false 0 p.slice t in omega arith in
    by_bool (eqb p.pass 0)
    (λ u. absurd (n (reference_lane_own f p w (eqb-true p.pass 0 u) e)))
    (λ u. let g = finished_later f p (eqb-false p.pass 0 u) in omega arith))

pub area_own : (f : Figures) (p : Position) (l : ℕ) → l ≡ p.lane → area f p l ≡ finished f p + p.index - 1
unfolding area
area_own f p l e = rw (eq-eqb l p.lane e)

pub area_front : (f : Figures) (p : Position) (l : ℕ) → (l ≡ p.lane → ⊥) → p.index ≡ 0
    → area f p l ≡ finished f p - 1
unfolding area
area_front f p l n e = rw (ne_eqb l p.lane n, eq-eqb p.index 0 e)

pub area_other : (f : Figures) (p : Position) (l : ℕ) → (l ≡ p.lane → ⊥) → (p.index ≡ 0 → ⊥)
    → area f p l ≡ finished f p
unfolding area
area_other f p l n k = rw (ne_eqb l p.lane n, ne_eqb p.index 0 k)

pub area-ge : (f : Figures) (p : Position) (w : ℕ) → Open f p → 1 ≤ area f p (reference_lane f p w)
area-ge f p w o =
    let l : ℕ = reference_lane f p w in
    by_bool (eqb l p.lane)
    (λ t. let e = area_own f p l (eqb-true l p.lane t) in
    let k = finished_open f p o in omega arith)
    (λ t. let n = eqb-false l p.lane t in
    let k = finished_other f p w o.placed n in
    by_bool (eqb p.index 0)
    (λ u. let e = area_front f p l n (eqb-true p.index 0 u) in omega arith)
    (λ u. let e = area_other f p l n (eqb-false p.index 0 u) in omega arith))

pub area-le : (f : Figures) (p : Position) (l : ℕ) → Placed f p → area f p l ≤ 4 * f.segment
area-le f p l h =
    let k = finished_le f p h in
    let i = h.index in
    by_bool (eqb l p.lane)
    (λ t. let e = area_own f p l (eqb-true l p.lane t) in omega arith)
    (λ t. let n = eqb-false l p.lane t in
    by_bool (eqb p.index 0)
    (λ u. let e = area_front f p l n (eqb-true p.index 0 u) in omega arith)
    (λ u. let e = area_other f p l n (eqb-false p.index 0 u) in omega arith))

-- the square of a half is a word, and its high half is a half
pub square_lt : (j : ℕ) → j < 2 ^ 32 → j * j < 2 ^ 64
square_lt j h = product_lt 32 h h

pub relative-le : (w x : ℕ) → 1 ≤ w → x < 2 ^ 32 → w * x / 2 ^ 32 ≤ w - 1
relative-le w x h k =
    let m : w * x < w * 2 ^ 32 = mul-lt-mul_of_pos_left k h in
    omega arith

pub relative_is : (w j x : ℕ) → x ≡ j * j / 2 ^ 32 → w - 1 - w * x / 2 ^ 32 ≡ relative w j
unfolding relative
relative_is w j x e = rw e

pub relative-lt : (w j : ℕ) → 1 ≤ w → relative w j < w
unfolding relative
relative-lt w j h = omega arith

pub first_front : (f : Figures) (p : Position) → p.pass ≡ 0 → first f p ≡ 0
unfolding first
first_front f p e = rw (eq-eqb p.pass 0 e)

pub first_later : (f : Figures) (p : Position) → (p.pass ≡ 0 → ⊥) → first f p ≡ (p.slice + 1) % 4 * f.segment
unfolding first
first_later f p n = rw (ne_eqb p.pass 0 n)

pub first_le : (f : Figures) (p : Position) → first f p ≤ 3 * f.segment
first_le f p =
    let k = slice_le ((p.slice + 1) % 4) f.segment (omega arith) in
    by_bool (eqb p.pass 0)
    (λ t. let e = first_front f p (eqb-true p.pass 0 t) in omega arith)
    (λ t. let e = first_later f p (eqb-false p.pass 0 t) in omega arith)

pub reference_is : (f : Figures) (p : Position) (w l s a z r : ℕ) → l ≡ reference_lane f p w → s ≡ area f p (reference_lane f p w)
    → z ≡ relative s (w % 2 ^ 32) → a ≡ first f p → r ≡ l * lane_length f + (a + z) % lane_length f
    → r ≡ reference f p w
unfolding reference
reference_is f p w l s a z r el es ez ea er = cc

pub reference-lt : (f : Figures) (p : Position) (w : ℕ) → Placed f p → reference f p w < blocks f
unfolding reference
reference-lt f p w h =
    let q : 0 < 4 * f.segment = let l = h.fits.long in omega arith in
    block_at-lt f (reference_lane f p w) _ (reference_lane-lt f p w h)
    (mod-lt (first f p + relative (area f p (reference_lane f p w)) (w % 2 ^ 32)) q)
