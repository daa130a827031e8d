-- The first pass reads no block that is neither given nor written.
--
-- In order:
--   Local, chooser_local             a chooser that looks only at the block before; that of each type does
--   Same, Fronts, same_lane          two memories with the same blocks in a lane, or in each, up to a column
--   previous_same, reference_same    the block before and the reference block are the same in both
--   length-new_block, new_block_same   what is put is a block, the same for both
-- Not here: many blocks (Given).
-- Assumes nothing.
use mathlib.Core.Path.{◌≡◌, refl, sym, ap, ◌∙◌}
use mathlib.Core.List.{List}
use Prim.Native.Nat.{ℕ, ◌-◌, ◌*◌, ◌%◌, ◌^◌, ◌≤◌, ◌<◌}
use native.Mathlib.Nat.{zero-add, add-zero, mod-eq_of_lt}
use native.Mathlib.Omega.{arith}
use lib.Dec.{eqb}
use lib.ListN.{length, get_or, drop}
use lib.Seq.{get_or-take, get_or-drop}
use borrow.Author.Tests.{eq-eqb, eqb-true, eqb-false}
use Rattle.words.proofs.Laws.Cases.{by_bool}
use Rattle.argon2_block.specs.Rfc9106.{compress}
use Rattle.argon2_fill.specs.Rfc9106.{Figures, Position, column, block_at, current, previous, block, reference_lane, area, relative, reference, new_block, dependent, chooser}
use Rattle.argon2_fill.specs.State.{Placed, Open, Room, looks}
use Rattle.argon2_fill.proofs.Laws.Places.{previous_next, previous_lt, current-lt}
use Rattle.argon2_fill.proofs.Laws.Reference.{reference_lane-lt, finished_first, finished_open, area_own, area_front, area_other, area-ge, area-le, relative-lt, first_front, reference-lt}
use Rattle.argon2_fill.proofs.Laws.Chooser.{chooser-looks, chooser_else}
use Rattle.argon2_fill.proofs.Laws.Blocks.{length_fresh, length-compress}
use Rattle.argon2_fill.proofs.Laws.Memory.{room_block, length-block}

-- a chooser that looks only at the block before
pub record Local (choose : List ℕ → Position → ℕ) (f : Figures) : Type 0 where
  pub same : (p : Position) (m n : List ℕ) → block m (previous f p) ≡ block n (previous f p) → choose m p ≡ choose n p

dependent-block : (f : Figures) (m : List ℕ) (p : Position) → dependent f m p ≡ get_or (block m (previous f p)) 0 0
dependent-block f m p =
    let x : ℕ = previous f p * 128 in
    sym (get_or-take 128 (drop x m) 0 0 (omega arith) ∙ get_or-drop x m 0 0
    ∙ ap (λ (i : ℕ). get_or m i 0) (add-zero x))

dependent_same : (f : Figures) (p : Position) (m n : List ℕ) → block m (previous f p) ≡ block n (previous f p)
    → dependent f m p ≡ dependent f n p
dependent_same f p m n e =
    dependent-block f m p ∙ ap (λ (x : List ℕ). get_or x 0 0) e ∙ sym (dependent-block f n p)

pub chooser_local : (f : Figures) → Local (chooser f) f
chooser_local f =
    record {
      same = λ p m n e. by_bool (looks f p)
          (λ t. chooser-looks f m p t ∙ sym (chooser-looks f n p t))
          (λ t. chooser_else f m p t ∙ dependent_same f p m n e ∙ sym (chooser_else f n p t));
    }

-- two memories with the same blocks in a lane, up to a column
abbrev pub Same : Figures → List ℕ → List ℕ → ℕ → ℕ → Type 0
Same f m n l c = (j : ℕ) → j < c → block m (block_at f l j) ≡ block n (block_at f l j)

-- .. in each lane
abbrev pub Fronts : Figures → List ℕ → List ℕ → ℕ → Type 0
Fronts f m n c = (l : ℕ) → l < f.lanes → Same f m n l c

pub same_lane : (f : Figures) (m n : List ℕ) (k l c j : ℕ) → k ≡ l → Same f m n l c → j < c
    → block m (block_at f k j) ≡ block n (block_at f k j)
same_lane f m n k l c j e s h = rw e (s j h)

-- the block before is given or written
pub previous_same : (f : Figures) (p : Position) (m n : List ℕ) → Open f p → p.pass ≡ 0
    → Same f m n p.lane (column f p) → block m (previous f p) ≡ block n (previous f p)
previous_same f p m n o e s =
    let a = finished_open f p o in
    let b = finished_first f p e in
    let c : 1 ≤ column f p = omega arith in
    rw (previous_next f p (λ z. omega arith)) (s (column f p - 1) (omega arith))

-- in the first pass the blocks to choose from begin at the lane's front
reference_first : (f : Figures) (p : Position) (w l z : ℕ) → p.pass ≡ 0 → l ≡ reference_lane f p w
    → z ≡ relative (area f p l) (w % 2 ^ 32) → z < 4 * f.segment → reference f p w ≡ block_at f l z
unfolding reference
reference_first f p w l z e el ez h =
    rw (← el, ← ez, first_front f p e, zero-add, mod-eq_of_lt h)

-- the reference block is given or written: in the current lane before the block before, in another in a finished segment
pub reference_same : (f : Figures) (p : Position) (m n : List ℕ) (w : ℕ) → Open f p → p.pass ≡ 0
    → Same f m n p.lane (column f p)
    → ((k : ℕ) → k < f.lanes → (k ≡ p.lane → ⊥) → Same f m n k (p.slice * f.segment))
    → block m (reference f p w) ≡ block n (reference f p w)
reference_same f p m n w o e own others =
    let l : ℕ = reference_lane f p w in
    let z : ℕ = relative (area f p l) (w % 2 ^ 32) in
    let a : z < area f p l = relative-lt (area f p l) (w % 2 ^ 32) (area-ge f p w o) in
    let b = area-le f p l o.placed in
    let c = finished_first f p e in
    rw (reference_first f p w l z e refl refl (omega arith))
    (by_bool (eqb l p.lane)
    (λ t. let g = eqb-true l p.lane t in
    let d = area_own f p l g in
    same_lane f m n l p.lane (column f p) z g own (omega arith))
    (λ t. let g = eqb-false l p.lane t in
    others l (reference_lane-lt f p w o.placed) g z (by_bool (eqb p.index 0)
    (λ u. let d = area_front f p l g (eqb-true p.index 0 u) in omega arith)
    (λ u. let d = area_other f p l g (eqb-false p.index 0 u) in omega arith))))

-- what is put is a block
pub length-new_block : (f : Figures) (p : Position) (w : ℕ) (m : List ℕ) → Placed f p → Room f m
    → length (new_block f p w m) ≡ 128
unfolding new_block
length-new_block f p w m h r =
    let a = length-block m (previous f p) (room_block f m (previous f p) r (previous_lt f p h)) in
    let b = length-block m (reference f p w) (room_block f m (reference f p w) r (reference-lt f p w h)) in
    let c = length-block m (current f p) (room_block f m (current f p) r (current-lt f p h)) in
    let g = length-compress (block m (previous f p)) (block m (reference f p w)) a b in
    by_bool (eqb p.pass 0)
    (λ t. rw t g)
    (λ t. rw t (length_fresh (compress (block m (previous f p)) (block m (reference f p w))) (block m (current f p)) g c))

pub new_block_same : (f : Figures) (p : Position) (w : ℕ) (m n : List ℕ) → p.pass ≡ 0
    → block m (previous f p) ≡ block n (previous f p) → block m (reference f p w) ≡ block n (reference f p w)
    → new_block f p w m ≡ new_block f p w n
unfolding new_block
new_block_same f p w m n e a b = rw (eq-eqb p.pass 0 e, a, b)
