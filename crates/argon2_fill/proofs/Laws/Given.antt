-- What the memory held before does not matter: given blocks and figures fix what a filling leaves.
--
-- In order:
--   fill_block_kept, fill_from_kept    blocks that stay
--   fill_block_same, fill_from_same    two memories that are the same so far, and one block, or blocks of a segment
--   Through, segments_through        segments of a slice
--   slices_same, pass_same           slices of the first pass, and all of it
--   passes_same, fill_same           all passes, whatever the chooser that looks only at the block before
--   fill_given                       all passes, by the chooser of a type
-- Not here: what one block reads (Reads).
-- Assumes nothing.
use mathlib.Core.Path.{◌≡◌, refl, sym, ap, ◌∙◌}
use mathlib.Core.List.{List}
use Prim.Native.Nat.{ℕ, zero, suc, ◌+◌, ◌-◌, ◌*◌, ◌/◌, ◌%◌, ◌≤◌, ◌<◌}
use native.Mathlib.Nat.{zero-mul, suc-mul, mod-lt, div-add-mod', div-lt_iff_lt-mul}
use native.Mathlib.Omega.{arith}
use lib.Dec.{eqb, ltb}
use lib.ListN.{length}
use borrow.Author.Tests.{ne_eqb, eqb-true, eqb-false, ltb-true, ltb-false}
use Rattle.words.proofs.Laws.Cases.{by_bool}
use Rattle.argon2_fill.specs.Rfc9106.{Figures, Position, blocks, column, block_at, current, block, new_block, fill_block, at, fill_from, given, segment, segments, slices, passes, fill, chooser}
use Rattle.argon2_fill.specs.State.{Fits, Placed, Open, Begun, Room}
use Rattle.argon2_fill.proofs.Laws.Places.{slice_le, lane_le, column-lt, current-lt}
use Rattle.argon2_fill.proofs.Laws.Memory.{room_block, put_same, put_other, whole}
use Rattle.argon2_fill.proofs.Laws.Reads.{Local, chooser_local, Same, Fronts, same_lane, previous_same, reference_same, length-new_block, new_block_same}
use Rattle.argon2_fill.proofs.Laws.Segments.{length-fill_from, length-segments, length-slices, begun-placed, given_le, given_free}

lanes_apart : (q k l i j : ℕ) → (k ≡ l → ⊥) → i < q → j < q → k * q + i ≡ l * q + j → ⊥
lanes_apart q k l i j n a b e =
    by_bool (ltb k l)
    (λ t. let h = lane_le k l q (ltb-true k l t) in omega arith)
    (λ t. let g = ltb-false k l t in
    let h = lane_le l k q (omega arith) in omega arith)

-- behind the first slice no block is given
given_behind : (sl : ℕ) → (sl ≡ 0 → ⊥) → given 0 sl ≡ 0
unfolding given
given_behind sl n = rw (ne_eqb sl 0 n)

module _ (choose : List ℕ → Position → ℕ) (f : Figures) where
  -- any other block stays
  pub fill_block_kept : (p : Position) (m : List ℕ) (k : ℕ) → Placed f p → Room f m → (k ≡ current f p → ⊥)
      → block (fill_block choose f p m) k ≡ block m k
  unfolding fill_block
  fill_block_kept p m k h r n =
      put_other m (new_block f p (choose m p) m) (current f p) k (length-new_block f p (choose m p) m h r)
      (room_block f m (current f p) r (current-lt f p h)) n

  fill_block_new : (p : Position) (m : List ℕ) → Placed f p → Room f m
      → block (fill_block choose f p m) (current f p) ≡ new_block f p (choose m p) m
  unfolding fill_block
  fill_block_new p m h r =
      put_same m (new_block f p (choose m p) m) (current f p) (length-new_block f p (choose m p) m h r)
      (room_block f m (current f p) r (current-lt f p h))

  -- a segment keeps the blocks of other lanes
  fill_from_kept : (p : Position) (i : ℕ) (m : List ℕ) → Begun f p → p.index + i ≤ f.segment → Room f m
      → (k j : ℕ) → (k ≡ p.lane → ⊥) → j < 4 * f.segment
      → block (fill_from choose f p i m) (block_at f k j) ≡ block m (block_at f k j)
  unfolding fill_from
  fill_from_kept p zero m b h r k j n l = refl
  fill_from_kept p (suc i) m b h r k j n l =
      let a : p.index + i < f.segment = omega arith in
      let q : Position = at p (p.index + i) in
      let g : Placed f q = begun-placed f p (p.index + i) b a in
      let e = length-fill_from choose f p i m in
      let s : Room f (fill_from choose f p i m) = rw e r in
      fill_block_kept q (fill_from choose f p i m) (block_at f k j) g s
      (lanes_apart (4 * f.segment) k p.lane j (column f q) n l (column-lt f q g))
      ∙ fill_from_kept p i m b (omega arith) r k j n l

  module _ (look : Local choose f) where
    fill_block_same : (p : Position) (m n : List ℕ) → Open f p → p.pass ≡ 0 → Room f m → Room f n
        → Same f m n p.lane (column f p)
        → ((k : ℕ) → k < f.lanes → (k ≡ p.lane → ⊥) → Same f m n k (p.slice * f.segment))
        → Same f (fill_block choose f p m) (fill_block choose f p n) p.lane (column f p + 1)
    fill_block_same p m n o e r s own others j l =
        let h = o.placed in
        let a = previous_same f p m n o e own in
        let w : ℕ = choose n p in
        let new : new_block f p (choose m p) m ≡ new_block f p w n =
        ap (λ (x : ℕ). new_block f p x m) (look.same p m n a)
        ∙ new_block_same f p w m n e a (reference_same f p m n w o e own others) in
        by_bool (eqb j (column f p))
        (λ t. rw (eqb-true j (column f p) t) (fill_block_new p m h r ∙ new ∙ sym (fill_block_new p n h s)))
        (λ t. let g = eqb-false j (column f p) t in
        let c : block_at f p.lane j ≡ current f p → ⊥ = λ z. g (omega arith) in
        fill_block_kept p m (block_at f p.lane j) h r c ∙ own j (omega arith)
        ∙ sym (fill_block_kept p n (block_at f p.lane j) h s c))

    fill_from_same : (p : Position) (i : ℕ) (m n : List ℕ) → Begun f p → p.pass ≡ 0 → p.index + i ≤ f.segment
        → Room f m → Room f n → Same f m n p.lane (column f p)
        → ((k : ℕ) → k < f.lanes → (k ≡ p.lane → ⊥) → Same f m n k (p.slice * f.segment))
        → Same f (fill_from choose f p i m) (fill_from choose f p i n) p.lane (column f p + i)
    unfolding fill_from
    fill_from_same p zero m n b e h r s own others = λ j l. own j (omega arith)
    fill_from_same p (suc i) m n b e h r s own others =
        let x : List ℕ = fill_from choose f p i m in
        let y : List ℕ = fill_from choose f p i n in
        let free = b.free in
        let g : p.index + i ≤ f.segment = omega arith in
        let q : Position = at p (p.index + i) in
        let o : Open f q =
        record { placed = begun-placed f p (p.index + i) b (omega arith); free = omega arith } in
        let rx : Room f x = rw (length-fill_from choose f p i m) r in
        let ry : Room f y = rw (length-fill_from choose f p i n) s in
        let ih : Same f x y p.lane (column f p + i) = fill_from_same p i m n b e g r s own others in
        let sl = slice_le p.slice f.segment b.slice in
        let long = b.fits.long in
        λ j l. fill_block_same q x y o e rx ry (λ c d. ih c (omega arith))
        (λ k c d u v.
        let w : u < 4 * f.segment = omega arith in
        fill_from_kept p i m b g r k u d w ∙ others k c d u v ∙ sym (fill_from_kept p i n b g s k u d w))
        j (omega arith)

    -- after the segments of the first lanes: those lanes hold the slice, the others do not yet
    record Through (sl l : ℕ) (m n : List ℕ) : Type 0 where
      pub done : (k : ℕ) → k < l → Same f m n k (sl * f.segment + f.segment)
      pub left : (k : ℕ) → l ≤ k → k < f.lanes → Same f m n k (sl * f.segment + given 0 sl)

    segment_through : (sl l : ℕ) (m n : List ℕ) → Fits f → sl < 4 → l < f.lanes → Room f m → Room f n
        → Through sl l m n → Through sl (suc l) (segment choose f 0 sl l m) (segment choose f 0 sl l n)
    unfolding segment
    segment_through sl l m n fit h lane r s t =
        let p : Position = record { pass = 0; slice = sl; lane = l; index = given 0 sl } in
        let i : ℕ = f.segment - given 0 sl in
        let few = given_le 0 sl in
        let long = fit.long in
        let b : Begun f p =
        record { fits = fit; slice = h; lane = lane; index = omega arith; free = given_free 0 sl } in
        let g : given 0 sl + i ≤ f.segment = omega arith in
        let top = slice_le sl f.segment h in
        let kept : (k j : ℕ) → (k ≡ l → ⊥) → j < 4 * f.segment → block m (block_at f k j) ≡ block n (block_at f k j)
        → block (fill_from choose f p i m) (block_at f k j) ≡ block (fill_from choose f p i n) (block_at f k j) =
        λ k j a c e. fill_from_kept p i m b g r k j a c ∙ e ∙ sym (fill_from_kept p i n b g s k j a c) in
        let own = fill_from_same p i m n b refl g r s (t.left l (omega arith) lane)
        (λ k c d. by_bool (ltb k l)
        (λ u. λ j v. t.done k (ltb-true k l u) j (omega arith))
        (λ u. λ j v. let w = ltb-false k l u in t.left k w c j (omega arith))) in
        record {
          done = λ k c j d. by_bool (eqb k l)
              (λ u. same_lane f (fill_from choose f p i m) (fill_from choose f p i n) k l (sl * f.segment + given 0 sl + i) j
              (eqb-true k l u) own (omega arith))
              (λ u. let w = eqb-false k l u in kept k j w (omega arith) (t.done k (omega arith) j d));
          left = λ k c d j v. kept k j (λ u. omega arith) (omega arith) (t.left k (omega arith) d j v);
        }

    segments_through : (sl l : ℕ) (m n : List ℕ) → Fits f → sl < 4 → l ≤ f.lanes → Room f m → Room f n
        → Fronts f m n (sl * f.segment + given 0 sl)
        → Through sl l (segments choose f 0 sl l m) (segments choose f 0 sl l n)
    unfolding segments
    segments_through sl zero m n fit h le r s t =
        record { done = λ k c. absurd (omega arith); left = λ k c d. t k d }
    segments_through sl (suc l) m n fit h le r s t =
        let x : List ℕ = segments choose f 0 sl l m in
        let y : List ℕ = segments choose f 0 sl l n in
        let rx : Room f x = rw (length-segments choose f 0 sl l m) r in
        let ry : Room f y = rw (length-segments choose f 0 sl l n) s in
        segment_through sl l x y fit h le rx ry (segments_through sl l m n fit h (omega arith) r s t)

    slices_same : (i : ℕ) (m n : List ℕ) → Fits f → i ≤ 4 → Room f m → Room f n
        → Fronts f m n 2 → Fronts f (slices choose f 0 i m) (slices choose f 0 i n) (i * f.segment + given 0 i)
    unfolding slices given
    slices_same zero m n fit h r s t k c j d = t k c j (omega (arith, zero-mul f.segment))
    slices_same (suc i) m n fit h r s t k c j d =
        let x : List ℕ = slices choose f 0 i m in
        let y : List ℕ = slices choose f 0 i n in
        let rx : Room f x = rw (length-slices choose f 0 i m) r in
        let ry : Room f y = rw (length-slices choose f 0 i n) s in
        let e = suc-mul i f.segment in
        let g = given_behind (suc i) (λ z. omega arith) in
        (segments_through i f.lanes x y fit h (omega arith) rx ry
        (slices_same i m n fit (omega arith) r s t)).done k c j (omega arith)

    pass_same : (m n : List ℕ) → Fits f → length m ≡ blocks f * 128 → length n ≡ blocks f * 128
        → Fronts f m n 2 → slices choose f 0 4 m ≡ slices choose f 0 4 n
    pass_same m n fit e g t =
        let q : ℕ = 4 * f.segment in
        let long = fit.long in
        let pos : 0 < q = omega arith in
        whole (blocks f) (slices choose f 0 4 m) (slices choose f 0 4 n)
        (length-slices choose f 0 4 m ∙ e) (length-slices choose f 0 4 n ∙ g)
        (λ k c. rw (← div-add-mod' k q)
        (slices_same 4 m n fit (omega arith) (omega arith) (omega arith) t (k / q)
        ((div-lt_iff_lt-mul pos).1 c) (k % q) (let a = mod-lt k pos in omega arith)))

    passes_same : (i : ℕ) (m n : List ℕ) → Fits f → length m ≡ blocks f * 128 → length n ≡ blocks f * 128
        → Fronts f m n 2 → passes choose f (suc i) m ≡ passes choose f (suc i) n
    unfolding passes
    passes_same zero m n fit e g t = pass_same m n fit e g t
    passes_same (suc i) m n fit e g t = ap (slices choose f (suc i) 4) (passes_same i m n fit e g t)

    pub fill_same : (m n : List ℕ) → Fits f → 1 ≤ f.passes → length m ≡ blocks f * 128 → length n ≡ blocks f * 128
        → Fronts f m n 2 → fill choose f m ≡ fill choose f n
    unfolding fill
    fill_same m n fit h e g t =
        let c : suc (f.passes - 1) ≡ f.passes = omega arith in
        rw c at (passes_same (f.passes - 1) m n fit e g t)

pub fill_given : (f : Figures) → Fits f → 1 ≤ f.passes → (m n : List ℕ)
    → length m ≡ blocks f * 128 → length n ≡ blocks f * 128
    → ((l : ℕ) → l < f.lanes
    → (block m (block_at f l 0) ≡ block n (block_at f l 0)) × (block m (block_at f l 1) ≡ block n (block_at f l 1)))
    → fill (chooser f) f m ≡ fill (chooser f) f n
fill_given f fit h m n e g t =
    fill_same (chooser f) f (chooser_local f) m n fit h e g
    (λ l c j d. by_bool (eqb j 0)
    (λ u. rw (eqb-true j 0 u) (t l c).0)
    (λ u. let v = eqb-false j 0 u in
    let w : j ≡ 1 = omega arith in
    rw w (t l c).1))
