-- Blocks, segments, slices and passes one after the other, whatever the chooser.
--
-- In order:
--   length-fill_block .. length-passes    as long as it was
--   fill_from_none, fill_from_more, fill_from_join    no block yet, one block more, and a stretch behind a stretch
--   segments_more, slices_more, passes_more    one more
--   begun-placed, begun_again             positions of a segment
--   given_le, given_free                  where a segment begins
--   segment_open, segment_is              the blocks that it fills, and all of them
-- Assumes nothing.
use mathlib.Core.Path.{◌≡◌, refl, sym, ap, ◌∙◌}
use mathlib.Core.List.{List}
use Prim.Native.Nat.{ℕ, zero, suc, ◌+◌, ◌-◌, ◌*◌, ◌≤◌, ◌<◌}
use native.Mathlib.Nat.{add_assoc, add-zero, add-suc}
use native.Mathlib.Numerals.{add-one}
use native.Mathlib.Omega.{arith}
use lib.Dec.{eqb, ltb}
use lib.ListN.{length}
use borrow.Author.Tests.{eq-eqb, ltb-true, ltb-false}
use Rattle.words.proofs.Laws.Cases.{by_bool}
use Rattle.slices.proofs.Laws.Put.{length-put_at}
use Rattle.argon2_fill.specs.Rfc9106.{Figures, Position, at, current, new_block, fill_block, fill_from, given, segment, segments, slices, passes}
use Rattle.argon2_fill.specs.State.{Fits, Placed, Open, Begun}

module _ (choose : List ℕ → Position → ℕ) (f : Figures) where
  pub length-fill_block : (p : Position) (m : List ℕ) → length (fill_block choose f p m) ≡ length m
  unfolding fill_block
  length-fill_block p m = length-put_at (current f p * 128) (new_block f p (choose m p) m) m

  pub length-fill_from : (p : Position) (n : ℕ) (m : List ℕ) → length (fill_from choose f p n m) ≡ length m
  unfolding fill_from
  length-fill_from p zero m = refl
  length-fill_from p (suc n) m =
      length-fill_block (at p (p.index + n)) (fill_from choose f p n m) ∙ length-fill_from p n m

  pub length-segment : (r sl l : ℕ) (m : List ℕ) → length (segment choose f r sl l m) ≡ length m
  unfolding segment
  length-segment r sl l m =
      length-fill_from (record { pass = r; slice = sl; lane = l; index = given r sl }) (f.segment - given r sl) m

  pub length-segments : (r sl n : ℕ) (m : List ℕ) → length (segments choose f r sl n m) ≡ length m
  unfolding segments
  length-segments r sl zero m = refl
  length-segments r sl (suc n) m = length-segment r sl n (segments choose f r sl n m) ∙ length-segments r sl n m

  pub length-slices : (r n : ℕ) (m : List ℕ) → length (slices choose f r n m) ≡ length m
  unfolding slices
  length-slices r zero m = refl
  length-slices r (suc n) m = length-segments r n f.lanes (slices choose f r n m) ∙ length-slices r n m

  pub length-passes : (n : ℕ) (m : List ℕ) → length (passes choose f n m) ≡ length m
  unfolding passes
  length-passes zero m = refl
  length-passes (suc n) m = length-slices n 4 (passes choose f n m) ∙ length-passes n m

  pub fill_from_none : (p : Position) (m : List ℕ) → m ≡ fill_from choose f p (p.index - p.index) m
  unfolding fill_from
  fill_from_none p m =
      let e : p.index - p.index ≡ 0 = omega arith in
      rw e

  -- one block more, at the index i
  pub fill_from_more : (p : Position) (i : ℕ) (m x y : List ℕ) → p.index ≤ i → x ≡ fill_from choose f p (i - p.index) m
      → y ≡ fill_block choose f (at p i) x → y ≡ fill_from choose f p (i + 1 - p.index) m
  unfolding fill_from
  fill_from_more p i m x y h e g =
      let a : p.index + (i - p.index) ≡ i = omega arith in
      let b : i + 1 - p.index ≡ suc (i - p.index) = omega arith in
      g ∙ ap (fill_block choose f (at p i)) e
      ∙ ap (λ (j : ℕ). fill_block choose f (at p j) (fill_from choose f p (i - p.index) m)) (sym a)
      ∙ ap (λ (j : ℕ). fill_from choose f p j m) (sym b)

  fill_from-add : (p : Position) (a b : ℕ) (m : List ℕ)
      → fill_from choose f (at p (p.index + a)) b (fill_from choose f p a m) ≡ fill_from choose f p (a + b) m
  unfolding fill_from
  fill_from-add p a zero m = ap (λ (j : ℕ). fill_from choose f p j m) (sym (add-zero a))
  fill_from-add p a (suc b) m =
      ap (fill_block choose f (at p (p.index + a + b))) (fill_from-add p a b m)
      ∙ ap (λ (j : ℕ). fill_block choose f (at p j) (fill_from choose f p (a + b) m)) (add_assoc p.index a b)
      ∙ ap (λ (j : ℕ). fill_from choose f p j m) (sym (add-suc a b))

  -- a stretch from the index i to the index j
  pub fill_from_join : (p : Position) (i j : ℕ) (m x y : List ℕ) → p.index ≤ i → i ≤ j
      → x ≡ fill_from choose f p (i - p.index) m → y ≡ fill_from choose f (at p i) (j - i) x
      → y ≡ fill_from choose f p (j - p.index) m
  fill_from_join p i j m x y h k e g =
      let a : p.index + (i - p.index) ≡ i = omega arith in
      let b : i - p.index + (j - i) ≡ j - p.index = omega arith in
      g ∙ ap (fill_from choose f (at p i) (j - i)) e
      ∙ ap (λ (n : ℕ). fill_from choose f (at p n) (j - i) (fill_from choose f p (i - p.index) m)) (sym a)
      ∙ fill_from-add p (i - p.index) (j - i) m
      ∙ ap (λ (n : ℕ). fill_from choose f p n m) b

  pub segments_more : (r sl l : ℕ) (m x y : List ℕ) → x ≡ segments choose f r sl l m
      → y ≡ segment choose f r sl l x → y ≡ segments choose f r sl (l + 1) m
  unfolding segments
  segments_more r sl l m x y e h = rw (add-one, ← e) h

  pub slices_more : (r sl : ℕ) (m x y : List ℕ) → x ≡ slices choose f r sl m
      → y ≡ segments choose f r sl f.lanes x → y ≡ slices choose f r (sl + 1) m
  unfolding slices
  slices_more r sl m x y e h = rw (add-one, ← e) h

  pub passes_more : (r : ℕ) (m x y : List ℕ) → x ≡ passes choose f r m → y ≡ slices choose f r 4 x
      → y ≡ passes choose f (r + 1) m
  unfolding passes
  passes_more r m x y e h = rw (add-one, ← e) h

pub begun-placed : (f : Figures) (p : Position) (i : ℕ) → Begun f p → i < f.segment → Placed f (at p i)
begun-placed f p i b h = record { fits = b.fits; slice = b.slice; lane = b.lane; index = h }

pub begun_again : (f : Figures) (p : Position) (i : ℕ) → Begun f p → p.index ≤ i → i ≤ f.segment → Begun f (at p i)
begun_again f p i b h k =
    let o = b.free in
    record { fits = b.fits; slice = b.slice; lane = b.lane; index = k; free = omega arith }

pub given_le : (r sl : ℕ) → given r sl ≤ 2
unfolding given
given_le r sl =
    by_bool (eqb r 0)
    (λ t. by_bool (eqb sl 0) (λ u. rw (t, u) (omega arith)) (λ u. rw (t, u) (omega arith)))
    (λ t. rw t (omega arith))

given_own : (r sl : ℕ) → r ≡ 0 → sl ≡ 0 → given r sl ≡ 2
unfolding given
given_own r sl e g = rw (eq-eqb r 0 e, eq-eqb sl 0 g)

pub given_free : (r sl : ℕ) → 2 ≤ given r sl + 2 * (r + sl)
given_free r sl =
    by_bool (ltb 0 r)
    (λ t. let h = ltb-true 0 r t in omega arith)
    (λ t. let h = ltb-false 0 r t in
    by_bool (ltb 0 sl)
    (λ u. let k = ltb-true 0 sl u in omega arith)
    (λ u. let k = ltb-false 0 sl u in
    let e = given_own r sl (omega arith) (omega arith) in omega arith))

-- the blocks that a segment fills
pub segment_open : (f : Figures) (r sl l g i : ℕ) → Fits f → sl < 4 → l < f.lanes → g ≡ given r sl → g ≤ i → i < f.segment
    → Open f (record { pass = r; slice = sl; lane = l; index = i })
segment_open f r sl l g i h k n e m j =
    let o = given_free r sl in
    record {
      placed = record { fits = h; slice = k; lane = n; index = j };
      free = omega arith;
    }

pub segment_is : (choose : List ℕ → Position → ℕ) (f : Figures) (r sl l g i : ℕ) (m x : List ℕ) → g ≡ given r sl
    → i ≡ f.segment → x ≡ fill_from choose f (record { pass = r; slice = sl; lane = l; index = g }) (i - g) m
    → x ≡ segment choose f r sl l m
unfolding segment
segment_is choose f r sl l g i m x e j q =
    rw (← e) (q ∙ ap (λ (n : ℕ). fill_from choose f (record { pass = r; slice = sl; lane = l; index = g }) (n - g) m) j)
