-- The frames of a header, as code goes through them.
--
-- In order:
--   frame_within         a field ends where the header ends, or before
--   field_frames_last, field_frames_more, fields_end_more    the end field, and another one
--   length-field_frames, length-frames    there are fewer frames than bytes
--   Counted, counted-…   frames counted so far, and what is left to count
--   Laying, laying-…     lines written so far, and what is left to write
-- Not here: one line (Lines).
-- Assumes nothing.
use mathlib.Core.Path.{◌≡◌, refl, sym, ap, ◌∙◌}
use mathlib.Core.List.{List, [], ◌∷◌, ◌++◌, flat_map}
use Prim.Native.Nat.{ℕ, zero, suc, ◌+◌, ◌-◌, ◌*◌, ◌≤◌, ◌<◌}
use native.Mathlib.Omega.{arith}
use native.Mathlib.Numerals.{sub-one}
use lib.Dec.{eqb}
use lib.ListN.{length, get_or, take, drop, length-append, length-drop}
use lib.Seq.{take_all, take_at, drop_at, take-add, drop-drop, length-take-le}
use borrow.Author.Tests.{eq-eqb, ne_eqb, eqb-true, eqb-false}
use Rattle.words.proofs.Laws.Cases.{by_bool}
use Rattle.slices.specs.Over.{over}
use Rattle.slices.proofs.Laws.Over.{over_nil, over_tail, length_over}
use Rattle.outer_header.specs.Frames.{frame_length, field_frames, frames, fields_end}
use Rattle.outer_header.proofs.Frames.{fields_end-le}
use Rattle.listing.specs.Listing.{hex_line, hex_lines, field_lines}
use Rattle.listing.proofs.Laws.Lines.{length-hex_line}

abbrev pub frame_at : List ℕ → ℕ → List ℕ
frame_at s at = take (frame_length s at) (drop at s)

pub frame_within : (k : ℕ) (s : List ℕ) (at : ℕ) → 0 < k → at + frame_length s at ≤ fields_end k s at
unfolding fields_end
frame_within zero s at h = absurd (omega arith)
frame_within (suc k) s at h =
    by_bool (eqb (get_or s at 0) 0)
    (λ t. rw t (omega arith))
    (λ t. rw t (fields_end-le k s (at + frame_length s at)))

pub field_frames_last : (k : ℕ) (s : List ℕ) (at : ℕ) → 0 < k → get_or s at 0 ≡ 0 → field_frames k s at ≡ frame_at s at ∷ []
unfolding field_frames
field_frames_last zero s at h e = absurd (omega arith)
field_frames_last (suc k) s at h e = rw (eq-eqb _ 0 e)

pub field_frames_more : (k : ℕ) (s : List ℕ) (at : ℕ) → 0 < k → (get_or s at 0 ≡ 0 → ⊥)
    → field_frames k s at ≡ frame_at s at ∷ field_frames (k - 1) s (at + frame_length s at)
unfolding field_frames
field_frames_more zero s at h n = absurd (omega arith)
field_frames_more (suc k) s at h n = rw (ne_eqb _ 0 n, sub-one)

pub fields_end_more : (k : ℕ) (s : List ℕ) (at : ℕ) → 0 < k → (get_or s at 0 ≡ 0 → ⊥)
    → fields_end k s at ≡ fields_end (k - 1) s (at + frame_length s at)
unfolding fields_end
fields_end_more zero s at h n = absurd (omega arith)
fields_end_more (suc k) s at h n = rw (ne_eqb _ 0 n, sub-one)

pub length-field_frames : (k : ℕ) (s : List ℕ) (at : ℕ) → length (field_frames k s at) + at ≤ fields_end k s at
unfolding field_frames fields_end
length-field_frames zero s at = omega arith
length-field_frames (suc k) s at =
    by_bool (eqb (get_or s at 0) 0)
    (λ t. rw t (omega arith))
    (λ t. rw t (omega (arith, length-field_frames k s (at + frame_length s at))))

pub length-frames : (s : List ℕ) → length (frames s) ≤ fields_end (length s) s 12
unfolding frames
length-frames s = omega (arith, length-field_frames (length s) s 12)

-- n frames counted before `at`
pub record Counted (s : List ℕ) (n at left : ℕ) : Type 0 where
  pub count_is : n + length (field_frames left s at) ≡ length (frames s)
  pub within : fields_end left s at ≤ length s
  pub few : n + 11 ≤ at

pub counted_none : (s : List ℕ) → fields_end (length s) s 12 ≤ length s → Counted s 1 12 (length s)
unfolding frames
counted_none s h = record { count_is = omega arith; within = h; few = omega arith }

pub counted_more : (s : List ℕ) (n at left : ℕ) → Counted s n at left → 0 < left → (get_or s at 0 ≡ 0 → ⊥)
    → Counted s (n + 1) (at + frame_length s at) (left - 1)
counted_more s n at left c h z =
    let e = ap (λ (fs : List (List ℕ)). length fs) (field_frames_more left s at h z) in
    let g = fields_end_more left s at h z in
    let i = c.count_is in
    record { count_is = omega arith; within = omega (arith, c.within); few = omega (arith, c.few) }

pub counted_last : (s : List ℕ) (n at left : ℕ) → Counted s n at left → 0 < left → get_or s at 0 ≡ 0
    → n + 1 ≡ length (frames s)
counted_last s n at left c h z =
    let e = ap (λ (fs : List (List ℕ)). length fs) (field_frames_last left s at h z) in
    let i = c.count_is in
    omega arith

pub counted_all : (s : List ℕ) (n at left : ℕ) → Counted s n at left → left ≡ 0 → n ≡ length (frames s)
unfolding field_frames
counted_all s n at left c z =
    let i : n + length (field_frames 0 s at) ≡ length (frames s) = rw z at c.count_is in
    omega arith

-- a frame that stands whole, and its line
pub length-frame_at : (s : List ℕ) (at : ℕ) → at + frame_length s at ≤ length s → length (frame_at s at) ≡ frame_length s at
length-frame_at s at h = length-take-le (frame_length s at) (drop at s) (simp length-drop (omega arith))

-- the lines before `to` stand over the front of d, those from `at` on are left
pub record Laying (s d out : List ℕ) (to at left : ℕ) : Type 0 where
  pub rest_is : drop to (field_lines s) ≡ hex_lines (field_frames left s at)
  pub out_is : out ≡ over (take to (field_lines s)) d
  pub within : fields_end left s at ≤ length s
  pub long : length out ≡ length d
  pub to_le : to ≤ length (field_lines s)

pub laying_none : (s d : List ℕ) → fields_end (length s) s 12 ≤ length s → Laying s d d 0 12 (length s)
laying_none s d h =
    record { rest_is = refl; out_is = sym (over_nil d); within = h; long = refl; to_le = omega arith }

module _ (s d out : List ℕ) (to at left : ℕ) (y : Laying s d out to at left) (h : 0 < left) where
  -- the line that comes next, and the lines behind it
  rest : (line behind : List ℕ) → drop to (field_lines s) ≡ line ++ behind → (n : ℕ) → length line ≡ n
      → (take (to + n) (field_lines s) ≡ take to (field_lines s) ++ line)
      × ((drop (to + n) (field_lines s) ≡ behind) × (to + n ≤ length (field_lines s)))
  rest line behind e n l =
      let a = ap (λ (x : List ℕ). length x) e in
      let b = length-drop to (field_lines s) in
      let c = length-append line behind in
      let t = y.to_le in (
        take-add to n (field_lines s)
            ∙ ap (λ (x : List ℕ). take to (field_lines s) ++ x)
            (ap (λ (x : List ℕ). take n x) e ∙ take_at line behind n l),
        (
          sym (drop-drop n to (field_lines s)) ∙ ap (λ (x : List ℕ). drop n x) e ∙ drop_at line behind n l,
          omega arith,
        ),
      )

  length_line : length (hex_line (frame_at s at)) ≡ 2 * frame_length s at + 1
  length_line =
      let w = frame_within left s at h in
      let b = y.within in
      let f = length-frame_at s at (omega arith) in
      let l = length-hex_line (frame_at s at) in
      omega arith

  -- there is room for the next line
  pub laying_room : to + (2 * frame_length s at + 1) ≤ length (field_lines s)
  unfolding hex_lines flat_map
  laying_room =
      by_bool (eqb (get_or s at 0) 0)
      (λ t. let z = eqb-true (get_or s at 0) 0 t in
      let e = y.rest_is ∙ ap (λ (fs : List (List ℕ)). hex_lines fs) (field_frames_last left s at h z) in
      (rest (hex_line (frame_at s at)) [] e (2 * frame_length s at + 1) length_line).1.1)
      (λ t. let z = eqb-false (get_or s at 0) 0 t in
      let e = y.rest_is ∙ ap (λ (fs : List (List ℕ)). hex_lines fs) (field_frames_more left s at h z) in
      (rest (hex_line (frame_at s at)) (hex_lines (field_frames (left - 1) s (at + frame_length s at))) e
      (2 * frame_length s at + 1) length_line).1.1)

  module _ (room : length (field_lines s) ≤ length d) (k : ℕ) (ys : List ℕ) (q : k ≡ length out - to)
      (v : ys ≡ over (hex_line (frame_at s at)) (take k (drop to out))) where
    -- one line more
    laid : (n : ℕ) (behind : List ℕ) → drop to (field_lines s) ≡ hex_line (frame_at s at) ++ behind
        → length (hex_line (frame_at s at)) ≡ n
        → take to out ++ (ys ++ drop k (drop to out)) ≡ over (take (to + n) (field_lines s)) d
    laid n behind e l =
        let t = y.to_le in
        let g = y.long in
        over_tail (take to (field_lines s)) (hex_line (frame_at s at)) d out ys to k y.out_is
        (length-take-le to (field_lines s) t) (omega arith) (omega arith) v
        ∙ ap (λ (x : List ℕ). over x d) (sym (rest (hex_line (frame_at s at)) behind e n l).0)

    pub laying_more : (get_or s at 0 ≡ 0 → ⊥)
        → Laying s d (take to out ++ (ys ++ drop k (drop to out))) (to + (2 * frame_length s at + 1))
        (at + frame_length s at) (left - 1)
    unfolding hex_lines flat_map
    laying_more z =
        let e = y.rest_is ∙ ap (λ (fs : List (List ℕ)). hex_lines fs) (field_frames_more left s at h z) in
        let behind = hex_lines (field_frames (left - 1) s (at + frame_length s at)) in
        let n = 2 * frame_length s at + 1 in
        let r = rest (hex_line (frame_at s at)) behind e n length_line in
        let o = laid n behind e length_line in
        let t = length-take-le (to + n) (field_lines s) r.1.1 in
        let m : length (take (to + n) (field_lines s)) ≤ length d = omega (arith, r.1.1) in
        let g = fields_end_more left s at h z in
        record {
          rest_is = r.1.0;
          out_is = o;
          within = omega (arith, y.within);
          long = ap (λ (x : List ℕ). length x) o ∙ length_over (take (to + n) (field_lines s)) d m;
          to_le = r.1.1;
        }

    pub laying_last : get_or s at 0 ≡ 0 → take to out ++ (ys ++ drop k (drop to out)) ≡ over (field_lines s) d
    unfolding hex_lines flat_map
    laying_last z =
        let e = y.rest_is ∙ ap (λ (fs : List (List ℕ)). hex_lines fs) (field_frames_last left s at h z) in
        let n = 2 * frame_length s at + 1 in
        let r = rest (hex_line (frame_at s at)) [] e n length_line in
        let b = ap (λ (x : List ℕ). length x) r.1.0 in
        let c = length-drop (to + n) (field_lines s) in
        laid n [] e length_line
        ∙ ap (λ (x : List ℕ). over x d) (take_all (to + n) (field_lines s) (omega arith))

pub laying_all : (s d out : List ℕ) (to at left : ℕ) → Laying s d out to at left → left ≡ 0
    → out ≡ over (field_lines s) d
unfolding field_frames hex_lines flat_map
laying_all s d out to at left y z =
    let e : drop to (field_lines s) ≡ [] = rw z at y.rest_is in
    let b = ap (λ (x : List ℕ). length x) e in
    let c = length-drop to (field_lines s) in
    y.out_is ∙ ap (λ (x : List ℕ). over x d) (take_all to (field_lines s) (omega arith))
