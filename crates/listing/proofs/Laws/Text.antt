-- The listing's text.
--
-- In order:
--   Listed, header-listed    what code leans on in an accepted header
--   length_lines, first_long, lines_joined    the first frame's line, and the fields' behind it
--   answer-wrote, after_wrote, answer-refused, after_refused    where there is room, and where not
--   text-refused, text-listed, text_long    the three texts
--   length-text              no text has more than three times the bytes of the longest input
-- Assumes nothing.
use mathlib.Core.Path.{◌≡◌, refl, ap, ◌∙◌}
use mathlib.Core.Bool.{true, false}
use mathlib.Core.List.{List, ◌++◌, flat_map}
use Prim.Native.Nat.{ℕ, ◌+◌, ◌-◌, ◌*◌, ◌^◌, ◌≤◌, ◌<◌}
use native.Mathlib.Omega.{arith}
use lib.Dec.{leb}
use lib.ListN.{length, take, drop, length-append}
use lib.Seq.{length-take-le}
use borrow.Author.Tests.{leb-true, le-leb, lt-leb}
use Rattle.words.proofs.Laws.Cases.{by_bool}
use Rattle.slices.specs.Over.{over}
use Rattle.slices.proofs.Laws.Over.{over_tail, length_over}
use Rattle.refusals.specs.declared.Refusal.{Refusal}
use Rattle.refusals.specs.declared.Refusal.TheVariants.{TooLong, NoRoom}
use Rattle.refusals.specs.Limits.{program_limit}
use Rattle.refusals.proofs.Laws.Limits.{file_size}
use Rattle.outer_header.specs.declared.Header.{Header}
use Rattle.std.specs.Prelude.{Result, Ok, Err}
use Rattle.outer_header.specs.Kdbx4Header.{header}
use Rattle.outer_header.specs.Frames.{frames, fields_end}
use Rattle.outer_header.proofs.Laws.Accepted.{header_stands}
use Rattle.outer_header.proofs.Frames.{header-fields_end, header-frames}
use Rattle.listing.specs.Listing.{hex_line, hex_lines, field_lines, refusal_line, text_of, text, answer, after}
use Rattle.listing.proofs.Laws.Lines.{length-hex_line, length-hex_lines}
use Rattle.listing.proofs.Laws.Frames.{length-frames}
use Rattle.listing.proofs.Laws.Places.{length_refusal}

-- what code leans on in an accepted header
pub record Listed (s : List ℕ) (h : Header) : Type 0 where
  pub end_le : fields_end (length s) s 12 ≤ length s
  pub length_is : 2 * h.length + length (frames s) ≡ length (hex_lines (frames s))
  pub few : length (frames s) ≤ h.length
  pub length_le : h.length ≤ length s
  pub small : h.length < 2 ^ 31

pub header-listed : (s : List ℕ) (h : Header) → header s ≡ Ok h → Listed s h
header-listed s h e =
    let x = header_stands s h e in
    let f = header-fields_end s h e in
    let l = length-hex_lines (frames s) in
    let t = x.length_le in
    let j = ap (λ (w : List ℕ). length w) (header-frames s h e) ∙ length-take-le h.length s t in
    let n = length-frames s in
    let z = file_size in
    record {
      end_le = omega arith;
      length_is = omega arith;
      few = omega arith;
      length_le = t;
      small = omega (arith, x.file_le);
    }

pub length_lines : (s : List ℕ) → 12 ≤ length s → length (hex_lines (frames s)) ≡ 25 + length (field_lines s)
unfolding frames hex_lines flat_map
length_lines s h =
    let a = length-take-le 12 s h in
    let l = length-hex_line (take 12 s) in
    let j = length-append (hex_line (take 12 s)) (field_lines s) in
    omega arith

-- the first frame's line over d
module _ (s d x : List ℕ) (h : 12 ≤ length s) (r : length (hex_lines (frames s)) ≤ length d)
    (e : x ≡ over (hex_line (take 12 s)) d) where
  length_first : length (hex_line (take 12 s)) ≡ 25
  length_first =
      let a = length-take-le 12 s h in
      let l = length-hex_line (take 12 s) in
      omega arith

  pub first_long : length x ≡ length d
  first_long =
      let f = length_first in
      let l = length_lines s h in
      ap (λ (w : List ℕ). length w) e ∙ length_over (hex_line (take 12 s)) d (omega arith)

  -- .. and the fields' lines over the tail behind it
  pub lines_joined : (ys : List ℕ) (k : ℕ) → k ≡ length x - 25 → ys ≡ over (field_lines s) (take k (drop 25 x))
      → take 25 x ++ (ys ++ drop k (drop 25 x)) ≡ over (hex_lines (frames s)) d
  unfolding frames hex_lines flat_map
  lines_joined ys k q g =
      let f = first_long in
      let l = length_lines s h in
      over_tail (hex_line (take 12 s)) (field_lines s) d x ys 25 k e length_first (omega arith) (omega arith) g

pub answer-wrote : (w d : List ℕ) (n : ℕ) → n ≡ length w → n ≤ length d → Ok n ≡ answer w d
unfolding answer
answer-wrote w d n e h =
    let l : length w ≤ length d = omega arith in
    rw (le-leb _ _ l) (ap (λ (k : ℕ). Ok k) e)

pub after_wrote : (w d x : List ℕ) → length w ≤ length d → x ≡ over w d → x ≡ after w d
unfolding after
after_wrote w d x h e = rw (le-leb _ _ h) e

pub answer-refused : (w d : List ℕ) → length d < length w → Err NoRoom ≡ answer w d
unfolding answer
answer-refused w d h = rw (lt-leb _ _ h)

pub after_refused : (w d : List ℕ) → length d < length w → d ≡ after w d
unfolding after
after_refused w d h = rw (lt-leb _ _ h)

-- the three texts
pub text-refused : (s : List ℕ) (r : Refusal) → leb (length s) program_limit ≡ true → header s ≡ Err r
    → text s ≡ refusal_line r
unfolding text text_of
text-refused s r t e = rw (t, e)

pub text-listed : (s : List ℕ) (h : Header) → leb (length s) program_limit ≡ true → header s ≡ Ok h
    → text s ≡ hex_lines (frames s)
unfolding text text_of
text-listed s h t e = rw (t, e)

pub text_long : (s : List ℕ) → leb (length s) program_limit ≡ false → text s ≡ refusal_line TooLong
unfolding text
text_long s t = rw t

length-text_of : (s : List ℕ) (r : Result Header Refusal) → header s ≡ r → length s ≤ program_limit
    → length (text_of s r) ≤ 3 * 65_536
unfolding text_of program_limit
length-text_of s (Ok h) e l = let x = header-listed s h e in omega (arith, x.length_is, x.few, x.length_le)
length-text_of s (Err r) e l = omega (arith, length_refusal r)

-- room for any text
pub length-text : (s : List ℕ) → length (text s) ≤ 3 * 65_536
unfolding text
length-text s =
    by_bool (leb (length s) program_limit)
    (λ t. rw t (length-text_of s (header s) refl (leb-true _ _ t)))
    (λ t. rw t (omega (arith, length_refusal TooLong)))
