-- The text of the header listing program: document 01, "Numbers to meet".
--
--   ".. as a line of upper-case hexadecimal"                       hex_line
--   "if the header is accepted, prints each frame .."              hex_lines, frame_lines, field_lines, text_of
--   "Otherwise one line, R and two decimal digits"                 number_line, refusal_line, text_of
--   document 02, Item 8: "prints it after the number, one space
--   between, in decimal (1 has none)"                              placed_line, refusal_line
--   "a PC program's input: 65,536 bytes", else R01                 text
--   "the lent output is shorter than the bytes due" (17)           answer, after
-- Every line ends with a line feed, and nothing is printed for bytes behind the header.
-- Not here: the frames (crate outer_header, Frames), hexadecimal digits (crate hexadecimal, Rfc4648), decimal (crate decimal).
-- Assumes nothing.
use Rattle.std.specs.Prelude.{cond, ℕ, ◌+◌, ◌/◌, ◌%◌, eqb, leb, length, Result, Ok, Err}
use mathlib.Core.List.{List, [], ◌∷◌, ◌++◌, flat_map}
use Rattle.slices.specs.Over.{over}
use Rattle.hexadecimal.specs.Rfc4648.{encode}
use Rattle.refusals.specs.declared.Refusal.{Refusal}
use Rattle.refusals.specs.declared.Refusal.TheVariants.{TooLong, NoRoom}
use Rattle.refusals.specs.Numbers.{Written}
use Rattle.refusals.specs.Numbers.{of_refusal, place_of}
use Rattle.refusals.specs.Limits.{program_limit}
use Rattle.decimal.specs.Decimal.{decimal}
use Rattle.outer_header.specs.declared.Header.{Header}
use Rattle.outer_header.specs.Kdbx4Header.{header}
use Rattle.outer_header.specs.Frames.{field_frames, frames}

unfoldable pub hex_line : List ℕ → List ℕ
hex_line frame = encode frame ++ (0x0A ∷ [])

unfoldable pub hex_lines : List (List ℕ) → List ℕ
hex_lines fs = flat_map hex_line fs

-- the lines of all frames, and of the fields alone
abbrev pub frame_lines : List ℕ → List ℕ
frame_lines s = hex_lines (frames s)

abbrev pub field_lines : List ℕ → List ℕ
field_lines s = hex_lines (field_frames (length s) s 12)

-- R, the tens and the ones
abbrev pub number_line : ℕ → List ℕ
number_line n = 0x52 ∷ (0x30 + n / 10) ∷ (0x30 + n % 10) ∷ 0x0A ∷ []

-- .. and behind one space the digits of a place
abbrev pub placed_line : ℕ → List ℕ → List ℕ
placed_line n w = 0x52 ∷ (0x30 + n / 10) ∷ (0x30 + n % 10) ∷ 0x20 ∷ (w ++ (0x0A ∷ []))

unfoldable pub refusal_line : Refusal → List ℕ
refusal_line r = cond (eqb (of_refusal r) 1) (number_line (of_refusal r)) (placed_line (of_refusal r) (decimal (place_of r)))

unfoldable pub text_of : List ℕ → Result Header Refusal → List ℕ
text_of s (Ok h) = frame_lines s
text_of s (Err r) = refusal_line r

-- what the program prints for an input
unfoldable pub text : List ℕ → List ℕ
text s = cond (leb (length s) program_limit) (text_of s (header s)) (refusal_line TooLong)

-- the answer of writing w into d, and d afterwards: all of w, or nothing
unfoldable pub answer : List ℕ → List ℕ → Written
answer w d = cond (leb (length w) (length d)) (Ok (length w)) (Err NoRoom)

unfoldable pub after : List ℕ → List ℕ → List ℕ
after w d = cond (leb (length w) (length d)) (over w d) d
