-- The frames of an outer header: document 01, "Numbers to meet", the header listing program.
--
--   "each frame ..: first signatures and version, then each field's ID, size and value"    frames, field_frames
-- The definitions are about any bytes. Of an accepted header the frames joined are the header (proofs, Frames).
-- Not here: what the bytes of a frame say (Kdbx4Header); the text of a frame (crate listing).
-- Assumes nothing.
use Rattle.std.specs.Prelude.{cond, List, [], ◌∷◌, ℕ, zero, suc, ◌+◌, eqb, length, get_or, take, drop}
use Rattle.words.specs.Endian.{le}

-- how many bytes the field at a place has: ID, size and value
abbrev pub frame_length : List ℕ → ℕ → ℕ
frame_length s at = 5 + le 4 s (at + 1)

-- the fields from a place on, the first k of them, up to the end field
unfoldable pub field_frames : ℕ → List ℕ → ℕ → List (List ℕ)
field_frames zero s at = []
field_frames (suc k) s at =
    take (frame_length s at) (drop at s)
    ∷ cond (eqb (get_or s at 0) 0) [] (field_frames k s (at + frame_length s at))

unfoldable pub frames : List ℕ → List (List ℕ)
frames s = take 12 s ∷ field_frames (length s) s 12

-- where the last of these fields ends
unfoldable pub fields_end : ℕ → List ℕ → ℕ → ℕ
fields_end zero s at = at
fields_end (suc k) s at =
    cond (eqb (get_or s at 0) 0) (at + frame_length s at) (fields_end k s (at + frame_length s at))
