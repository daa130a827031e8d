-- A field of a header: document 01, "Header".
--
--   "fields: ID (one byte), size (Int32), value"                           field_bytes
--   "Each field in file order: its five bytes present (2), ID listed (7),
--    not repeated (6), size not negative and right for a fixed field (5),
--    value present (2)"                                                    field_at, value_at, fits
-- Both headers have this order, with their own IDs, repetitions and sizes: `listed`, `repeated` and `rule`.
--   document 02, Item 8: "for 2 its length; .. otherwise the first byte of
--    the field"                                                            field_at, value_at, begin
-- Places of values: bytes_at, end_of; of an absent field: nowhere, given.
-- Assumes nothing.
use Rattle.std.specs.Prelude.{Bool, true, cond, not, List, ◌∷◌, ◌++◌, ℕ, ◌+◌, ◌-◌, eqb, leb, length, get_or, take, drop, Option, Some, None, Result, Ok, Err}
use Rattle.words.specs.Endian.{le, le_bytes}
use Rattle.words.specs.Size.{int32}
use Rattle.refusals.specs.declared.Refusal.TheVariants.{CutShort, WrongSize, Repeated, UnknownField}
use Rattle.fields.specs.declared.Place.{Place}
use Rattle.fields.specs.declared.SizeRule.{SizeRule}
use Rattle.fields.specs.declared.SizeRule.TheVariants.{Any, Exactly, AtLeast}
use Rattle.refusals.specs.declared.Refusal.{Refusal}

-- the bytes of a place
abbrev pub bytes_at : List ℕ → Place → List ℕ
bytes_at s p = take p.length (drop p.start s)

-- where the byte behind a place stands
abbrev pub end_of : Place → ℕ
end_of p = p.start + p.length

-- the place of a field that is absent, and whether a field is there: no field's value stands at 0
abbrev pub nowhere : Place
nowhere = record { start = 0; length = 0 }

abbrev pub given : Place → Bool
given p = not (eqb p.start 0)

-- where the field of a value begins (document 02, Item 8: "the first byte of the field")
abbrev pub begin : Place → ℕ
begin p = p.start - 5

unfoldable pub fits : SizeRule → ℕ → Bool
fits Any n = true
fits (Exactly k) n = eqb n k
fits (AtLeast k) n = leb k n

-- size not negative and right for a fixed field (5), value present (2)
unfoldable pub value_at : SizeRule → List ℕ → ℕ → Option ℕ → Result (ℕ × Place) Refusal
value_at rule s at None = Err (WrongSize at)
value_at rule s at (Some n) =
    cond (fits rule n)
    (cond (leb n (length s - (at + 5)))
    (Ok (get_or s at 0, record { start = at + 5; length = n }))
    (Err (CutShort (length s))))
    (Err (WrongSize at))

-- five bytes present (2), ID listed (7), not repeated (6)
unfoldable pub field_at : Bool → Bool → SizeRule → List ℕ → ℕ → Result (ℕ × Place) Refusal
field_at listed repeated rule s at =
    cond (leb (at + 5) (length s))
    (cond listed
    (cond repeated (Err (Repeated at)) (value_at rule s at (int32 (le 4 s (at + 1)))))
    (Err (UnknownField at)))
    (Err (CutShort (length s)))

-- the bytes of a field that is written
unfoldable pub field_bytes : ℕ → List ℕ → List ℕ
field_bytes id value = id ∷ le_bytes 4 (length value) ++ value
