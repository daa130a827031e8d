-- Worked payloads, as theorems by computation.
--
-- In order: a payload with attachments before the algorithm; the same cut short at its end field; ties in the order
-- of the checks; a payload that is written.
-- Assumes nothing.
use mathlib.Core.Path.{◌≡◌, refl}
use mathlib.Core.List.{List, [], ◌∷◌, ◌++◌}
use Prim.Native.Nat.{ℕ}
use Rattle.words.specs.Endian.{le, le_bytes}
use Rattle.words.specs.Size.{int32}
use Rattle.refusals.specs.Limits.{payload_limit}
use Rattle.refusals.specs.declared.Refusal.TheVariants.{CutShort, WrongSize, Repeated, UnknownField, Absent, Unlisted}
use Rattle.fields.specs.Fields.{fits, value_at, field_at, field_bytes}
use Rattle.std.specs.Prelude.{Ok, Err}
use Rattle.inner_header.specs.InnerHeader.{
  rule_of,
  repeated,
  field_of,
  put,
  walk_in,
  walk,
  fault,
  judged_by,
  judged,
  opened,
  inner_of,
  inner,
  shown,
  attachment_of,
  attachment,
}
use Rattle.inner_header.specs.Writer.{
  run_at,
  before,
  run_in,
  run_from,
  run,
  verdict,
  sized,
  run_then,
  planned,
  writing,
}

-- an attachment with the flags 1 and the content AA BB, one with no content, then algorithm and key
abbrev front : List ℕ
front =
    field_bytes 3 (0x01 ∷ 0xAA ∷ 0xBB ∷ []) ++ field_bytes 3 (0x00 ∷ []) ++ field_bytes 1 (le_bytes 4 3)
    ++ field_bytes 2 (0xCC ∷ [])

abbrev payload : List ℕ
payload = front ++ field_bytes 0 [] ++ (0x3C ∷ 0x3E ∷ [])

inner-payload : inner payload
    ≡ Ok (record { algorithm = 3; key = record { start = 28; length = 1 }; attachments = 2; document = 34 })
unfolding inner inner_of opened judged judged_by fault walk walk_in put field_of repeated rule_of field_at value_at fits
    int32 le le_bytes field_bytes payload_limit
inner-payload = refl

attachment_0 : attachment payload 0 ≡ Ok (1, record { start = 6; length = 2 })
unfolding attachment attachment_of shown opened judged judged_by fault walk walk_in put field_of repeated rule_of field_at
    value_at fits int32 le le_bytes field_bytes payload_limit
attachment_0 = refl

attachment_1 : attachment payload 1 ≡ Ok (0, record { start = 14; length = 0 })
unfolding attachment attachment_of shown opened judged judged_by fault walk walk_in put field_of repeated rule_of field_at
    value_at fits int32 le le_bytes field_bytes payload_limit
attachment_1 = refl

attachment_2 : attachment payload 2 ≡ Err (Absent 29)
unfolding attachment attachment_of shown opened judged judged_by fault walk walk_in put field_of repeated rule_of field_at
    value_at fits int32 le le_bytes field_bytes payload_limit
attachment_2 = refl

-- no end field
inner_cut : inner front ≡ Err (CutShort 29)
unfolding inner inner_of opened judged judged_by fault walk walk_in put field_of repeated rule_of field_at value_at fits
    int32 le le_bytes field_bytes payload_limit
inner_cut = refl

-- a repeated algorithm of a wrong size: 6 comes before 5
inner-repeated : inner (field_bytes 1 (le_bytes 4 2) ++ field_bytes 1 []) ≡ Err (Repeated 9)
unfolding inner inner_of opened judged judged_by fault walk walk_in put field_of repeated rule_of field_at value_at fits
    int32 le le_bytes field_bytes payload_limit
inner-repeated = refl

-- an end field of size 1: 5
inner_end : inner (field_bytes 0 (0x00 ∷ [])) ≡ Err (WrongSize 0)
unfolding inner inner_of opened judged judged_by fault walk walk_in put field_of repeated rule_of field_at value_at fits
    int32 le le_bytes field_bytes payload_limit
inner_end = refl

-- algorithm 1 and no key: 8 comes before 9
inner_absent : inner (field_bytes 1 (le_bytes 4 1) ++ field_bytes 0 []) ≡ Err (Absent 9)
unfolding inner inner_of opened judged judged_by fault walk walk_in put field_of repeated rule_of field_at value_at fits
    int32 le le_bytes field_bytes payload_limit
inner_absent = refl

-- .. and with a key 9
inner-unlisted : inner (field_bytes 1 (le_bytes 4 1) ++ field_bytes 2 [] ++ field_bytes 0 []) ≡ Err (Unlisted 0)
unfolding inner inner_of opened judged judged_by fault walk walk_in put field_of repeated rule_of field_at value_at fits
    int32 le le_bytes field_bytes payload_limit
inner-unlisted = refl

-- a run with a field of ID 2: 7
writing-key : writing 2 [] (field_bytes 2 (0x00 ∷ [])) [] 100 ≡ Err (UnknownField 0)
unfolding writing planned run_then verdict run run_from run_in before run_at field_at value_at fits int32 le le_bytes
    field_bytes
writing-key = refl

-- the smallest payload has 19 bytes
writing_least : writing 2 [] [] [] 19 ≡ Ok 19
unfolding writing planned run_then verdict run run_from sized payload_limit
writing_least = refl
