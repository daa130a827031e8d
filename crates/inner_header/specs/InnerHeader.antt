-- The inner header of a payload, read: document 01, "Inner header".
--
--   "0 end, size 0; 1 algorithm, Int32 ..; 2 key, any size; 3 attachment: ..
--    size at least 1, may recur"                                               listed, rule_of, repeated
--   "The same field order applies": five bytes (2), ID (7), repetition (6),
--    size (5), value (2)                                                       field_of, walk
--   "with 1 and 2 required ..; 9 follows 8", "algorithm, .. 2 or 3"            fault
--   "The payload's length (1) is checked first"                                opened
--   "The document is the rest, perhaps empty"                                  inner
--   "Attachments count from 0; an index past the last is 8, after all the
--    reader's numbers", "flags byte (any value) and content"                   attachment, shown
--   document 02, Item 8: "for 8 the end field"; "the first byte of the field"  end_field, fault, attachment
-- A walk counts its fields down from the payload's length: a field has five bytes or more, so the count never ends it
-- (proofs, Laws.Walk). A field that is absent has the place 0, where no field's value stands.
-- Not here: a field at a place (crate fields); what the code keeps of the fields (Tally); what is written (Writer).
-- Assumes nothing.
use Rattle.std.specs.Prelude.{Bool, false, cond, ◌||◌, List, [], ◌∷◌, ◌++◌, ℕ, zero, suc, ◌+◌, ◌-◌, eqb, leb, ltb, length, get_or, Result, Ok, Err}
use Rattle.words.specs.Endian.{le}
use Rattle.refusals.specs.declared.Refusal.{Refusal}
use Rattle.refusals.specs.declared.Refusal.TheVariants.{TooLong, CutShort, Absent, Unlisted}
use Rattle.refusals.specs.Numbers.{Outcome}
use Rattle.refusals.specs.Limits.{payload_limit}
use Rattle.fields.specs.declared.Place.{Place}
use Rattle.fields.specs.declared.SizeRule.{SizeRule}
use Rattle.fields.specs.declared.SizeRule.TheVariants.{Any, Exactly, AtLeast}
use Rattle.fields.specs.Fields.{end_of, begin, field_at, nowhere, given}
use Rattle.inner_header.specs.declared.Inner.{Inner}

-- the places of the fields' values: attachments in the payload's order
pub record Fields : Type 0 where
  pub algorithm : Place
  pub key : Place
  pub attachments : List Place

abbrev pub no_fields : Fields
no_fields = record { algorithm = nowhere; key = nowhere; attachments = [] }

-- the listed IDs are 0 to 3
abbrev pub listed : ℕ → Bool
listed id = leb id 3

-- the sizes: end 0, algorithm an Int32, key any, attachment at least the flags byte
unfoldable pub rule_of : ℕ → SizeRule
rule_of id = cond (eqb id 0) (Exactly 0) (cond (eqb id 1) (Exactly 4) (cond (eqb id 2) Any (AtLeast 1)))

-- whether a field that may not recur came before: the algorithm's and the key's places tell
unfoldable pub repeated : Place → Place → ℕ → Bool
repeated a k id = cond (eqb id 1) (given a) (cond (eqb id 2) (given k) false)

-- the field at a place, where the algorithm's and the key's fields before it are known
unfoldable pub field_of : Place → Place → List ℕ → ℕ → Result (ℕ × Place) Refusal
field_of a k s at = field_at (listed (get_or s at 0)) (repeated a k (get_or s at 0)) (rule_of (get_or s at 0)) s at

-- the fields with one more
unfoldable pub put : Fields → ℕ → Place → Fields
put f id p =
    record {
      algorithm = cond (eqb id 1) p f.algorithm;
      key = cond (eqb id 2) p f.key;
      attachments = cond (eqb id 3) (f.attachments ++ (p ∷ [])) f.attachments;
    }

-- all fields, and where the document starts; or why the payload is refused
pub data Walked : Type 0 where
  ended : Fields → ℕ → Walked
  refused : Refusal → Walked

-- the fields from `at` on, the first k of them, up to the end field
unfoldable pub walk_in : Fields → Result (ℕ × Place) Refusal → (Fields → ℕ → Walked) → Walked
walk_in f (Err r) rest = refused r
walk_in f (Ok (id, p)) rest = cond (eqb id 0) (ended f (end_of p)) (rest (put f id p) (end_of p))

unfoldable pub walk : ℕ → Fields → List ℕ → ℕ → Walked
walk zero f s at = refused (CutShort (length s))
walk (suc k) f s at = walk_in f (field_of f.algorithm f.key s at) (λ (g : Fields) (n : ℕ). walk k g s n)

abbrev pub algorithm_listed : ℕ → Bool
algorithm_listed n = eqb n 2 || eqb n 3

-- where the end field begins, which has no value, and behind which the document starts
abbrev pub end_field : ℕ → ℕ
end_field end = end - 5

-- algorithm and key present (8), then the algorithm listed (9)
unfoldable pub fault : List ℕ → Place → Place → ℕ → Outcome
fault s a k end =
    cond (given a)
    (cond (given k)
    (cond (algorithm_listed (le 4 s a.start)) (Ok tt) (Err (Unlisted (begin a))))
    (Err (Absent (end_field end))))
    (Err (Absent (end_field end)))

unfoldable pub judged_by : Outcome → Fields → ℕ → Walked
judged_by (Ok tt) f end = ended f end
judged_by (Err r) f end = refused r

unfoldable pub judged : List ℕ → Walked → Walked
judged s (ended f end) = judged_by (fault s f.algorithm f.key end) f end
judged s (refused r) = refused r

-- all the reader's checks, the payload's length first
unfoldable pub opened : List ℕ → Walked
opened s = cond (leb (length s) payload_limit) (judged s (walk (length s) no_fields s 0)) (refused TooLong)

-- what an accepted header says
unfoldable pub inner_of : List ℕ → Walked → Result Inner Refusal
inner_of s (refused r) = Err r
inner_of s (ended f end) =
    Ok (record {
      algorithm = le 4 s f.algorithm.start;
      key = f.key;
      attachments = length f.attachments;
      document = end;
    })

unfoldable pub inner : List ℕ → Result Inner Refusal
inner s = inner_of s (opened s)

-- an attachment's flags, and the place of its content behind them
unfoldable pub shown : List ℕ → Place → Result (ℕ × Place) Refusal
shown s p = Ok (get_or s p.start 0, record { start = p.start + 1; length = p.length - 1 })

unfoldable pub attachment_of : List ℕ → ℕ → Walked → Result (ℕ × Place) Refusal
attachment_of s i (refused r) = Err r
attachment_of s i (ended f end) =
    cond (ltb i (length f.attachments)) (shown s (get_or f.attachments i nowhere))
    (Err (Absent (end_field end)))

unfoldable pub attachment : List ℕ → ℕ → Result (ℕ × Place) Refusal
attachment s i = attachment_of s i (opened s)
