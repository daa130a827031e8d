-- The inner header of a payload, written: document 01, "Inner header".
--
--   "Its attachments come as a run of fields of ID 3, perhaps empty"           run_at, run_from, run, run_bytes
--   "each attachment by the reader's order": five bytes (2), ID (7), size (5),
--    value (2)                                                                 run_at
--   "The writer produces 1, 2, attachments in order, 0, then the document"     payload_bytes, payload_length
--   "Order: algorithm (9); each attachment by the reader's order (2, 7, 5);
--    payload length (1); 17"                                                   writing, sized
--   "A refusal .. changes no lent byte. A success changes only the bytes due"  written_bytes
--   document 02, Item 8: "from writers .. it is zero"                          verdict
-- A walk over the run counts its fields down from the run's length: a field has five bytes or more, so the count
-- never ends it (proofs, Laws.Run).
-- Not here: a field at a place, and the bytes of a field (crate fields); reading (InnerHeader).
-- Assumes nothing.
use Rattle.std.specs.Prelude.{false, cond, List, [], ◌∷◌, ◌++◌, ℕ, zero, suc, ◌+◌, eqb, leb, length, get_or, Result, Ok, Err}
use Rattle.words.specs.Endian.{le_bytes}
use Rattle.refusals.specs.declared.Refusal.{Refusal}
use Rattle.refusals.specs.declared.Refusal.TheVariants.{TooLong, NoRoom, Unlisted}
use Rattle.refusals.specs.Numbers.{Outcome}
use Rattle.refusals.specs.Numbers.{unplaced}
use Rattle.refusals.specs.Limits.{payload_limit}
use Rattle.fields.specs.declared.Place.{Place}
use Rattle.fields.specs.declared.SizeRule.TheVariants.{AtLeast}
use Rattle.fields.specs.Fields.{end_of, field_at, field_bytes}
use Rattle.inner_header.specs.InnerHeader.{algorithm_listed}
use Rattle.refusals.specs.Numbers.{Written}

-- the places of the run's values, in order; or why the run is refused
pub data Run : Type 0 where
  all_fine : List Place → Run
  refused : Refusal → Run

-- a field of the run: of ID 3 alone, and the flags byte at least
unfoldable pub run_at : List ℕ → ℕ → Result (ℕ × Place) Refusal
run_at s at = field_at (eqb (get_or s at 0) 3) false (AtLeast 1) s at

unfoldable pub before : Place → Run → Run
before p (all_fine l) = all_fine (p ∷ l)
before p (refused r) = refused r

-- the run's fields from `at` on, the first k of them, up to the run's end
unfoldable pub run_in : Result (ℕ × Place) Refusal → (ℕ → Run) → Run
run_in (Ok (id, p)) rest = before p (rest (end_of p))
run_in (Err r) rest = refused r

unfoldable pub run_from : ℕ → List ℕ → ℕ → Run
run_from zero s at = all_fine []
run_from (suc k) s at = cond (leb (length s) at) (all_fine []) (run_in (run_at s at) (run_from k s))

unfoldable pub run : List ℕ → Run
run s = run_from (length s) s 0

-- the run of attachments' values, each a flags byte and a content
abbrev pub run_bytes : List (List ℕ) → List ℕ
run_bytes [] = []
run_bytes (v ∷ vs) = field_bytes 3 v ++ run_bytes vs

unfoldable pub verdict : Run → Outcome
verdict (all_fine l) = Ok tt
verdict (refused r) = Err (unplaced r)

-- the fields 1 and 2, the run, the field 0, the document
unfoldable pub payload_bytes : ℕ → List ℕ → List ℕ → List ℕ → List ℕ
payload_bytes algorithm key attachments document =
    field_bytes 1 (le_bytes 4 algorithm) ++ field_bytes 2 key ++ attachments ++ field_bytes 0 [] ++ document

-- how many bytes that are, of a key, a run and a document of so many
abbrev pub payload_length : ℕ → ℕ → ℕ → ℕ
payload_length key attachments document = 19 + key + attachments + document

-- payload length (1), room (17)
unfoldable pub sized : ℕ → ℕ → Written
sized n room =
    cond (leb n payload_limit) (cond (leb n room) (Ok n) (Err NoRoom)) (Err TooLong)

unfoldable pub run_then : Outcome → Written → Written
run_then (Ok tt) next = next
run_then (Err r) next = Err r

-- algorithm (9), the run's fields, payload length (1), room (17)
unfoldable pub planned : ℕ → ℕ → List ℕ → ℕ → ℕ → Written
planned algorithm key attachments document room =
    cond (algorithm_listed algorithm)
    (run_then (verdict (run attachments)) (sized (payload_length key (length attachments) document) room))
    (Err (Unlisted 0))

unfoldable pub writing : ℕ → List ℕ → List ℕ → List ℕ → ℕ → Written
writing algorithm key attachments document room =
    planned algorithm (length key) attachments (length document) room

-- the bytes that the lent output then has at its front: none on a refusal
unfoldable pub due : Written → List ℕ → List ℕ
due (Ok n) w = w
due (Err r) w = []

unfoldable pub written_bytes : ℕ → List ℕ → List ℕ → List ℕ → ℕ → List ℕ
written_bytes algorithm key attachments document room =
    due (writing algorithm key attachments document room) (payload_bytes algorithm key attachments document)
