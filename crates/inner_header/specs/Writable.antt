-- What the inner header's writer takes: an algorithm, a key, attachments, a document and a lent length that document 01
-- does not refuse.
--
--   "Order: algorithm (9); each attachment by the reader's order (2, 7, 5); payload length (1); 17"     Writable
--   "3 attachment: flags byte (any value) and content, size at least 1, may recur"                      Flagged
-- An attachment is its value: the flags byte and the content. The run of fields is made of them, so that none is cut
-- short (2) and each has the ID 3 (7).
-- Assumes nothing.
use Rattle.std.specs.Prelude.{◌≡◌, true, List, [], ◌∷◌, ℕ, ◌≤◌, length}
use Rattle.refusals.specs.Limits.{payload_limit}
use Rattle.inner_header.specs.InnerHeader.{algorithm_listed}
use Rattle.inner_header.specs.Writer.{run_bytes, payload_length}

abbrev pub Flagged : List (List ℕ) → Type 0
Flagged [] = 0 ≤ 0
Flagged (v ∷ vs) = (1 ≤ length v) × Flagged vs

-- how many bytes the payload has
abbrev pub size_of : List ℕ → List (List ℕ) → List ℕ → ℕ
size_of key vs document = payload_length (length key) (length (run_bytes vs)) (length document)

pub record Writable (algorithm : ℕ) (key : List ℕ) (vs : List (List ℕ)) (document : List ℕ) (room : ℕ) : Type 0 where
  -- 9
  pub listed : algorithm_listed algorithm ≡ true
  -- 5
  pub flagged : Flagged vs
  -- 1
  pub payload_le : size_of key vs document ≤ payload_limit
  -- 17
  pub room_le : size_of key vs document ≤ room
