-- A file that both openers open, for a caller in C: what the writer writes (demand 2), and an accepted file in other
-- blocks (document 02, Item 13).
--
--   EndedInC    a list of `kdbx4_step` that took the closing block and handed over these bytes
--   OpensInC    `kdbx4_open`, and a list of `kdbx4_step` behind `kdbx4_start`
-- t is T, f the file, k are its keys, p is the place of its first block, b is the payload, m the number of its blocks
-- with the closing one.
-- Assumes nothing.
use Rattle.std.specs.Prelude.{◌≡◌, List, ℕ, ◌≤◌, length}
use Rattle.opening.specs.declared.Keys.{Keys}
use Rattle.opening.specs.Decryption.{opened}
use Rattle.opening.specs.Plain.{plain_start}
use Rattle.opening.specs.Runs.{with_room}
use Rattle.opening.specs.Agreement.{Roomy}
use Rattle.vault.specs.Vault.{start, begun, opened_in}
use Rattle.calls.specs.Agreement.{step_calls, handed_to_c, mark_left}

-- the mark of an ended opening is left, and the calls have handed over b
pub record EndedInC (t f rooms b : List ℕ) : Type 0 where
  pub mark_is : mark_left t f rooms ≡ 2
  pub bytes_are : handed_to_c t f rooms ≡ b

pub record OpensInC (t f : List ℕ) (k : Keys) (p : ℕ) (b : List ℕ) (m : ℕ) : Type 0 where
  -- `kdbx4_start` accepts it
  pub starts : start t f ≡ begun k p
  -- `kdbx4_open` gives the payload, given room
  pub whole : (n : ℕ) → length b ≤ n → opened_in t f n ≡ opened b
  -- any list of calls, refused ones included, that has as many calls with room as there are blocks
  pub stepwise : (rooms : List ℕ) → m ≤ with_room (step_calls t f rooms) → EndedInC t f rooms b
  -- one of as many calls that are each lent fifteen bytes more than the next block's size
  pub roomy : (rooms : List ℕ) → m ≤ length rooms → Roomy k f (plain_start p) rooms → EndedInC t f rooms b
