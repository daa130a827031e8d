-- A file that both openers open: the start accepts it, and whole and block by block it gives the same payload.
--
-- t is T, f the file, k are its keys, p is the place of its first block, b is the payload, m the number of its blocks
-- with the closing one.
-- Assumes nothing.
use Rattle.std.specs.Prelude.{◌≡◌, List, ℕ, ◌≤◌, length}
use Rattle.opening.specs.declared.Keys.{Keys}
use Rattle.opening.specs.Decryption.{opened}
use Rattle.opening.specs.Plain.{plain_start}
use Rattle.opening.specs.Runs.{with_room}
use Rattle.opening.specs.Agreement.{step_answers, Roomy, OpenedStepwise}
use Rattle.vault.specs.Vault.{start, begun, opened_in}

pub record BothOpen (t f : List ℕ) (k : Keys) (p : ℕ) (b : List ℕ) (m : ℕ) : Type 0 where
  -- the start accepts it
  pub starts : start t f ≡ begun k p
  -- the whole opener gives the payload, given room
  pub whole : (n : ℕ) → length b ≤ n → opened_in t f n ≡ opened b
  -- any list of steps, refused ones included, that has as many steps with room as there are blocks ends and has handed
  -- over the payload
  pub stepwise : (rooms : List ℕ) → m ≤ with_room (step_answers k f p rooms) → OpenedStepwise k f p rooms b
  -- so does one of as many steps that are each lent fifteen bytes more than the next block's size
  pub roomy : (rooms : List ℕ) → m ≤ length rooms → Roomy k f (plain_start p) rooms → OpenedStepwise k f p rooms b
