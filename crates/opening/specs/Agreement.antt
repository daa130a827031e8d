-- Demand 3: opening block by block agrees with opening whole. The claim for a file behind its header's tag, as one
-- record.
--
--   Closing           a refusal that closes an opening: neither 17 nor 19
--   Roomy             steps that are each lent fifteen bytes more than the next block's size
--   Taken             the blocks taken are the file's first, each with a tag that holds under its own number
--   Finished          a run's end
--   RunAgrees         what holds after every list of steps
--   OpenedStepwise    a list of steps that took the closing block and handed over these bytes
-- k are the keys, f is the file, p the place of its first block, `rooms` the lent lengths of the steps. A first block
-- stands behind a header: `ends` holds where p is not 0, since an empty file would have to end with no step.
-- Not here: the start, and the claim with it (crate vault, specs Agreement).
-- Assumes nothing.
use Rattle.std.specs.Prelude.{◌≡◌, true, ◌≢◌, List, [], ◌∷◌, ◌++◌, ℕ, zero, suc, ◌+◌, ◌≤◌, ◌<◌, length, Err}
use Rattle.words.specs.Endian.{le}
use Rattle.refusals.specs.declared.Refusal.{Refusal}
use Rattle.refusals.specs.declared.Refusal.TheVariants.{NoRoom, OutOfSequence}
use Rattle.refusals.specs.Limits.{file_limit}
use Rattle.refusals.specs.Numbers.{count_of}
use Rattle.block_stream.specs.Blocks.{holds, data_at}
use Rattle.opening.specs.declared.Keys.{Keys}
use Rattle.opening.specs.declared.Phase.TheVariants.{Closed, Ended}
use Rattle.opening.specs.declared.Opener.{Opener}
use Rattle.opening.specs.Decryption.{refused, opened, handed, given, payload}
use Rattle.opening.specs.Whole.{whole_in}
use Rattle.opening.specs.Runs.{Answer, answers, after, bytes_of, with_room, Each, Some}
use Rattle.opening.specs.Plain.{Plain, plain_start, plain_step}
use Rattle.opening.specs.Steps.{open_start, step_of}
use Rattle.opening.specs.Standing.{standing}

pub record Closing (r : Refusal) : Type 0 where
  pub no_room : r ≢ NoRoom
  pub no_step : r ≢ OutOfSequence

-- the size of the block at a place
abbrev pub size_at : List ℕ → ℕ → ℕ
size_at f p = le 4 f (p + 32)

-- the place of block j, the first standing at p
unfoldable pub place : List ℕ → ℕ → ℕ → ℕ
place f p zero = p
place f p (suc j) = place f p j + 36 + size_at f (place f p j)

-- the data of block j
abbrev pub block_data : List ℕ → ℕ → ℕ → List ℕ
block_data f p j = data_at f (place f p j) (size_at f (place f p j))

-- the ciphertext of the first j blocks
unfoldable pub first_data : List ℕ → ℕ → ℕ → List ℕ
first_data f p zero = []
first_data f p (suc j) = first_data f p j ++ block_data f p j

-- the first j blocks have tags that hold, each under its own number
abbrev pub Tagged : Keys → List ℕ → ℕ → ℕ → Type 0
Tagged k f p n = (j : ℕ) → j < n → holds k.base f j (place f p j) (size_at f (place f p j)) ≡ true

-- a list of the code's steps from the state of an accepted start: its answers, the bytes handed over, the last state
abbrev pub step_answers : Keys → List ℕ → ℕ → List ℕ → List Answer
step_answers k f p rooms = answers (step_of f) (open_start k p) rooms

abbrev pub handed_over : Keys → List ℕ → ℕ → List ℕ → List ℕ
handed_over k f p rooms = bytes_of (step_answers k f p rooms)

abbrev pub state_after : Keys → List ℕ → ℕ → List ℕ → Opener
state_after k f p rooms = after (step_of f) (open_start k p) rooms

-- the plain opener's answers, and the plain opener after them
abbrev pub plain_answers : Keys → List ℕ → ℕ → List ℕ → List Answer
plain_answers k f p rooms = answers (plain_step k f) (plain_start p) rooms

abbrev pub plain_after : Keys → List ℕ → ℕ → List ℕ → Plain
plain_after k f p rooms = after (plain_step k f) (plain_start p) rooms

unfoldable pub Roomy : Keys → List ℕ → Plain → List ℕ → Type 0
Roomy k f q [] = Unit {0}
Roomy k f q (n ∷ ns) = (size_at f q.at + 15 ≤ n) × Roomy k f (plain_step k f q n).next ns

pub record Taken (k : Keys) (f : List ℕ) (p : ℕ) (q : Plain) : Type 0 where
  pub at_is : q.at ≡ place f p q.number
  pub inside : q.at ≤ length f
  pub text_is : q.text ≡ first_data f p q.number
  pub tags : Tagged k f p q.number

-- a run's end: the closing block taken, or a refusal that closed it and is the whole opener's
pub data Finished (k : Keys) (f : List ℕ) (p : ℕ) (rooms : List ℕ) : Type 0 where
  by_closing : (plain_after k f p rooms).phase ≡ Ended → Finished k f p rooms
  by_refusal : (plain_after k f p rooms).phase ≡ Closed → (r : Refusal) → Closing r
      → Some (λ (a : Answer). a.written ≡ Err r) (step_answers k f p rooms)
      → ((n : ℕ) → whole_in k f p n ≡ refused r)
      → Finished k f p rooms

pub record RunAgrees (k : Keys) (f : List ℕ) (p : ℕ) (rooms : List ℕ) : Type 0 where
  -- each step's number, count and bytes are the plain opener's, and the state is what stands for its state
  pub answers_are : step_answers k f p rooms ≡ plain_answers k f p rooms
  pub state_is : state_after k f p rooms ≡ standing k (plain_after k f p rooms)
  pub phase_is : (state_after k f p rooms).phase ≡ (plain_after k f p rooms).phase
  -- the blocks taken are the file's first, each with a tag that holds under its own number
  pub blocks : Taken k f p (plain_after k f p rooms)
  -- until the closing block is taken, the bytes are the first of the definition's decryption, as many as said
  pub until_closing : (plain_after k f p rooms).phase ≢ Ended
      → handed_over k f p rooms ≡ given k (plain_after k f p rooms).text
  pub as_many : (plain_after k f p rooms).phase ≢ Ended
      → length (handed_over k f p rooms) ≡ handed k.cipher (length (plain_after k f p rooms).text)
  -- once it is taken they are the payload, and the whole opener gives the same, given room
  pub once_closed : (plain_after k f p rooms).phase ≡ Ended
      → payload k (plain_after k f p rooms).text ≡ opened (handed_over k f p rooms)
  pub whole_gives : (plain_after k f p rooms).phase ≡ Ended → (n : ℕ) → length (handed_over k f p rooms) ≤ n
      → whole_in k f p n ≡ opened (handed_over k f p rooms)
  -- a refusal that closed the opening is the whole opener's, whatever is lent to that
  pub refusals : Each (λ (a : Answer). (r : Refusal) → a.written ≡ Err r → Closing r
      → (n : ℕ) → whole_in k f p n ≡ refused r) (step_answers k f p rooms)
  -- as many steps with room as the file has bytes take the closing block or end in such a refusal
  pub ends : length f ≤ with_room (step_answers k f p rooms) → Finished k f p rooms
  pub room : Roomy k f (plain_start p) rooms
      → Each (λ (a : Answer). a.written ≢ Err NoRoom) (step_answers k f p rooms)
  -- "A step over s bytes hands over at most s + 15": the next step, whatever is lent to it, over the block at its place
  pub step_le : (n : ℕ) → count_of (step_of f (state_after k f p rooms) n).answer.written
      ≤ size_at f (plain_after k f p rooms).at + 15
  -- another file, under the same keys, with equal first data blocks, has handed over the same when just those are taken
  pub firsts : (g : List ℕ) (q : ℕ) (others : List ℕ) → length g ≤ file_limit → q ≤ length g
      → (plain_after k f p rooms).phase ≢ Ended → (plain_after k g q others).phase ≢ Ended
      → (plain_after k f p rooms).number ≡ (plain_after k g q others).number
      → ((j : ℕ) → j < (plain_after k f p rooms).number → block_data f p j ≡ block_data g q j)
      → handed_over k f p rooms ≡ handed_over k g q others

pub record OpenedStepwise (k : Keys) (f : List ℕ) (p : ℕ) (rooms b : List ℕ) : Type 0 where
  pub ended : (state_after k f p rooms).phase ≡ Ended
  pub bytes_are : handed_over k f p rooms ≡ b
