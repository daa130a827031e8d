-- A stretch covered twice, and a stretch cut in two: document 02, Item 9.
--
--   "Where Item 1 accepts a stretch, covering it twice at one position returns the bytes"    Returned, StateReturned
--   "Where Item 1 accepts a stretch .. cut in two it gives what it gives uncut"              CutInTwo, StateCutInTwo
-- Each is said of a stretch that is accepted into the lent output `out`: the theorems (proofs, Cuts) ask that its answer
-- is a count, and nothing else. The first of each is of the operation, straight from the inner key, the second of a
-- state; both say the answers, the bytes handed over and the lent output, as the contracts of `apply` have them.
-- Not here: lists of stretches (Stretches), the laws over the stream block (crate stream, proofs, Laws.Apply).
-- Assumes nothing.
use Rattle.std.specs.Prelude.{◌≡◌, List, ◌++◌, ℕ, ◌+◌, ◌≤◌, length, take, drop, Ok}
use Rattle.slices.specs.Over.{over}
use Rattle.inner_stream.specs.InnerStream.{applying, applied_bytes}
use Rattle.inner_stream.specs.State.{applied, handed}
use Rattle.inner_stream.specs.declared.InnerStream.{InnerStream}

-- the lent output behind a stretch
abbrev pub out_after : ℕ → List ℕ → ℕ → List ℕ → List ℕ → List ℕ
out_after algorithm key position s out = over (applied_bytes algorithm key position s (length out)) out

-- .. of a state
abbrev pub out_from : InnerStream → List ℕ → List ℕ → List ℕ
out_from from s out = over (handed from s (length out)) out

-- what the bytes s give at a position, covered there once more, with room for it
pub record Returned (algorithm : ℕ) (key : List ℕ) (position : ℕ) (s out : List ℕ) : Type 0 where
  pub accepted : (room : ℕ) → length s ≤ room
      → applying algorithm key position (applied_bytes algorithm key position s (length out)) room ≡ Ok (length s)
  pub bytes : (room : ℕ) → length s ≤ room
      → applied_bytes algorithm key position (applied_bytes algorithm key position s (length out)) room ≡ s
  pub lent : (back : List ℕ) → length s ≤ length back
      → out_after algorithm key position (take (length s) (out_after algorithm key position s out)) back ≡ over s back

-- the bytes a ++ b at a position; a there and b behind it, each with room for it, or b behind a in the same output
pub record CutInTwo (algorithm : ℕ) (key : List ℕ) (position : ℕ) (a b out : List ℕ) : Type 0 where
  pub first : (room : ℕ) → length a ≤ room → applying algorithm key position a room ≡ Ok (length a)
  pub second : (room : ℕ) → length b ≤ room → applying algorithm key (position + length a) b room ≡ Ok (length b)
  pub bytes : (m n : ℕ) → length a ≤ m → length b ≤ n
      → applied_bytes algorithm key position a m ++ applied_bytes algorithm key (position + length a) b n
      ≡ applied_bytes algorithm key position (a ++ b) (length out)
  pub lent : take (length a) (out_after algorithm key position a out)
      ++ out_after algorithm key (position + length a) b (drop (length a) (out_after algorithm key position a out))
      ≡ out_after algorithm key position (a ++ b) out

-- what the bytes s give from a state, covered from the same state: the next state is the same too
pub record StateReturned (from : InnerStream) (s out : List ℕ) : Type 0 where
  pub answer : (room : ℕ) → length s ≤ room → applied from (handed from s (length out)) room ≡ applied from s (length out)
  pub bytes : (room : ℕ) → length s ≤ room → handed from (handed from s (length out)) room ≡ s
  pub lent : (back : List ℕ) → length s ≤ length back
      → out_from from (take (length s) (out_from from s out)) back ≡ over s back

-- the bytes a ++ b from a state; a, and b from the state behind it: the state behind both is the same
pub record StateCutInTwo (from : InnerStream) (a b out : List ℕ) : Type 0 where
  pub first : (room : ℕ) → length a ≤ room → (applied from a room).written ≡ Ok (length a)
  pub second : (m n : ℕ) → length a ≤ m → length b ≤ n
      → applied (applied from a m).next b n ≡ record {
        written = Ok (length b);
        next = (applied from (a ++ b) (length out)).next;
      }
  pub bytes : (m n : ℕ) → length a ≤ m → length b ≤ n
      → handed from a m ++ handed (applied from a m).next b n ≡ handed from (a ++ b) (length out)
  pub lent : take (length a) (out_from from a out)
      ++ out_from (applied from a (length out)).next b (drop (length a) (out_from from a out))
      ≡ out_from from (a ++ b) out
