-- The search for repeated names in batches: a verdict that knows some names already.
--
--   judge         the walk from a place, with the numbers of the names met before it
--   met           some item from a place on has a name of given numbers
--   Filled        what is known when a batch of names is in the table
-- A walk has three answers and tells no place, so the order in which two repeats are met does not matter (proofs,
-- Laws.Judge: the verdict is the judgement that knows no name).
-- Not here: the verdict itself (Dictionary); a name's number (Order).
-- Assumes nothing.
use Rattle.std.specs.Prelude.{◌≡◌, cond, List, [], ◌∷◌, ℕ, zero, suc, ◌≤◌, ◌<◌, leb, length, Option, Some, None, Result, Ok, Err}
use Rattle.dictionary.specs.declared.Fault.TheVariants as fault
use Rattle.dictionary.specs.declared.Fault.{Fault}
use Rattle.dictionary.specs.declared.Item.{Item}
use Rattle.dictionary.specs.declared.repeats.Batch.{Batch}
use Rattle.dictionary.specs.declared.repeats.Batch.TheVariants as batch
use Rattle.dictionary.specs.Dictionary.{entry_at, name_of, next}
use Rattle.dictionary.specs.Order.{key_of, held, among, Rising}

-- .. where the item at `stop` is known to be repeated
unfoldable pub judge_in : ℕ → List ℕ → List ℕ → ℕ → Result (Option Item) ℕ → (List ℕ → ℕ → Result Unit Fault) → Result Unit Fault
judge_in stop s ks at (Ok (Some i)) rest =
    cond (leb stop at) (Err (fault.Repeated stop))
    (cond (among (key_of (name_of s i)) ks) (Err (fault.Repeated at)) (rest (key_of (name_of s i) ∷ ks) (next i)))
judge_in stop s ks at (Ok None) rest = Ok tt
judge_in stop s ks at (Err b) rest = Err (fault.Broken b)

-- the items from `at` on, the first n of them, where items of the numbers ks were met
unfoldable pub judge : ℕ → ℕ → List ℕ → List ℕ → ℕ → Result Unit Fault
judge stop zero s ks at = Err (fault.Broken 0)
judge stop (suc n) s ks at = judge_in stop s ks at (entry_at s at) (judge stop n s)

-- the first item from `at` on, and before `stop`, whose name is one of given numbers; `stop` where there is none
unfoldable pub met_in : ℕ → List ℕ → List ℕ → ℕ → Result (Option Item) ℕ → (ℕ → ℕ) → ℕ
met_in stop s ks at (Ok (Some i)) rest =
    cond (leb stop at) stop (cond (among (key_of (name_of s i)) ks) at (rest (next i)))
met_in stop s ks at (Ok None) rest = stop
met_in stop s ks at (Err b) rest = stop

unfoldable pub met : ℕ → ℕ → List ℕ → List ℕ → ℕ → ℕ
met stop zero s ks at = stop
met stop (suc n) s ks at = met_in stop s ks at (entry_at s at) (met stop n s ks)

-- n names from `from` on stand in the table t, in rising order, and the judgement goes on from `next` with them
pub record IsFull (s : List ℕ) (from stop : ℕ) (t : List ℕ) (n next : ℕ) : Type 0 where
  pub within : n ≤ length t
  pub rising : Rising (held s from n t)
  pub rest : judge stop (length s) s (held s from n t) next ≡ judge stop (length s) s [] from
  pub further : from < next
  pub next_le : next ≤ length s

-- the judgement, where the table takes all names; otherwise how it goes on
unfoldable pub Filled : List ℕ → ℕ → ℕ → List ℕ → Batch → Type 0
Filled s from stop t (batch.Done o) = o ≡ judge stop (length s) s [] from
Filled s from stop t (batch.Full n next) = IsFull s from stop t n next
