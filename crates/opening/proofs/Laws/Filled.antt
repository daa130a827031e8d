-- While the plain opener is open, it has taken no more blocks than bytes of ciphertext, and none of the one where none of
-- the other.
--
-- In order:
--   Filled, FilledAt    what holds of an open state
--   filled-start        the first state
--   filled_step         a step
-- Not here: the blocks taken (Taken).
-- Assumes nothing.
use mathlib.Core.Path.{◌≡◌, refl}
use mathlib.Core.List.{List, ◌++◌}
use Prim.Native.Nat.{ℕ, suc, ◌+◌, ◌≤◌}
use native.Mathlib.Omega.{arith}
use lib.ListN.{length, drop, length-append}
use Rattle.block_stream.specs.Blocks.{judge, data_at}
use Rattle.block_stream.specs.declared.Block.{Block}
use Rattle.block_stream.specs.declared.Block.TheVariants as block
use Rattle.opening.specs.declared.Keys.{Keys}
use Rattle.opening.specs.declared.Phase.{Phase}
use Rattle.opening.specs.declared.Phase.TheVariants.{Open, Closed, Ended}
use Rattle.opening.specs.Decryption.{Opened, refused, opened, handed}
use Rattle.opening.specs.Whole.{close_of}
use Rattle.opening.specs.Runs.{Reply, refuse}
use Rattle.opening.specs.Plain.{Plain, plain, plain_start, due, plain_close, plain_on, plain_in}
use Rattle.opening.proofs.Laws.Replies.{hand_both}
use Rattle.opening.proofs.Laws.Judge.{length-data_at, judge_data, judge_some}

abbrev pub Filled : Phase → ℕ → List ℕ → Type 0
Filled Open i t = (i ≤ length t) × (i ≡ 0 → length t ≡ 0)
Filled Closed i t = Unit {0}
Filled Ended i t = Unit {0}

abbrev pub FilledAt : Plain → Type 0
FilledAt q = Filled q.phase q.number q.text

pub filled-start : (p : ℕ) → FilledAt (plain_start p)
unfolding plain_start plain
filled-start p = (omega arith, λ e. refl)

filled_close : (v : Opened) (k : Keys) (i p : ℕ) (t : List ℕ) (n : ℕ) → Filled Open i t
    → FilledAt (plain_close v k i p t n).next
unfolding plain_close plain refuse
filled_close (refused r) k i p t n h = tt
filled_close (opened b) k i p t n h =
    hand_both (λ (x : Reply Plain). FilledAt x.next) n (drop (handed k.cipher (length t)) b) (plain Open i p t)
    (plain Ended (suc i) (p + 36) t) h tt

filled_on : (x : Block) (k : Keys) (f : List ℕ) (i p : ℕ) (t : List ℕ) (n : ℕ) → judge k.base f i p ≡ x
    → Filled Open i t → FilledAt (plain_on x k f i p t n).next
unfolding plain_on plain refuse
filled_on (block.Refused r) k f i p t n e h = tt
filled_on (block.Data s) k f i p t n e h =
    let d : length (data_at f p s) ≡ s = length-data_at (judge_data k.base f i p s e) in
    let z = judge_some k.base f i p s e in
    let l = length-append t (data_at f p s) in
    let a = h.0 in
    hand_both (λ (x : Reply Plain). FilledAt x.next) n (due k t (data_at f p s)) (plain Open i p t)
    (plain Open (suc i) (p + 36 + s) (t ++ data_at f p s)) h
    (omega (arith, d, l, z, a), λ y. absurd (omega (arith, y)))
filled_on block.Closing k f i p t n e h = filled_close (close_of k f p t) k i p t n h

pub filled_step : (m : Phase) (k : Keys) (f : List ℕ) (i p : ℕ) (t : List ℕ) (n : ℕ) → Filled m i t
    → FilledAt (plain_in m k f i p t n).next
unfolding plain_in plain refuse
filled_step Open k f i p t n h = filled_on (judge k.base f i p) k f i p t n refl h
filled_step Closed k f i p t n h = tt
filled_step Ended k f i p t n h = tt
