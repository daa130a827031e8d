-- The openers over a file in blocks of any sizes.
--
-- In order:
--   walk-blocks, whole_blocks    the whole opener takes them all, and has the ciphertext again
--   HasBlocks, opened-blocks     .. and whatever it opens is in blocks
--   run-blocks                   as many steps with room as there are blocks, the closing one too, leave nothing open
-- Not here: how a ciphertext is cut, and that its blocks stand in a file (crate cutting).
-- Assumes nothing.
use mathlib.Core.Path.{◌≡◌, refl, sym, ap, ◌∙◌}
use mathlib.Core.Logic.{◌≢◌}
use mathlib.Core.List.{List, [], ◌∷◌, ◌++◌, append_assoc, append-nil}
use Prim.Native.Nat.{ℕ, zero, suc, ◌+◌, ◌≤◌, ◌<◌}
use native.Mathlib.Omega.{arith}
use lib.Dec.{ltb}
use lib.ListN.{length, drop}
use borrow.Author.Tests.{le-ltb, ltb-false}
use Rattle.refusals.specs.declared.Refusal.TheVariants.{NoRoom, TrailingBytes}
use Rattle.block_stream.specs.Blocks.{judge, data_at}
use Rattle.block_stream.specs.declared.Block.{Block}
use Rattle.block_stream.specs.declared.Block.TheVariants as block
use Rattle.fips180.specs.Feeds.{joined}
use Rattle.cutting.specs.Cutting.{InBlocks}
use Rattle.cutting.proofs.Laws.Blocks.{length_in_blocks}
use Rattle.opening.specs.declared.Keys.{Keys}
use Rattle.opening.specs.declared.Phase.TheVariants.{Open, Closed, Ended}
use Rattle.opening.specs.Decryption.{Opened, refused, opened, handed, payload}
use Rattle.opening.specs.Whole.{close_of, walk_in, walk, whole}
use Rattle.opening.specs.Runs.{Reply, refuse, answers, after, with_room}
use Rattle.opening.specs.Plain.{Plain, plain, due, plain_close, plain_on, plain_in, plain_step}
use Rattle.opening.proofs.Laws.Replies.{never, cond-opened, hand_both}
use Rattle.opening.proofs.Laws.Judge.{length-data_at, judge_data, judge_closing}
use Rattle.opening.proofs.Laws.Runs.{run_stays}
use Rattle.opening.proofs.Laws.Walk.{walk-suc}

module _ (k : Keys) (f : List ℕ) where
  -- from block i at p on, behind the ciphertext t
  walk-blocks : (ds : List (List ℕ)) (n i p : ℕ) (t : List ℕ) → InBlocks k.base f i p ds → length ds ≤ n
      → walk (suc n) k f i p t ≡ payload k (t ++ joined ds)
  unfolding InBlocks joined walk_in close_of
  walk-blocks [] n i p t h l =
      walk-suc n k f i p t ∙ rw (h.0, le-ltb (p + 36) (length f) (omega (arith, h.1)), append-nil t)
  walk-blocks (d ∷ ds) zero i p t h l = absurd (omega arith)
  walk-blocks (d ∷ ds) (suc n) i p t h l =
      let a : walk (suc (suc n)) k f i p t ≡ walk (suc n) k f (suc i) (p + 36 + length d) (t ++ d) =
      walk-suc (suc n) k f i p t ∙ rw (h.0, h.1.0) in
      a ∙ walk-blocks ds n (suc i) (p + 36 + length d) (t ++ d) h.1.1 (omega arith)
      ∙ ap (λ (x : List ℕ). payload k x) (append_assoc t d (joined ds))

  pub whole_blocks : (ds : List (List ℕ)) (p : ℕ) → InBlocks k.base f 0 p ds → whole k f p ≡ payload k (joined ds)
  unfolding whole
  whole_blocks ds p h =
      walk-blocks ds (length f) 0 p [] h (omega (arith, length_in_blocks k.base f ds 0 p h))

-- some blocks from p on
pub record HasBlocks (base f : List ℕ) (i p : ℕ) : Type 0 where
  pub data_are : List (List ℕ)
  pub stand : InBlocks base f i p data_are

module _ (k : Keys) (f b : List ℕ) where
  walk_in-opened : (i p : ℕ) (t : List ℕ) (more : ℕ → Opened) (v : Block) → judge k.base f i p ≡ v
      → ((n : ℕ) → more n ≡ opened b → HasBlocks k.base f (suc i) (p + 36 + n))
      → walk_in v more (close_of k f p t) ≡ opened b
      → HasBlocks k.base f i p
  unfolding InBlocks walk_in close_of
  walk_in-opened i p t more (block.Refused r) e rest h = never (cc)
  walk_in-opened i p t more (block.Data n) e rest h =
      let r = rest n h in
      let l : length (data_at f p n) ≡ n = length-data_at (judge_data k.base f i p n e) in
      record {
        data_are = data_at f p n ∷ r.data_are;
        stand = (e ∙ ap block.Data (sym l), (ap (λ (x : ℕ). data_at f p x) l, rw l r.stand));
      }
  walk_in-opened i p t more block.Closing e rest h =
      let c = cond-opened (ltb (p + 36) (length f)) TrailingBytes (payload k t) b h in
      let l = ltb-false (p + 36) (length f) c.passed in
      let m = (judge_closing k.base f i p e).present in
      record { data_are = []; stand = (e, omega arith) }

  walk-opened : (m i p : ℕ) (t : List ℕ) → walk m k f i p t ≡ opened b → HasBlocks k.base f i p
  unfolding walk
  walk-opened zero i p t h = never (cc)
  walk-opened (suc m) i p t h =
      walk_in-opened i p t (λ (n : ℕ). walk m k f (suc i) (p + 36 + n) (t ++ data_at f p n)) (judge k.base f i p) refl
      (λ n. walk-opened m (suc i) (p + 36 + n) (t ++ data_at f p n)) h

  pub opened-blocks : (p : ℕ) → whole k f p ≡ opened b → HasBlocks k.base f 0 p
  unfolding whole
  opened-blocks p h = walk-opened (suc (length f)) 0 p [] h

plain_step_found : (k : Keys) (f : List ℕ) (i p : ℕ) (t : List ℕ) (n : ℕ) (v : Block) → judge k.base f i p ≡ v
    → plain_step k f (plain Open i p t) n ≡ plain_on v k f i p t n
unfolding plain_step plain_in plain
plain_step_found k f i p t n v e = ap (λ (x : Block). plain_on x k f i p t n) e

-- a reply, and the steps with ns lent behind it: where more than m of them have room, the opening is not open behind
-- them
abbrev Leaves : Keys → List ℕ → List ℕ → ℕ → Reply Plain → Type 0
Leaves k f ns m x =
    m < with_room (x.answer ∷ answers (plain_step k f) x.next ns) → (after (plain_step k f) x.next ns).phase ≢ Open

module _ (k : Keys) (f ns : List ℕ) where
  leaves_no_room : (m : ℕ) (q : Plain)
      → (m < with_room (answers (plain_step k f) q ns) → (after (plain_step k f) q ns).phase ≢ Open)
      → Leaves k f ns m (refuse NoRoom q)
  unfolding with_room refuse
  leaves_no_room m q h l = h l

  leaves_ended : (m : ℕ) (x : Reply Plain) → x.next.phase ≢ Open → Leaves k f ns m x
  leaves_ended m x h l e = h (sym (run_stays k f x.next ns h) ∙ e)

  -- the closing block
  leaves_closing : (i p : ℕ) (t : List ℕ) (n m : ℕ) (v : Opened)
      → (m < with_room (answers (plain_step k f) (plain Open i p t) ns)
      → (after (plain_step k f) (plain Open i p t) ns).phase ≢ Open)
      → Leaves k f ns m (plain_close v k i p t n)
  unfolding plain_close refuse plain
  leaves_closing i p t n m (refused r) h = leaves_ended m (refuse r (plain Closed i p t)) (λ e. never (cc))
  leaves_closing i p t n m (opened b) h =
      hand_both (Leaves k f ns m) n (drop (handed k.cipher (length t)) b) (plain Open i p t)
      (plain Ended (suc i) (p + 36) t) (leaves_no_room m (plain Open i p t) h) (leaves_ended m _ (λ e. never (cc)))

  -- a data block
  leaves_data : (i p : ℕ) (t : List ℕ) (n s m : ℕ)
      → (suc m < with_room (answers (plain_step k f) (plain Open i p t) ns)
      → (after (plain_step k f) (plain Open i p t) ns).phase ≢ Open)
      → (m < with_room (answers (plain_step k f) (plain Open (suc i) (p + 36 + s) (t ++ data_at f p s)) ns)
      → (after (plain_step k f) (plain Open (suc i) (p + 36 + s) (t ++ data_at f p s)) ns).phase ≢ Open)
      → Leaves k f ns (suc m) (plain_on (block.Data s) k f i p t n)
  unfolding plain_on with_room
  leaves_data i p t n s m same next =
      hand_both (Leaves k f ns (suc m)) n (due k t (data_at f p s)) (plain Open i p t)
      (plain Open (suc i) (p + 36 + s) (t ++ data_at f p s)) (leaves_no_room (suc m) (plain Open i p t) same)
      (λ l. next (omega arith))

  -- a step over a block that is found
  leaves_step : (i p : ℕ) (t : List ℕ) (n m : ℕ) (v : Block) → judge k.base f i p ≡ v
      → Leaves k f ns m (plain_on v k f i p t n)
      → Leaves k f ns m (plain_step k f (plain Open i p t) n)
  leaves_step i p t n m v e h =
      let a : plain_step k f (plain Open i p t) n ≡ plain_on v k f i p t n = plain_step_found k f i p t n v e in
      rw a h

-- the plain opener at block i
pub run-blocks : (k : Keys) (f rooms : List ℕ) (ds : List (List ℕ)) (i p : ℕ) (t : List ℕ)
    → InBlocks k.base f i p ds
    → length ds < with_room (answers (plain_step k f) (plain Open i p t) rooms)
    → (after (plain_step k f) (plain Open i p t) rooms).phase ≢ Open
unfolding answers after with_room InBlocks plain_on
run-blocks k f [] ds i p t h = λ l. absurd (omega arith)
run-blocks k f (n ∷ ns) [] i p t h =
    leaves_step k f ns i p t n 0 block.Closing h.0
    (leaves_closing k f ns i p t n 0 (close_of k f p t) (run-blocks k f ns [] i p t h))
run-blocks k f (n ∷ ns) (d ∷ ds) i p t h =
    leaves_step k f ns i p t n (suc (length ds)) (block.Data (length d)) h.0
    (leaves_data k f ns i p t n (length d) (length ds) (run-blocks k f ns (d ∷ ds) i p t h)
    (run-blocks k f ns ds (suc i) (p + 36 + length d) (t ++ data_at f p (length d)) h.1.1))
