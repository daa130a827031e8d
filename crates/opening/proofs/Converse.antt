-- The other way round, for demand 2 and Item 13: where the whole opener opens a file in blocks, so does every list with as
-- many steps with room as the file has blocks, the closing one included. Whatever it opens is in blocks (Laws.Cutting,
-- opened-blocks).
--
-- In order: roomed-opened, whole_in_same (what is opened does not depend on the room), opened_steps (the theorem),
-- opened_stepwise (the same, where each step is lent fifteen bytes more than the next block's size).
-- Not here: the start (crate vault).
-- Assumes nothing.
use mathlib.Core.Path.{◌≡◌, ◌∙◌}
use mathlib.Core.List.{List, []}
use Prim.Native.Nat.{ℕ, suc, ◌≤◌, ◌<◌}
use native.Mathlib.Omega.{arith}
use lib.Dec.{ltb}
use lib.ListN.{length}
use Rattle.words.proofs.Laws.Cases.{by_bool}
use Rattle.refusals.specs.Limits.{file_limit}
use Rattle.cutting.specs.Cutting.{InBlocks}
use Rattle.opening.specs.declared.Keys.{Keys}
use Rattle.opening.specs.declared.Phase.TheVariants.{Ended}
use Rattle.opening.specs.Decryption.{Opened, refused, opened}
use Rattle.opening.specs.Whole.{whole, roomed, whole_in}
use Rattle.opening.specs.Runs.{with_room}
use Rattle.opening.specs.Plain.{plain_start}
use Rattle.opening.specs.Agreement.{
  step_answers,
  handed_over,
  plain_after,
  Roomy,
  Finished,
  by_closing,
  by_refusal,
  RunAgrees,
  OpenedStepwise,
}
use Rattle.opening.proofs.Laws.Replies.{never}
use Rattle.opening.proofs.Laws.Cutting.{run-blocks}
use Rattle.opening.proofs.Theorem.{finished, agrees, all_room}

pub roomed-opened : (n : ℕ) (v : Opened) (b : List ℕ) → roomed n v ≡ opened b → v ≡ opened b
unfolding roomed
roomed-opened n (refused r) b h = never (cc)
roomed-opened n (opened d) b h =
    by_bool (ltb n (length d)) (λ t. let e = rw t at h in never (cc e))
    (λ t. let e : opened d ≡ opened b = rw t at h in e)

whole_in_same : (k : Keys) (f : List ℕ) (p n m : ℕ) (a b : List ℕ) → whole_in k f p n ≡ opened a
    → whole_in k f p m ≡ opened b
    → a ≡ b
unfolding whole_in
whole_in_same k f p n m a b g h =
    let d : whole k f p ≡ opened a = roomed-opened n (whole k f p) a g in
    let e : whole k f p ≡ opened b = roomed-opened m (whole k f p) b h in
    cc

finished_ended : (k : Keys) (f : List ℕ) (p n : ℕ) (rooms b : List ℕ) → whole_in k f p n ≡ opened b
    → Finished k f p rooms
    → (plain_after k f p rooms).phase ≡ Ended
finished_ended k f p n rooms b h (by_closing e) = e
finished_ended k f p n rooms b h (by_refusal e r c s g) = let z = g n in never (cc)

-- a file in the blocks of ds
module _ (k : Keys) (w : length k.nonce ≡ 16) (f : List ℕ) (p : ℕ) (l : length f ≤ file_limit) (o : 0 < p)
    (i : p ≤ length f) (ds : List (List ℕ)) (stand : InBlocks k.base f 0 p ds) (n : ℕ) (b : List ℕ)
    (h : whole_in k f p n ≡ opened b) where
  -- more steps with room than data blocks
  pub opened_steps : (rooms : List ℕ) → length ds < with_room (step_answers k f p rooms) → OpenedStepwise k f p rooms b
  unfolding plain_start
  opened_steps rooms many =
      let r : RunAgrees k f p rooms = agrees k w f p l o i rooms in
      let c : List ℕ = handed_over k f p rooms in
      let e = finished_ended k f p n rooms b h
      (finished k w f l p i rooms (run-blocks k f rooms ds 0 p [] stand (rw r.answers_are at many))) in
      let g : whole_in k f p (length c) ≡ opened c = r.whole_gives e (length c) (omega arith) in
      record { ended = r.phase_is ∙ e; bytes_are = whole_in_same k f p (length c) n c b g h }

  -- more steps than data blocks, each with fifteen bytes more than the next block's size
  pub opened_stepwise : (rooms : List ℕ) → length ds < length rooms → Roomy k f (plain_start p) rooms
      → OpenedStepwise k f p rooms b
  opened_stepwise rooms many roomy =
      opened_steps rooms
      (all_room k f p rooms (suc (length ds)) many ((agrees k w f p l o i rooms).room roomy))
