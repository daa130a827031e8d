-- The code's state stands for the plain opener's: a step from the one is the step from the other.
--
-- In order:
--   standing_reply            the plain opener's answer, and the state that stands for its next
--   open_start-standing       the first states
--   close_by-standing         the closing block
--   taking-standing          a data block
--   step_of-standing          one step
--   phase_standing           the phase is the plain opener's
-- Not here: the ciphers' part of it (Blocks); lists of steps (Runs).
-- Assumes nothing.
use mathlib.Core.Path.{◌≡◌, refl, sym, ap, ◌∙◌}
use mathlib.Core.Bool.{true, cond}
use mathlib.Core.List.{List, ◌++◌}
use Prim.Native.Nat.{ℕ, suc, ◌+◌}
use lib.Dec.{ltb}
use lib.ListN.{length, drop, length-append}
use Rattle.words.proofs.Laws.Cases.{by_bool}
use Rattle.refusals.specs.declared.Refusal.TheVariants.{TrailingBytes}
use Rattle.block_stream.specs.Blocks.{judge, data_at}
use Rattle.block_stream.specs.declared.Block.{Block}
use Rattle.block_stream.specs.declared.Block.TheVariants as block
use Rattle.opening.specs.declared.Keys.{Keys}
use Rattle.opening.specs.declared.Phase.{Phase}
use Rattle.opening.specs.declared.Phase.TheVariants.{Open, Closed, Ended}
use Rattle.opening.specs.declared.Opener.{Opener}
use Rattle.opening.specs.Decryption.{Opened, refused, opened, handed, given}
use Rattle.opening.specs.Whole.{close_of}
use Rattle.opening.specs.Runs.{Reply, refuse, hand}
use Rattle.opening.specs.Plain.{Plain, plain, plain_start, due, plain_close, plain_on, plain_in}
use Rattle.opening.specs.Steps.{
  opener,
  blank,
  open_start,
  sound,
  mark_of,
  last_by,
  close_by,
  taking,
  step_on,
  step_in,
  step_of,
}
use Rattle.opening.specs.Standing.{prev_of, held_of, standing_in, standing}
use Rattle.opening.proofs.Laws.Judge.{judge_data, length-data_at}
use Rattle.opening.proofs.Laws.Strip.{dropped}
use Rattle.opening.proofs.Laws.Blocks.{
  bytes_by-standing,
  prev_by-standing,
  held_by-standing,
  last_by-standing,
  first_prev-standing,
  first_held_standing,
}

unfoldable pub standing_reply : Keys → Reply Plain → Reply Opener
standing_reply k r = record { answer = r.answer; next = standing k r.next }

hand-standing : (k : Keys) (n : ℕ) (b : List ℕ) (q x : Plain)
    → standing_reply k (hand n b q x) ≡ hand n b (standing k q) (standing k x)
unfolding standing_reply hand refuse
hand-standing k n b q x = by_bool (ltb n (length b)) (λ t. rw t) (λ t. rw t)

pub open_start-standing : (k : Keys) (p : ℕ) → open_start k p ≡ standing k (plain_start p)
unfolding open_start standing standing_in plain_start plain opener
open_start-standing k p = rw (first_prev-standing k.cipher k.nonce, ← first_held_standing k.cipher)

-- v is the whole outcome, u what the closing block adds
close_by-standing : (k : Keys) (u v : Opened) (i p : ℕ) (t : List ℕ) (n : ℕ)
    → u ≡ dropped (handed k.cipher (length t)) v
    → close_by u (standing_in Open k i p t) n ≡ standing_reply k (plain_close v k i p t n)
unfolding dropped close_by plain_close standing_reply refuse standing standing_in plain
close_by-standing k u (refused r) i p t n e = rw e
close_by-standing k u (opened b) i p t n e =
    let rest : List ℕ = drop (handed k.cipher (length t)) b in
    rw e (sym (hand-standing k n rest (plain Open i p t) (plain Ended (suc i) (p + 36) t)))

close_of-standing : (k : Keys) → length k.nonce ≡ 16 → (f : List ℕ) (p : ℕ) (t : List ℕ)
    → cond (ltb (p + 36) (length f)) (refused TrailingBytes)
    (last_by k.cipher k (length t) (prev_of k.cipher k.nonce t) (held_of k.cipher t))
    ≡ dropped (handed k.cipher (length t)) (close_of k f p t)
unfolding close_of dropped
close_of-standing k w f p t =
    by_bool (ltb (p + 36) (length f)) (λ a. rw a) (λ a. rw (a, last_by-standing k.cipher k w t))

taking-standing : (k : Keys) (i p : ℕ) (t d : List ℕ)
    → taking (standing_in Open k i p t) d ≡ standing_in Open k (suc i) (p + 36 + length d) (t ++ d)
unfolding taking standing_in opener
taking-standing k i p t d =
    rw (prev_by-standing k.cipher k.nonce t d, held_by-standing k.cipher t d, ← length-append t d)

-- a data block whose data is d
step_on_data : (k : Keys) → length k.nonce ≡ 16 → (f : List ℕ) (i p : ℕ) (t : List ℕ) (n s : ℕ)
    → length (data_at f p s) ≡ s
    → step_on (block.Data s) f (standing_in Open k i p t) n ≡ standing_reply k (plain_on (block.Data s) k f i p t n)
unfolding step_on plain_on standing standing_in plain opener due given
step_on_data k w f i p t n s e =
    let d : List ℕ = data_at f p s in
    rw (hand-standing k n (due k t d) (plain Open i p t) (plain Open (suc i) (p + 36 + s) (t ++ d)))
    (rw (bytes_by-standing k.cipher k w t d)
    (ap (hand n (due k t d) (standing_in Open k i p t))
    (taking-standing k i p t d ∙ ap (λ (x : ℕ). standing_in Open k (suc i) (p + 36 + x) (t ++ d)) e)))

step_on-standing : (b : Block) (k : Keys) → length k.nonce ≡ 16 → (f : List ℕ) (i p : ℕ) (t : List ℕ) (n : ℕ)
    → judge k.base f i p ≡ b
    → step_on b f (standing_in Open k i p t) n ≡ standing_reply k (plain_on b k f i p t n)
unfolding step_on plain_on standing_reply refuse standing standing_in plain opener
step_on-standing (block.Refused r) k w f i p t n h = refl
step_on-standing (block.Data s) k w f i p t n h =
    step_on_data k w f i p t n s (length-data_at (judge_data k.base f i p s h))
step_on-standing block.Closing k w f i p t n h =
    close_by-standing k _ (close_of k f p t) i p t n (close_of-standing k w f p t)

-- a step from a state that is sound while it is open
pub step_of-standing : (m : Phase) (k : Keys) → length k.nonce ≡ 16 → (f : List ℕ) (i p : ℕ) (t : List ℕ) (n : ℕ)
    → (m ≡ Open → sound i p (length t) ≡ true)
    → step_of f (standing_in m k i p t) n ≡ standing_reply k (plain_in m k f i p t n)
unfolding step_of standing_in opener mark_of step_in plain_in standing_reply refuse standing plain blank
step_of-standing Open k w f i p t n h = rw (h refl) (step_on-standing (judge k.base f i p) k w f i p t n refl)
step_of-standing Closed k w f i p t n h = refl
step_of-standing Ended k w f i p t n h = refl

phase_standing_in : (m : Phase) (k : Keys) (i p : ℕ) (t : List ℕ) → (standing_in m k i p t).phase ≡ m
unfolding standing_in opener blank
phase_standing_in Open k i p t = refl
phase_standing_in Closed k i p t = refl
phase_standing_in Ended k i p t = refl

pub phase_standing : (k : Keys) (q : Plain) → (standing k q).phase ≡ q.phase
unfolding standing
phase_standing k q = phase_standing_in q.phase k q.number q.at q.text
