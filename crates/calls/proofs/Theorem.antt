-- Demand 3 for a caller in C: `kdbx4_start`, and any list of `kdbx4_step` on the bytes that it leaves.
--
-- In order:
--   mark-packed, ended_mark           the mark in a state's bytes
--   closed-answers, closed_after      a closed state gives 19, and stays
--   calls_steps, bytes_steps          the calls do what the steps on the struct do
--   calls_agree                       after an accepted start
--   agrees_in_c                       the theorem, for every T, file and list of calls
-- Not here: hashes, the key transformation, inner streams (States).
-- Assumes nothing.
use Rattle.std.specs.Prelude.{Err}
use mathlib.Core.Path.{◌≡◌, refl, sym, ap, ◌∙◌}
use mathlib.Core.Logic.{◌≢◌}
use mathlib.Core.List.{List, [], ◌∷◌}
use Prim.Native.Nat.{ℕ, ◌≤◌}
use native.Mathlib.Omega.{arith}
use lib.ListN.{length, get_or, replicate}
use Rattle.refusals.specs.declared.Refusal.{Refusal}
use Rattle.opening.specs.declared.Keys.{Keys}
use Rattle.opening.specs.declared.Phase.{Phase}
use Rattle.opening.specs.declared.Phase.TheVariants.{Open, Closed, Ended}
use Rattle.opening.specs.declared.Opener.{Opener}
use Rattle.opening.specs.Decryption.{refused, opened}
use Rattle.opening.specs.Runs.{Answer, answers, after, bytes_of, refuse, Each, none, both}
use Rattle.opening.specs.Steps.{opener, blank, step_of}
use Rattle.opening.specs.Agreement as opening
use Rattle.opening.specs.Agreement.{Closing, step_answers, handed_over, state_after, plain_after, Finished, RunAgrees}
use Rattle.opening.proofs.Laws.Replies.{never}
use Rattle.opening.proofs.Laws.Kept.{step_of-closed}
use Rattle.vault.specs.Vault.{start, start_refused, begun, state_of, opened_in}
use Rattle.vault.proofs.Theorem.{agrees}
use Rattle.states.specs.OpenerState as bytes
use Rattle.calls.specs.Calls.{opener_calls}
use Rattle.calls.specs.Agreement.{
  out_of_sequence,
  start_bytes,
  step_calls,
  handed_to_c,
  bytes_left,
  mark_left,
  CallsFinished,
  by_closing,
  by_refusal,
  CallsAgree,
  AgreesInC,
}
use Rattle.calls.proofs.Laws.Carried.{carried_answers, carried_after}
use Rattle.calls.proofs.Laws.Openers.{start-typed, opener_faithful}
use Rattle.calls.proofs.Laws.Bridges.{answers_steps, after_steps}

-- the first byte
mark-packed : (o : Opener) → get_or (bytes.packed o) 0 0 ≡ bytes.mark_of o.phase
unfolding bytes.packed bytes.figures
mark-packed o = refl

ended_mark : (m : Phase) → bytes.mark_of m ≡ 2 → m ≡ Ended
ended_mark Open e = absurd (omega arith)
ended_mark Ended e = refl
ended_mark Closed e = absurd (omega arith)

each_map : {A : Type 0} {P Q : A → Type 0} {l : List A} → ((a : A) → P a → Q a) → Each P l → Each Q l
each_map h none = none
each_map h (both {a = a} x y) = both (h a x) (each_map h y)

-- a state that is not open
closed-answers : (f : List ℕ) (o : Opener) → o.phase ≢ Open → (rooms : List ℕ)
    → answers (step_of f) o rooms ≡ replicate (length rooms) out_of_sequence
unfolding answers refuse
closed-answers f o h [] = refl
closed-answers f o h (n ∷ ns) =
    rw (step_of-closed f o n h) (ap (λ (l : List Answer). out_of_sequence ∷ l) (closed-answers f o h ns))

closed_after : (f : List ℕ) (o : Opener) → o.phase ≢ Open → (rooms : List ℕ) → after (step_of f) o rooms ≡ o
unfolding after refuse
closed_after f o h [] = refl
closed_after f o h (n ∷ ns) = rw (step_of-closed f o n h) (closed_after f o h ns)

blank-closed : (blank Closed).phase ≢ Open
unfolding blank opener
blank-closed e = never (cc)

refused-state : (t f : List ℕ) (r : Refusal) → start t f ≡ start_refused r → state_of (start t f) ≡ blank Closed
unfolding state_of
refused-state t f r e = rw e

module _ (t f : List ℕ) where
  calls_steps : (rooms : List ℕ) → step_calls t f rooms ≡ answers (step_of f) (state_of (start t f)) rooms
  calls_steps rooms =
      carried_answers (opener_calls f) bytes.Typed (opener_faithful f) rooms (state_of (start t f)) (start-typed t f)
      ∙ answers_steps f rooms (state_of (start t f))

  bytes_steps : (rooms : List ℕ) → bytes_left t f rooms ≡ bytes.packed (after (step_of f) (state_of (start t f)) rooms)
  bytes_steps rooms =
      carried_after (opener_calls f) bytes.Typed (opener_faithful f) rooms (state_of (start t f)) (start-typed t f)
      ∙ ap bytes.packed (after_steps f rooms (state_of (start t f)))

  -- a refused start
  calls_refused : (r : Refusal) → start t f ≡ start_refused r → (rooms : List ℕ)
      → step_calls t f rooms ≡ replicate (length rooms) out_of_sequence
  calls_refused r e rooms =
      rw (calls_steps rooms, refused-state t f r e) (closed-answers f (blank Closed) blank-closed rooms)

  bytes_refused : (r : Refusal) → start t f ≡ start_refused r → (rooms : List ℕ) → bytes_left t f rooms ≡ start_bytes t f
  bytes_refused r e rooms =
      bytes_steps rooms
      ∙ rw (refused-state t f r e) (ap bytes.packed (closed_after f (blank Closed) blank-closed rooms))

  -- an accepted one
  module _ (k : Keys) (p : ℕ) (e : start t f ≡ begun k p) (rooms : List ℕ) where
    run : RunAgrees k f p rooms
    run = (agrees t f).after_start k p e rooms

    answers_are : step_calls t f rooms ≡ step_answers k f p rooms
    answers_are = calls_steps rooms ∙ ap (λ (o : Opener). answers (step_of f) o rooms) ((agrees t f).state_is k p e)

    handed_are : handed_to_c t f rooms ≡ handed_over k f p rooms
    handed_are = ap bytes_of answers_are

    state_is : bytes_left t f rooms ≡ bytes.packed (state_after k f p rooms)
    state_is =
        bytes_steps rooms
        ∙ ap (λ (o : Opener). bytes.packed (after (step_of f) o rooms)) ((agrees t f).state_is k p e)

    mark_is : mark_left t f rooms ≡ bytes.mark_of (plain_after k f p rooms).phase
    mark_is =
        ap (λ (b : List ℕ). get_or b 0 0) state_is ∙ mark-packed (state_after k f p rooms)
        ∙ ap bytes.mark_of run.phase_is

    phase_ended : mark_left t f rooms ≡ 2 → (plain_after k f p rooms).phase ≡ Ended
    phase_ended m = ended_mark (plain_after k f p rooms).phase (sym mark_is ∙ m)

    phase_not_ended : mark_left t f rooms ≢ 2 → (plain_after k f p rooms).phase ≢ Ended
    phase_not_ended m h = m (mark_is ∙ ap bytes.mark_of h)

    whole_gives : mark_left t f rooms ≡ 2 → (n : ℕ) → length (handed_to_c t f rooms) ≤ n
        → opened_in t f n ≡ opened (handed_to_c t f rooms)
    whole_gives m n l =
        (agrees t f).whole_is k p e n ∙ run.whole_gives (phase_ended m) n (rw (← handed_are) l)
        ∙ ap opened (sym handed_are)

    refusals : Each (λ (a : Answer). (r : Refusal) → a.written ≡ Err r → Closing r
        → (n : ℕ) → opened_in t f n ≡ refused r) (step_calls t f rooms)
    refusals =
        rw answers_are
        (each_map (λ a h r w c n. (agrees t f).whole_is k p e n ∙ h r w c n) run.refusals)

    finished : Finished k f p rooms → CallsFinished t f rooms
    finished (opening.by_closing h) = by_closing (mark_is ∙ ap bytes.mark_of h)
    finished (opening.by_refusal h r c s w) =
        by_refusal (mark_is ∙ ap bytes.mark_of h) r c (rw answers_are s) (λ n. (agrees t f).whole_is k p e n ∙ w n)

    pub calls_agree : CallsAgree t f k p rooms
    calls_agree =
        record {
          answers_are = answers_are;
          plain_are = answers_are ∙ run.answers_are;
          state_is = state_is;
          mark_is = mark_is;
          run = run;
          until_closing = λ m. handed_are ∙ run.until_closing (phase_not_ended m);
          whole_gives = whole_gives;
          refusals = refusals;
          ends = λ l. finished (run.ends (rw (← answers_are) l));
        }

-- THE THEOREM
pub agrees_in_c : (t f : List ℕ) → AgreesInC t f
agrees_in_c t f =
    record {
      at_start = (agrees t f).at_start;
      refused_answers = calls_refused t f;
      refused_bytes = bytes_refused t f;
      after_start = calls_agree t f;
      firsts = λ u g k l p q a b h i s e rooms others x y n d.
          handed_are t f k p a rooms ∙ (agrees t f).firsts u g k l p q a b h i s e rooms others x y n d
          ∙ sym (handed_are u g l q b others);
    }
