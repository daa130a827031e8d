-- Lists of steps: what holds of one step holds of each, and of the state after them.
--
-- In order:
--   answers-standing, after_standing    the code's run is the plain opener's
--   run_reached, run-filled             the blocks taken, and their bytes
--   run-progress                        the bytes handed over
--   run_refusals                        the refusals that close
--   run_stays                           an opening that is not open stays as it is
--   run-closed                          a run that is closed at its end had one
--   run_moves                           each step with room goes on in the file, and none goes back
--   with_room_all                        where none is 17, all have room
--   step_short                          a step hands over at most fifteen bytes more than the block's size
--   run_room                            steps with room enough never answer 17
-- Not here: one step (Standing, Taken, Progress, Refusals); the theorem (Theorem).
-- Assumes nothing.
use Rattle.std.specs.Prelude.{Ok, Err}
use mathlib.Core.Path.{◌≡◌, refl, sym, ap, ◌∙◌}
use mathlib.Core.Logic.{◌≢◌}
use mathlib.Core.Bool.{true}
use mathlib.Core.List.{List, [], ◌∷◌, ◌++◌, append-nil, append_assoc}
use Prim.Native.Nat.{ℕ, suc, ◌+◌, ◌*◌, ◌≤◌, ◌<◌}
use native.Mathlib.Omega.{arith}
use borrow.Author.Tests.{le-leb, eqb-true, eqb-false, eq-eqb, ne_eqb}
use lib.Dec.{eqb}
use lib.ListN.{length}
use Rattle.words.proofs.Laws.Cases.{by_bool}
use Rattle.refusals.specs.declared.Refusal.{Refusal}
use Rattle.refusals.specs.declared.Refusal.TheVariants.{NoRoom}
use Rattle.refusals.specs.Numbers.{Written}
use Rattle.refusals.specs.Limits.{file_limit}
use Rattle.refusals.specs.Numbers.{number_of, count_of}
use Rattle.refusals.proofs.Laws.Numbers.{of_refusal_17}
use Rattle.opening.specs.declared.Keys.{Keys}
use Rattle.opening.specs.declared.Phase.{Phase}
use Rattle.opening.specs.declared.Phase.TheVariants.{Open, Closed, Ended}
use Rattle.opening.specs.Runs.{Answer, Reply, answers, after, bytes_of, with_room, Each, none, both, Some, here, there}
use Rattle.opening.specs.Plain.{Plain, plain_step}
use Rattle.opening.specs.Steps.{sound, step_of}
use Rattle.opening.specs.Standing.{standing}
use Rattle.opening.specs.Agreement.{Closing, size_at, Roomy}
use Rattle.opening.proofs.Laws.Replies.{never}
use Rattle.opening.proofs.Laws.Standing.{standing_reply, step_of-standing}
use Rattle.opening.proofs.Laws.Taken.{Reached, ReachedAt, reached_step}
use Rattle.opening.proofs.Laws.Filled.{Filled, FilledAt, filled_step}
use Rattle.opening.proofs.Laws.Progress.{ProgressAt, progress_step}
use Rattle.opening.proofs.Laws.Refusals.{
  WholeRefuses,
  ClosingAnswer,
  refusal_step,
  closed_step,
  stays_step,
  moves_step,
  keeps_step,
  room_step,
  short_step,
}

-- the place has room for what was taken
reached_sound : (m : Phase) (k : Keys) (f : List ℕ) (o i p : ℕ) (t : List ℕ) → length f ≤ file_limit
    → Reached k f o i p t → Filled m i t → m ≡ Open → sound i p (length t) ≡ true
unfolding sound
reached_sound Open k f o i p t l r h e =
    let a : p ≤ file_limit = omega (arith, r.inside) in
    rw (le-leb p file_limit a, le-leb (36 * i + length t) p r.fits, le-leb i (length t) h.0)
    (by_bool (eqb i 0) (λ b. rw (b, eq-eqb (length t) 0 (h.1 (eqb-true i 0 b)))) (λ b. rw b))
reached_sound Closed k f o i p t l r h e = never (cc)
reached_sound Ended k f o i p t l r h e = never (cc)

reached_next : (k : Keys) (f : List ℕ) (o : ℕ) (q : Plain) (n : ℕ) → ReachedAt k f o q
    → ReachedAt k f o (plain_step k f q n).next
unfolding plain_step
reached_next k f o q n r = reached_step q.phase k f o q.number q.at q.text n r

filled_next : (k : Keys) (f : List ℕ) (q : Plain) (n : ℕ) → FilledAt q → FilledAt (plain_step k f q n).next
unfolding plain_step
filled_next k f q n h = filled_step q.phase k f q.number q.at q.text n h

module _ (k : Keys) (w : length k.nonce ≡ 16) (f : List ℕ) (l : length f ≤ file_limit) (o : ℕ) where
  step_standing : (q : Plain) (n : ℕ) → ReachedAt k f o q → FilledAt q
      → step_of f (standing k q) n ≡ standing_reply k (plain_step k f q n)
  unfolding standing plain_step
  step_standing q n r h =
      step_of-standing q.phase k w f q.number q.at q.text n
      (reached_sound q.phase k f o q.number q.at q.text l r h)

  -- the next step's count
  pub step_short : (q : Plain) (n : ℕ) → ReachedAt k f o q → FilledAt q
      → count_of (step_of f (standing k q) n).answer.written ≤ size_at f q.at + 15
  unfolding standing_reply plain_step
  step_short q n r h =
      rw (step_standing q n r h) (short_step q.phase k w f q.number q.at q.text n)

  pub answers-standing : (q : Plain) (rooms : List ℕ) → ReachedAt k f o q → FilledAt q
      → answers (step_of f) (standing k q) rooms ≡ answers (plain_step k f) q rooms
  unfolding answers standing_reply
  answers-standing q [] r h = refl
  answers-standing q (n ∷ ns) r h =
      rw (
        step_standing q n r h,
        answers-standing (plain_step k f q n).next ns (reached_next k f o q n r) (filled_next k f q n h),
      )

  pub after_standing : (q : Plain) (rooms : List ℕ) → ReachedAt k f o q → FilledAt q
      → after (step_of f) (standing k q) rooms ≡ standing k (after (plain_step k f) q rooms)
  unfolding after standing_reply
  after_standing q [] r h = refl
  after_standing q (n ∷ ns) r h =
      rw (step_standing q n r h)
      (after_standing (plain_step k f q n).next ns (reached_next k f o q n r) (filled_next k f q n h))

pub run_reached : (k : Keys) (f : List ℕ) (o : ℕ) (q : Plain) (rooms : List ℕ) → ReachedAt k f o q
    → ReachedAt k f o (after (plain_step k f) q rooms)
unfolding after
run_reached k f o q [] r = r
run_reached k f o q (n ∷ ns) r = run_reached k f o (plain_step k f q n).next ns (reached_next k f o q n r)

pub run-filled : (k : Keys) (f : List ℕ) (q : Plain) (rooms : List ℕ) → FilledAt q
    → FilledAt (after (plain_step k f) q rooms)
unfolding after
run-filled k f q [] h = h
run-filled k f q (n ∷ ns) h = run-filled k f (plain_step k f q n).next ns (filled_next k f q n h)

progress_next : (k : Keys) → length k.nonce ≡ 16 → (f : List ℕ) (o : ℕ) (b : List ℕ) (q : Plain) (n : ℕ)
    → ReachedAt k f o q
    → ProgressAt k f o b q → ProgressAt k f o (b ++ (plain_step k f q n).answer.bytes) (plain_step k f q n).next
unfolding plain_step
progress_next k w f o b q n r y = progress_step q.phase k w f o b q.number q.at q.text n r.inside y

pub run-progress : (k : Keys) → length k.nonce ≡ 16 → (f : List ℕ) (o : ℕ) (b : List ℕ) (q : Plain) (rooms : List ℕ)
    → ReachedAt k f o q → ProgressAt k f o b q
    → ProgressAt k f o (b ++ bytes_of (answers (plain_step k f) q rooms)) (after (plain_step k f) q rooms)
unfolding after answers bytes_of
run-progress k w f o b q [] r y = rw append-nil y
run-progress k w f o b q (n ∷ ns) r y =
    let x : Plain = (plain_step k f q n).next in
    rw (← append_assoc b (plain_step k f q n).answer.bytes (bytes_of (answers (plain_step k f) x ns)))
    (run-progress k w f o (b ++ (plain_step k f q n).answer.bytes) x ns (reached_next k f o q n r)
    (progress_next k w f o b q n r y))

refusal_next : (k : Keys) (f : List ℕ) (o : ℕ) (b : List ℕ) (q : Plain) (n : ℕ) → ReachedAt k f o q
    → ProgressAt k f o b q
    → WholeRefuses k f o (plain_step k f q n).answer
unfolding plain_step
refusal_next k f o b q n r y = refusal_step q.phase k f o b q.number q.at q.text n r.inside y

pub run_refusals : (k : Keys) → length k.nonce ≡ 16 → (f : List ℕ) (o : ℕ) (b : List ℕ) (q : Plain) (rooms : List ℕ)
    → ReachedAt k f o q → ProgressAt k f o b q → Each (WholeRefuses k f o) (answers (plain_step k f) q rooms)
unfolding answers
run_refusals k w f o b q [] r y = none
run_refusals k w f o b q (n ∷ ns) r y =
    both (refusal_next k f o b q n r y)
    (run_refusals k w f o (b ++ (plain_step k f q n).answer.bytes) (plain_step k f q n).next ns
    (reached_next k f o q n r) (progress_next k w f o b q n r y))

-- closed and ended stay
stays_next : (k : Keys) (f : List ℕ) (q : Plain) (n : ℕ) → q.phase ≢ Open → (plain_step k f q n).next.phase ≡ q.phase
unfolding plain_step
stays_next k f q n e = stays_step q.phase k f q.number q.at q.text n e

pub run_stays : (k : Keys) (f : List ℕ) (q : Plain) (rooms : List ℕ) → q.phase ≢ Open
    → (after (plain_step k f) q rooms).phase ≡ q.phase
unfolding after
run_stays k f q [] e = refl
run_stays k f q (n ∷ ns) e =
    let h : (plain_step k f q n).next.phase ≡ q.phase = stays_next k f q n e in
    run_stays k f (plain_step k f q n).next ns (λ g. e (sym h ∙ g)) ∙ h

closed_next : (k : Keys) (f : List ℕ) (q : Plain) (n : ℕ) → q.phase ≡ Open → (plain_step k f q n).next.phase ≡ Closed
    → ClosingAnswer (plain_step k f q n).answer
unfolding plain_step
closed_next k f q n e = closed_step q.phase k f q.number q.at q.text n e

-- one of the answers is the refusal r, which closes
pub record ClosedRun (l : List Answer) : Type 0 where
  pub refusal : Refusal
  pub closing : Closing refusal
  pub given_by : Some (λ (a : Answer). a.written ≡ Err refusal) l

closed_run_here : (a : Answer) (l : List Answer) → ClosingAnswer a → ClosedRun (a ∷ l)
closed_run_here a l c = record { refusal = c.refusal; closing = c.closing; given_by = here c.written_is }

closed_run_there : (a : Answer) (l : List Answer) → ClosedRun l → ClosedRun (a ∷ l)
closed_run_there a l c = record { refusal = c.refusal; closing = c.closing; given_by = there c.given_by }

pub run-closed : (k : Keys) (f : List ℕ) (q : Plain) (rooms : List ℕ) → q.phase ≡ Open
    → (after (plain_step k f) q rooms).phase ≡ Closed → ClosedRun (answers (plain_step k f) q rooms)
unfolding after answers
run-closed k f q [] e c = never (cc)
run-closed k f q (n ∷ ns) e c =
    by_phase (plain_step k f q n).next.phase refl (λ h. closed_next k f q n e h)
    (λ h. run-closed k f (plain_step k f q n).next ns h c)
  where
    l : List Answer
    l = answers (plain_step k f) (plain_step k f q n).next ns

    by_phase : (m : Phase) → (plain_step k f q n).next.phase ≡ m
        → ((plain_step k f q n).next.phase ≡ Closed → ClosingAnswer (plain_step k f q n).answer)
        → ((plain_step k f q n).next.phase ≡ Open → ClosedRun l)
        → ClosedRun ((plain_step k f q n).answer ∷ l)
    by_phase Open h x y = closed_run_there (plain_step k f q n).answer l (y h)
    by_phase Closed h x y = closed_run_here (plain_step k f q n).answer l (x h)
    by_phase Ended h x y =
        let o : (plain_step k f q n).next.phase ≢ Open = λ g. never (cc) in
        let s = run_stays k f (plain_step k f q n).next ns o in
        never (cc)

each_head : {A : Type 0} {P : A → Type 0} {a : A} {l : List A} → Each P (a ∷ l) → P a
each_head (both x y) = x

each_tail : {A : Type 0} {P : A → Type 0} {a : A} {l : List A} → Each P (a ∷ l) → Each P l
each_tail (both x y) = y

-- a run that is open at its end was open
run_open : (k : Keys) (f : List ℕ) (q : Plain) (rooms : List ℕ) → (after (plain_step k f) q rooms).phase ≡ Open
    → q.phase ≡ Open
run_open k f q rooms c = by_phase q.phase refl
  where
    by_phase : (m : Phase) → q.phase ≡ m → q.phase ≡ Open
    by_phase Open e = e
    by_phase Closed e =
        let o : q.phase ≢ Open = λ g. never (cc) in
        sym (run_stays k f q rooms o) ∙ c
    by_phase Ended e =
        let o : q.phase ≢ Open = λ g. never (cc) in
        sym (run_stays k f q rooms o) ∙ c

moves_next : (k : Keys) (f : List ℕ) (q : Plain) (n : ℕ) → (plain_step k f q n).answer.written ≢ Err NoRoom
    → (plain_step k f q n).next.phase ≡ Open → q.at < (plain_step k f q n).next.at
unfolding plain_step
moves_next k f q n = moves_step q.phase k f q.number q.at q.text n

keeps_next : (k : Keys) (f : List ℕ) (q : Plain) (n : ℕ) → q.at ≤ (plain_step k f q n).next.at
unfolding plain_step
keeps_next k f q n = keeps_step q.phase k f q.number q.at q.text n

-- an answer whose number is 17
no_room_number : (w : Written) → number_of w ≡ 17 → w ≡ Err NoRoom
no_room_number (Ok n) e = absurd (omega arith)
no_room_number (Err r) e = ap (λ (x : Refusal). Err x) (of_refusal_17 r e)

number_no_room : (w : Written) → (number_of w ≡ 17 → ⊥) → w ≢ Err NoRoom
number_no_room w h e = h (rw e refl)

pub run_moves : (k : Keys) (f : List ℕ) (q : Plain) (rooms : List ℕ) → (after (plain_step k f) q rooms).phase ≡ Open
    → q.at + with_room (answers (plain_step k f) q rooms) ≤ (after (plain_step k f) q rooms).at
unfolding after answers with_room
run_moves k f q [] c = omega arith
run_moves k f q (n ∷ ns) c =
    let o : (plain_step k f q n).next.phase ≡ Open = run_open k f (plain_step k f q n).next ns c in
    let more = run_moves k f (plain_step k f q n).next ns c in
    by_bool (eqb (number_of (plain_step k f q n).answer.written) 17)
    (λ e. rw e (omega (arith, keeps_next k f q n, more)))
    (λ e.
    let z = number_no_room (plain_step k f q n).answer.written (eqb-false _ 17 e) in
    rw e (omega (arith, moves_next k f q n z o, more)))

pub with_room_all : (l : List Answer) → Each (λ (a : Answer). a.written ≢ Err NoRoom) l
    → with_room l ≡ length l
unfolding with_room
with_room_all [] h = refl
with_room_all (a ∷ l) h =
    let z : number_of a.written ≡ 17 → ⊥ = λ e. each_head h (no_room_number a.written e) in
    rw (ne_eqb (number_of a.written) 17 z) (ap suc (with_room_all l (each_tail h)))

pub length-answers : {A : Type 0} (step : A → ℕ → Reply A) (a : A) (rooms : List ℕ)
    → length (answers step a rooms) ≡ length rooms
unfolding answers
length-answers step a [] = refl
length-answers step a (n ∷ ns) = ap suc (length-answers step (step a n).next ns)

room_next : (k : Keys) → length k.nonce ≡ 16 → (f : List ℕ) (q : Plain) (n : ℕ) → size_at f q.at + 15 ≤ n
    → (plain_step k f q n).answer.written ≢ Err NoRoom
unfolding plain_step
room_next k w f q n = room_step q.phase k w f q.number q.at q.text n

pub run_room : (k : Keys) → length k.nonce ≡ 16 → (f : List ℕ) (q : Plain) (rooms : List ℕ) → Roomy k f q rooms
    → Each (λ (a : Answer). a.written ≢ Err NoRoom) (answers (plain_step k f) q rooms)
unfolding answers Roomy
run_room k w f q [] h = none
run_room k w f q (n ∷ ns) h = both (room_next k w f q n h.0) (run_room k w f (plain_step k f q n).next ns h.1)
