-- Demand 3: opening block by block agrees with opening whole, for all keys, files, places of a first block and lent
-- lengths.
--
-- In order:
--   the whole opener with n bytes lent
--   each field of RunAgrees
--   finished  a run that is not open has taken the closing block, or ended in a refusal that closed it
--   agrees    the theorem
--   all_room  a list of which no step is refused with 17
-- A first block stands behind a header, so that its place is not 0; an empty file would be opened by no step at all.
-- Not here: the start (crate vault).
-- Assumes nothing.
use Rattle.std.specs.Prelude.{Err}
use mathlib.Core.Path.{◌≡◌, refl, sym, ap, ◌∙◌}
use mathlib.Core.Logic.{◌≢◌}
use mathlib.Core.List.{List, []}
use Prim.Native.Nat.{ℕ, ◌+◌, ◌≤◌, ◌<◌}
use native.Mathlib.Omega.{arith}
use borrow.Author.Tests.{le-ltb}
use lib.ListN.{length}
use Rattle.refusals.specs.declared.Refusal.{Refusal}
use Rattle.refusals.specs.declared.Refusal.TheVariants.{NoRoom}
use Rattle.refusals.specs.Limits.{file_limit}
use Rattle.refusals.specs.Numbers.{count_of}
use Rattle.opening.specs.declared.Keys.{Keys}
use Rattle.opening.specs.declared.Phase.{Phase}
use Rattle.opening.specs.declared.Phase.TheVariants.{Open, Closed, Ended}
use Rattle.opening.specs.declared.Opener.{Opener}
use Rattle.opening.specs.Decryption.{refused, opened, given}
use Rattle.opening.specs.Whole.{whole, roomed, whole_in}
use Rattle.opening.specs.Runs.{Answer, with_room, Each, none, both, Some, here, there}
use Rattle.opening.specs.Plain.{plain, plain_start}
use Rattle.opening.specs.Steps.{open_start, step_of}
use Rattle.opening.specs.Standing.{standing}
use Rattle.opening.specs.Agreement.{
  Closing,
  size_at,
  block_data,
  first_data,
  step_answers,
  handed_over,
  state_after,
  plain_answers,
  plain_after,
  Finished,
  by_closing,
  by_refusal,
  RunAgrees,
}
use Rattle.opening.proofs.Laws.Given.{length_given}
use Rattle.opening.proofs.Laws.Standing.{open_start-standing, phase_standing}
use Rattle.opening.proofs.Laws.Taken.{ReachedAt, reached_start, first_data_same}
use Rattle.opening.proofs.Laws.Filled.{filled-start}
use Rattle.opening.proofs.Laws.Progress.{EndProgress, ProgressAt, progress_start, progress_until, progress_ended}
use Rattle.opening.proofs.Laws.Runs.{
  answers-standing,
  after_standing,
  run_reached,
  run-filled,
  run-progress,
  run_refusals,
  run-closed,
  run_moves,
  with_room_all,
  length-answers,
  step_short,
  run_room,
}

-- the whole opener with n bytes lent
whole_in-refused : (k : Keys) (f : List ℕ) (p n : ℕ) (r : Refusal) → whole k f p ≡ refused r
    → whole_in k f p n ≡ refused r
unfolding whole_in roomed
whole_in-refused k f p n r h = rw h

whole_in-opened : (k : Keys) (f : List ℕ) (p n : ℕ) (b : List ℕ) → whole k f p ≡ opened b → length b ≤ n
    → whole_in k f p n ≡ opened b
unfolding whole_in roomed
whole_in-opened k f p n b h l = rw (h, le-ltb n (length b) l)

-- the plain opener's start
plain_start_phase : (p : ℕ) → (plain_start p).phase ≡ Open
unfolding plain_start plain
plain_start_phase p = refl

plain_start_at : (p : ℕ) → (plain_start p).at ≡ p
unfolding plain_start plain
plain_start_at p = refl

each_map : {A : Type 0} {P Q : A → Type 0} {l : List A} → ((a : A) → P a → Q a) → Each P l → Each Q l
each_map h none = none
each_map h (both {a = a} x y) = both (h a x) (each_map h y)

-- one answer of which the refusal is the whole opener's
abbrev RefusedAlike : Keys → List ℕ → ℕ → Answer → Type 0
RefusedAlike k f p a =
    (r : Refusal) → a.written ≡ Err r → Closing r → (n : ℕ) → whole_in k f p n ≡ refused r

some_refused : (k : Keys) (f : List ℕ) (p : ℕ) (r : Refusal) → Closing r → {l : List Answer}
    → Each (RefusedAlike k f p) l
    → Some (λ (a : Answer). a.written ≡ Err r) l → (n : ℕ) → whole_in k f p n ≡ refused r
some_refused k f p r c none i = elim i [ ]
some_refused k f p r c (both g h) (here e) = g r e c
some_refused k f p r c (both g h) (there y) = some_refused k f p r c h y

-- keys whose nonce has sixteen bytes, a file within its limit, and a place in it
module _ (k : Keys) (w : length k.nonce ≡ 16) (f : List ℕ) (l : length f ≤ file_limit) (p : ℕ) (i : p ≤ length f)
  where
    reached : ReachedAt k f p (plain_start p)
    reached = reached_start k f p i

    step_answers_plain : (rooms : List ℕ) → step_answers k f p rooms ≡ plain_answers k f p rooms
    step_answers_plain rooms = rw (open_start-standing k p) (answers-standing k w f l p (plain_start p) rooms reached (filled-start p))

    state_after-standing : (rooms : List ℕ) → state_after k f p rooms ≡ standing k (plain_after k f p rooms)
    state_after-standing rooms = rw (open_start-standing k p) (after_standing k w f l p (plain_start p) rooms reached (filled-start p))

    plain_after_reached : (rooms : List ℕ) → ReachedAt k f p (plain_after k f p rooms)
    plain_after_reached rooms = run_reached k f p (plain_start p) rooms reached

    plain_after-progress : (rooms : List ℕ) → ProgressAt k f p (handed_over k f p rooms) (plain_after k f p rooms)
    plain_after-progress rooms =
        rw (step_answers_plain rooms) (run-progress k w f p [] (plain_start p) rooms reached (progress_start k f p))

    handed_over_given : (rooms : List ℕ) → (plain_after k f p rooms).phase ≢ Ended
        → handed_over k f p rooms ≡ given k (plain_after k f p rooms).text
    handed_over_given rooms e =
        progress_until (plain_after k f p rooms).phase k f p (handed_over k f p rooms) (plain_after k f p rooms).number
        (plain_after k f p rooms).at (plain_after k f p rooms).text (plain_after-progress rooms) e

    handed_over-first_data : (rooms : List ℕ) → (plain_after k f p rooms).phase ≢ Ended
        → handed_over k f p rooms ≡ given k (first_data f p (plain_after k f p rooms).number)
    handed_over-first_data rooms e = handed_over_given rooms e ∙ ap (given k) (plain_after_reached rooms).text_is

    handed_over_ended : (rooms : List ℕ) → (plain_after k f p rooms).phase ≡ Ended
        → EndProgress k f p (handed_over k f p rooms) (plain_after k f p rooms).text
    handed_over_ended rooms e =
        progress_ended (plain_after k f p rooms).phase k f p (handed_over k f p rooms) (plain_after k f p rooms).number
        (plain_after k f p rooms).at (plain_after k f p rooms).text (plain_after-progress rooms) e

    refused_alike : (rooms : List ℕ) → Each (RefusedAlike k f p) (step_answers k f p rooms)
    refused_alike rooms =
        rw (step_answers_plain rooms)
        (each_map (λ a g r e c n. whole_in-refused k f p n r (g r e c))
        (run_refusals k w f p [] (plain_start p) rooms reached (progress_start k f p)))

    -- steps with room that leave the plain opener open are no more than the bytes behind p
    open_short : (rooms : List ℕ) → (plain_after k f p rooms).phase ≡ Open
        → p + with_room (step_answers k f p rooms) ≤ length f
    open_short rooms e =
        let a = plain_start_at p in
        let n = run_moves k f (plain_start p) rooms e in
        rw (step_answers_plain rooms) (omega (arith, (plain_after_reached rooms).inside, a, n))

    finished_by : (rooms : List ℕ) (m : Phase) → (plain_after k f p rooms).phase ≡ m → m ≢ Open → Finished k f p rooms
    finished_by rooms Open e o = absurd (o refl)
    finished_by rooms Closed e o =
        let c = run-closed k f (plain_start p) rooms (plain_start_phase p) e in
        let s : Some (λ (a : Answer). a.written ≡ Err c.refusal) (step_answers k f p rooms) =
        rw (step_answers_plain rooms) c.given_by in
        by_refusal e c.refusal c.closing s (some_refused k f p c.refusal c.closing (refused_alike rooms) s)
    finished_by rooms Ended e o = by_closing e

    -- a run that is not open has finished
    pub finished : (rooms : List ℕ) → (plain_after k f p rooms).phase ≢ Open → Finished k f p rooms
    finished rooms o = finished_by rooms (plain_after k f p rooms).phase refl o

    next_short : (rooms : List ℕ) (n : ℕ) → count_of (step_of f (state_after k f p rooms) n).answer.written
        ≤ size_at f (plain_after k f p rooms).at + 15
    next_short rooms n =
        rw (state_after-standing rooms)
        (step_short k w f l p (plain_after k f p rooms) n (plain_after_reached rooms)
        (run-filled k f (plain_start p) rooms (filled-start p)))

firsts_same : (k : Keys) → length k.nonce ≡ 16 → (f : List ℕ) → length f ≤ file_limit → (p : ℕ) → p ≤ length f
    → (rooms g : List ℕ) → length g ≤ file_limit → (q : ℕ) → q ≤ length g → (others : List ℕ)
    → (plain_after k f p rooms).phase ≢ Ended → (plain_after k g q others).phase ≢ Ended
    → (plain_after k f p rooms).number ≡ (plain_after k g q others).number
    → ((j : ℕ) → j < (plain_after k f p rooms).number → block_data f p j ≡ block_data g q j)
    → handed_over k f p rooms ≡ handed_over k g q others
firsts_same k w f lf p ip rooms g lg q iq others ef eg n same =
    handed_over-first_data k w f lf p ip rooms ef
    ∙ ap (given k) (first_data_same f g p q (plain_after k f p rooms).number same)
    ∙ ap (λ (i : ℕ). given k (first_data g q i)) n
    ∙ sym (handed_over-first_data k w g lg q iq others eg)

-- the theorem
pub agrees : (k : Keys) → length k.nonce ≡ 16 → (f : List ℕ) (p : ℕ) → length f ≤ file_limit → 0 < p → p ≤ length f
    → (rooms : List ℕ) → RunAgrees k f p rooms
agrees k w f p l o i rooms =
    let r = plain_after_reached k w f l p i rooms in
    record {
      answers_are = step_answers_plain k w f l p i rooms;
      state_is = state_after-standing k w f l p i rooms;
      phase_is =
          ap (λ (x : Opener). x.phase) (state_after-standing k w f l p i rooms)
          ∙ phase_standing k (plain_after k f p rooms);
      blocks = record { at_is = r.at_is; inside = r.inside; text_is = r.text_is; tags = r.tags };
      until_closing = λ e. handed_over_given k w f l p i rooms e;
      as_many = λ e. ap length (handed_over_given k w f l p i rooms e) ∙ length_given k w (plain_after k f p rooms).text;
      once_closed = λ e. (handed_over_ended k w f l p i rooms e).payload_is;
      whole_gives = λ e n h.
          whole_in-opened k f p n (handed_over k f p rooms) (handed_over_ended k w f l p i rooms e).whole_is h;
      refusals = refused_alike k w f l p i rooms;
      ends = λ n. finished k w f l p i rooms (λ e. omega (arith, open_short k w f l p i rooms e));
      room = λ m. rw (step_answers_plain k w f l p i rooms) (run_room k w f (plain_start p) rooms m);
      step_le = next_short k w f l p i rooms;
      firsts = λ g q others lg iq ef eg n same. firsts_same k w f l p i rooms g lg q iq others ef eg n same;
    }

-- m steps, none refused with 17
pub all_room : (k : Keys) (f : List ℕ) (p : ℕ) (rooms : List ℕ) (m : ℕ) → m ≤ length rooms
    → Each (λ (a : Answer). a.written ≢ Err NoRoom) (step_answers k f p rooms)
    → m ≤ with_room (step_answers k f p rooms)
all_room k f p rooms m l h =
    let a = with_room_all (step_answers k f p rooms) h in
    let b = length-answers (step_of f) (open_start k p) rooms in
    omega (arith, a, b)
