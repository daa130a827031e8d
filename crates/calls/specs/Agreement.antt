-- Demand 3 for a caller in C, and what the other lists of calls on lent bytes come to.
--
--   AgreesInC           a list of `kdbx4_step` behind `kdbx4_start`, for any T and file
--   CallsAgree          .. behind an accepted start; CallsFinished: such a list's end
--   FeedsAgree          a list of feeds behind a start, and the finish: SHA-256 and SHA-512
--   AdvancesAgree       a list of `kdbx4_aes_kdf_advance` behind `kdbx4_aes_kdf_start`, and the finish
--   StretchesAgree      a list of `kdbx4_inner_stream_apply` behind `kdbx4_inner_stream_start`
-- Each call gets the bytes that the one before it left; refused calls are in the lists. An answer is a call's number
-- and count (refusals, Numbers: number_of, count_of) and the bytes that it puts over the front of what is lent. The first
-- byte of an opening's is its mark: 1 of an open one, 2 of an ended, 3 of a closed (states, OpenerState).
-- Not here: one call (Calls; exports).
-- Assumes nothing.
use Rattle.std.specs.Prelude.{◌≡◌, ◌≢◌, cond, List, [], ◌∷◌, ℕ, ◌+◌, ◌-◌, ◌≤◌, ◌<◌, min, leb, length, get_or, take, replicate, Ok, Err}
use Rattle.refusals.specs.declared.Refusal.{Refusal}
use Rattle.refusals.specs.declared.Refusal.TheVariants.{TooLong, OutOfSequence}
use Rattle.refusals.specs.Numbers.{Outcome}
use Rattle.refusals.specs.Limits.{message_limit, rounds_limit}
use Rattle.fips180.specs.Fips180.{Sha2, hash}
use Rattle.fips180.specs.Feeds.{accepted}
use Rattle.aes_kdf.specs.AesKdf.{transformed_key, after, done_by}
use Rattle.aes_kdf.specs.State as aes_kdf
use Rattle.inner_stream.specs.InnerStream as inner
use Rattle.inner_stream.specs.State as stream
use Rattle.inner_stream.specs.Stretches as stretches
use Rattle.inner_stream.specs.Stretches.{Stretch}
use Rattle.fields.specs.Fields.{bytes_at}
use Rattle.outer_header.specs.Kdbx4Header.{header}
use Rattle.outer_header.specs.declared.Header.{Header}
use Rattle.opening.specs.declared.Keys.{Keys}
use Rattle.opening.specs.declared.Phase.TheVariants.{Ended}
use Rattle.opening.specs.Decryption.{refused, opened, given}
use Rattle.opening.specs.Runs.{Answer, bytes_of, with_room, Each, Some}
use Rattle.opening.specs.Agreement.{Closing, block_data, step_answers, state_after, plain_answers, plain_after, RunAgrees}
use Rattle.vault.specs.Vault.{start, start_refused, begun, state_of, opened_in}
use Rattle.vault.specs.Agreement.{EqualKeys}
use Rattle.states.specs.AesKdfState as aes_kdf_bytes
use Rattle.states.specs.OpenerState as opener_bytes
use Rattle.states.specs.InnerStreamState as stream_bytes
use Rattle.calls.specs.Lists.{LentCalls, answers_of, call_answers, bytes_after}
use Rattle.calls.specs.Calls.{Progress, progress_of, aes_kdf_calls, opener_calls, inner_stream_calls}

-- 19, and no byte
abbrev pub out_of_sequence : Answer
out_of_sequence = record { written = Err OutOfSequence; bytes = [] }

-- the bytes that `kdbx4_start` leaves, of T and a file
abbrev pub start_bytes : List ℕ → List ℕ → List ℕ
start_bytes t f = opener_bytes.packed (state_of (start t f))

-- a list of `kdbx4_step` from there, over that file, each with so many bytes lent: the answers, all the bytes handed
-- over, the bytes left
abbrev pub step_calls : List ℕ → List ℕ → List ℕ → List Answer
step_calls t f rooms = call_answers (opener_calls f) (start_bytes t f) rooms

abbrev pub handed_to_c : List ℕ → List ℕ → List ℕ → List ℕ
handed_to_c t f rooms = bytes_of (step_calls t f rooms)

abbrev pub bytes_left : List ℕ → List ℕ → List ℕ → List ℕ
bytes_left t f rooms = bytes_after (opener_calls f) (start_bytes t f) rooms

-- the mark in them
abbrev pub mark_left : List ℕ → List ℕ → List ℕ → ℕ
mark_left t f rooms = get_or (bytes_left t f rooms) 0 0

-- the end of a list of calls: the closing block taken, or a refusal that closed the opening and is the whole opener's
pub data CallsFinished (t f rooms : List ℕ) : Type 0 where
  by_closing : mark_left t f rooms ≡ 2 → CallsFinished t f rooms
  by_refusal : mark_left t f rooms ≡ 3 → (r : Refusal) → Closing r
      → Some (λ (a : Answer). a.written ≡ Err r) (step_calls t f rooms)
      → ((n : ℕ) → opened_in t f n ≡ refused r)
      → CallsFinished t f rooms

-- behind an accepted start, under the keys k, the first block standing at p
pub record CallsAgree (t f : List ℕ) (k : Keys) (p : ℕ) (rooms : List ℕ) : Type 0 where
  -- the calls answer what the steps on the struct answer, and what the plain opener answers
  pub answers_are : step_calls t f rooms ≡ step_answers k f p rooms
  pub plain_are : step_calls t f rooms ≡ plain_answers k f p rooms
  -- the bytes left are those of the struct's state, and their mark is of the plain opener's phase
  pub state_is : bytes_left t f rooms ≡ opener_bytes.packed (state_after k f p rooms)
  pub mark_is : mark_left t f rooms ≡ opener_bytes.mark_of (plain_after k f p rooms).phase
  -- so that all that holds after a list of steps holds after the calls (crate opening, Agreement)
  pub run : RunAgrees k f p rooms
  -- .. until the closing block is taken, the bytes are the first of the definition's decryption
  pub until_closing : mark_left t f rooms ≢ 2 → handed_to_c t f rooms ≡ given k (plain_after k f p rooms).text
  -- .. once it is taken, `kdbx4_open` gives the same bytes, given room
  pub whole_gives : mark_left t f rooms ≡ 2 → (n : ℕ) → length (handed_to_c t f rooms) ≤ n
      → opened_in t f n ≡ opened (handed_to_c t f rooms)
  -- .. a refusal that closed the opening is that of `kdbx4_open`, whatever is lent to it
  pub refusals : Each (λ (a : Answer). (r : Refusal) → a.written ≡ Err r → Closing r
      → (n : ℕ) → opened_in t f n ≡ refused r) (step_calls t f rooms)
  -- .. as many calls with room as the file has bytes take the closing block or end in such a refusal
  pub ends : length f ≤ with_room (step_calls t f rooms) → CallsFinished t f rooms

pub record AgreesInC (t f : List ℕ) : Type 0 where
  -- a refusal that met the start is that of `kdbx4_open`; every call behind it is 19, hands over no byte and leaves the
  -- state's bytes
  pub at_start : (r : Refusal) → start t f ≡ start_refused r → (n : ℕ) → opened_in t f n ≡ refused r
  pub refused_answers : (r : Refusal) → start t f ≡ start_refused r → (rooms : List ℕ)
      → step_calls t f rooms ≡ replicate (length rooms) out_of_sequence
  pub refused_bytes : (r : Refusal) → start t f ≡ start_refused r → (rooms : List ℕ)
      → bytes_left t f rooms ≡ start_bytes t f
  -- behind an accepted start, after every list of calls
  pub after_start : (k : Keys) (p : ℕ) → start t f ≡ begun k p → (rooms : List ℕ) → CallsAgree t f k p rooms
  -- "Two such files, opened with equal keys, with equal header, hash, tag and first data blocks, have handed over the
  -- same when just those are taken"
  pub firsts : (u g : List ℕ) (k l : Keys) (p q : ℕ) → start t f ≡ begun k p → start u g ≡ begun l q
      → (h : Header) → header f ≡ Ok h → EqualKeys (bytes_at f h.seed) t u
      → take p f ≡ take q g
      → (rooms others : List ℕ) → (plain_after k f p rooms).phase ≢ Ended → (plain_after l g q others).phase ≢ Ended
      → (plain_after k f p rooms).number ≡ (plain_after l g q others).number
      → ((j : ℕ) → j < (plain_after k f p rooms).number → block_data f p j ≡ block_data g q j)
      → handed_to_c t f rooms ≡ handed_to_c u g others

-- what feeds answer, where n bytes came before: a part that would take the message past the limit is refused (1)
unfoldable pub verdicts : ℕ → ℕ → List (List ℕ) → List Outcome
verdicts limit n [] = []
verdicts limit n (s ∷ ss) =
    cond (leb (n + length s) limit) ((Ok tt) ∷ verdicts limit (n + length s) ss)
    (Err TooLong ∷ verdicts limit n ss)

-- feeds from a hash's first state on: m is the kind of call, p the algorithm, `feeds` and `finished` are the struct's
pub record FeedsAgree {S : Type 0} (m : LentCalls S (List ℕ) Outcome) (p : Sha2) (started : S)
    (feeds : S → List (List ℕ) → S) (finished : S → List ℕ) (ss : List (List ℕ)) : Type 0 where
  pub answers_are : call_answers m (m.packed started) ss ≡ verdicts message_limit 0 ss
  pub bytes_are : bytes_after m (m.packed started) ss ≡ m.packed (feeds started ss)
  -- the finish gives the standard's hash of the accepted parts joined
  pub digest_is : finished (m.unpacked (bytes_after m (m.packed started) ss)) ≡ hash p (accepted message_limit 0 ss)

-- what the advances ns tell, where d of r rounds were done before: how many are done then, and the halves after so many
unfoldable pub progress : List ℕ → List ℕ → ℕ → ℕ → List ℕ → List Progress
progress c s r d [] = []
progress c s r d (n ∷ ns) =
    progress_of (aes_kdf.stored (after c s r (d + min n (r - d)))) ∷ progress c s r (d + min n (r - d)) ns

-- of a composite key c, a seed s and r rounds
abbrev pub kdf_start : List ℕ → List ℕ → ℕ → List ℕ
kdf_start c s r = aes_kdf_bytes.packed (aes_kdf.started c s r).next

abbrev pub kdf_bytes : List ℕ → List ℕ → ℕ → List ℕ → List ℕ
kdf_bytes c s r ns = bytes_after aes_kdf_calls (kdf_start c s r) ns

pub record AdvancesAgree (c s : List ℕ) (r : ℕ) (ns : List ℕ) : Type 0 where
  pub bytes_are : kdf_bytes c s r ns ≡ aes_kdf_bytes.packed (aes_kdf.advances ns (aes_kdf.started c s r).next)
  -- rounds within the limit: each call tells the rounds done and the halves after so many; T at the end, and 19 before
  pub progress_is : r ≤ rounds_limit → call_answers aes_kdf_calls (kdf_start c s r) ns ≡ progress c s r 0 ns
  pub key_at_end : r ≤ rounds_limit → done_by r ns 0 ≡ r
      → aes_kdf.finished (aes_kdf_bytes.unpacked (kdf_bytes c s r ns))
      ≡ record { outcome = Ok tt; key = transformed_key c s r }
  pub key_too_early : r ≤ rounds_limit → (done_by r ns 0 ≡ r → ⊥)
      → aes_kdf.finished (aes_kdf_bytes.unpacked (kdf_bytes c s r ns))
      ≡ record { outcome = Err OutOfSequence; key = replicate 32 0 }
  -- rounds over the limit: no call changes a byte, and 19 in the place of T
  pub never_advanced : rounds_limit < r → kdf_bytes c s r ns ≡ kdf_start c s r
  pub key_never : rounds_limit < r
      → aes_kdf.finished (aes_kdf_bytes.unpacked (kdf_bytes c s r ns))
      ≡ record { outcome = Err OutOfSequence; key = replicate 32 0 }

-- of an algorithm and an inner key
abbrev pub stream_start : ℕ → List ℕ → List ℕ
stream_start algorithm key = stream_bytes.packed (stream.started algorithm key).next

abbrev pub stream_calls : ℕ → List ℕ → List Stretch → List Answer
stream_calls algorithm key xs = call_answers inner_stream_calls (stream_start algorithm key) xs

abbrev pub stream_left : ℕ → List ℕ → List Stretch → List ℕ
stream_left algorithm key xs = bytes_after inner_stream_calls (stream_start algorithm key) xs

-- the bytes of the stretches that are accepted, joined
abbrev pub stream_taken : ℕ → List ℕ → List Stretch → List ℕ
stream_taken algorithm key xs = stretches.taken (stream.started algorithm key).next xs

pub record StretchesAgree (algorithm : ℕ) (key : List ℕ) (xs : List Stretch) : Type 0 where
  pub answers_are : stream_calls algorithm key xs
      ≡ answers_of inner_stream_calls.answer inner_stream_calls.next (stream.started algorithm key).next xs
  pub bytes_are : stream_left algorithm key xs
      ≡ stream_bytes.packed (stretches.after (stream.started algorithm key).next xs)
  -- an accepted start: what the calls hand over is what the operation gives over the bytes taken, joined, at position
  -- 0, and the bytes left are those of the state behind them
  pub accepted_bytes : (stream.started algorithm key).outcome ≡ (Ok tt) → (room : ℕ)
      → length (stream_taken algorithm key xs) ≤ room
      → bytes_of (stream_calls algorithm key xs) ≡ inner.applied_bytes algorithm key 0 (stream_taken algorithm key xs) room
  pub accepted_left : (stream.started algorithm key).outcome ≡ Ok tt
      → stream_left algorithm key xs
      ≡ stream_bytes.packed (stream.stream_at algorithm key (length (stream_taken algorithm key xs)))
  -- a refused start: every call is 19, hands over no byte and leaves the state's bytes
  pub refused_answers : (r : Refusal) → (stream.started algorithm key).outcome ≡ Err r
      → stream_calls algorithm key xs ≡ replicate (length xs) out_of_sequence
  pub refused_left : (r : Refusal) → (stream.started algorithm key).outcome ≡ Err r
      → stream_left algorithm key xs ≡ stream_start algorithm key
