-- Lists of calls on a hash, on the key transformation and on an inner stream, over their lent bytes.
--
-- In order:
--   sha256-verdicts, sha512-verdicts    which parts are refused, on the struct
--   sha256-feeds, sha512-feeds          any list of feeds, and the finish
--   refused_left, refused-finish        refused rounds, on the struct
--   progress_steps                      what a list of advances tells, on the struct
--   advances-agree                      any list of advances, and the finish
--   closed-answers, closed_after        an inner stream that is not open, on the struct
--   stretches_agree                     any list of stretches
-- Refused calls are in the lists.
-- An HMAC has no lent state: C has it in one call.
-- Not here: openings (Theorem).
-- Assumes nothing.
use Rattle.std.specs.Prelude.{Ok, Err}
use mathlib.Core.Path.{◌≡◌, refl, sym, ap, ◌∙◌}
use mathlib.Core.Bool.{false}
use mathlib.Core.List.{List, [], ◌∷◌}
use Prim.Native.Nat.{ℕ, ◌+◌, ◌-◌, ◌≤◌, ◌<◌, min}
use native.Mathlib.Nat.{add-zero}
use native.Mathlib.Omega.{arith}
use lib.Dec.{leb}
use lib.ListN.{length, replicate}
use borrow.Author.Tests.{lt-leb}
use Rattle.words.specs.Endian.{Bytes}
use Rattle.words.proofs.Laws.Cases.{by_bool}
use Rattle.refusals.specs.declared.Refusal.TheVariants.{TooLong, OutOfSequence}
use Rattle.refusals.specs.Numbers.{Outcome}
use Rattle.refusals.specs.Limits.{message_limit, rounds_limit}
use Rattle.fips180.specs.Fips180 as fips180
use Rattle.fips180.specs.Hashing as hashing
use Rattle.sha256.specs.declared.Sha256.{Sha256}
use Rattle.sha256.specs.State as sha256
use Rattle.sha256.proofs.Parts.{sha256_of_parts}
use Rattle.sha512.specs.declared.Sha512.{Sha512}
use Rattle.sha512.specs.State as sha512
use Rattle.sha512.proofs.Parts.{sha512_of_parts}
use Rattle.aes.specs.Repeated.{repeated}
use Rattle.aes_kdf.specs.declared.Transformation.{Transformation}
use Rattle.aes_kdf.specs.AesKdf as kdf
use Rattle.aes_kdf.specs.AesKdf.{Transforming, half_after, after}
use Rattle.aes_kdf.specs.State.{held, stored, started, advanced, advances, finished}
use Rattle.aes_kdf.proofs.Laws.{held-stored, stored-held, advanced_after}
use Rattle.aes_kdf.proofs.Steps.{held-started, key_at_end, key_too_early}
use Rattle.inner_stream.specs.declared.InnerStream.{InnerStream}
use Rattle.inner_stream.specs.State as stream
use Rattle.inner_stream.specs.State.{is_open}
use Rattle.inner_stream.specs.Stretches.{Stretch}
use Rattle.inner_stream.proofs.Stretches.{carried, refused-start, refused-apply}
use Rattle.opening.specs.Runs.{Answer, bytes_of}
use Rattle.states.specs.Sha256State as sha256_bytes
use Rattle.states.specs.Sha512State as sha512_bytes
use Rattle.states.specs.AesKdfState as aes_kdf_bytes
use Rattle.states.specs.InnerStreamState as stream_bytes
use Rattle.calls.specs.Lists.{answers_of, left_by}
use Rattle.calls.specs.Calls.{progress_of, sha256_calls, sha512_calls, aes_kdf_calls, inner_stream_calls}
use Rattle.calls.specs.Agreement.{
  out_of_sequence,
  verdicts,
  FeedsAgree,
  progress,
  kdf_bytes,
  AdvancesAgree,
  stream_taken,
  StretchesAgree,
}
use Rattle.calls.proofs.Laws.Carried.{carried_answers, carried_after, carried_unpacked}
use Rattle.calls.proofs.Laws.Hashes.{sha256-typed, sha256_faithful, sha512-typed, sha512_faithful}
use Rattle.calls.proofs.Laws.Transformations.{aes_kdf_faithful}
use Rattle.calls.proofs.Laws.Transformations as transformations
use Rattle.calls.proofs.Laws.Streams.{inner_stream_faithful}
use Rattle.calls.proofs.Laws.Streams as streams
use Rattle.calls.proofs.Laws.Bridges.{left_sha256, left_sha512, left_advances, left_stretches, handed_stretches}

sha256-verdicts : (ss : List (List ℕ)) (h : Sha256)
    → answers_of sha256_calls.answer sha256_calls.next h ss ≡ verdicts message_limit h.total ss
unfolding answers_of verdicts hashing.feed_to hashing.absorbed
sha256-verdicts [] h = refl
sha256-verdicts (s ∷ ss) h =
    by_bool (leb (h.total + length s) message_limit)
    (λ t. rw t (ap (λ (l : List Outcome). (Ok tt) ∷ l) (sha256-verdicts ss (sha256.absorbed h s))))
    (λ t. rw t (ap (λ (l : List Outcome). Err TooLong ∷ l) (sha256-verdicts ss h)))

pub sha256-feeds : (ss : List (List ℕ))
    → FeedsAgree sha256_calls fips180.sha256 sha256.started sha256.feeds sha256.finished ss
unfolding hashing.start
sha256-feeds ss =
    record {
      answers_are =
          carried_answers sha256_calls sha256_bytes.Typed sha256_faithful ss sha256.started sha256-typed
          ∙ sha256-verdicts ss sha256.started;
      bytes_are =
          carried_after sha256_calls sha256_bytes.Typed sha256_faithful ss sha256.started sha256-typed
          ∙ ap sha256_bytes.packed (left_sha256 ss sha256.started);
      digest_is =
          ap sha256.finished
          (carried_unpacked sha256_calls sha256_bytes.Typed sha256_faithful ss sha256.started sha256-typed
          ∙ left_sha256 ss sha256.started)
          ∙ sha256_of_parts ss;
    }

sha512-verdicts : (ss : List (List ℕ)) (h : Sha512)
    → answers_of sha512_calls.answer sha512_calls.next h ss ≡ verdicts message_limit h.total ss
unfolding answers_of verdicts hashing.feed_to hashing.absorbed
sha512-verdicts [] h = refl
sha512-verdicts (s ∷ ss) h =
    by_bool (leb (h.total + length s) message_limit)
    (λ t. rw t (ap (λ (l : List Outcome). (Ok tt) ∷ l) (sha512-verdicts ss (sha512.absorbed h s))))
    (λ t. rw t (ap (λ (l : List Outcome). Err TooLong ∷ l) (sha512-verdicts ss h)))

pub sha512-feeds : (ss : List (List ℕ))
    → FeedsAgree sha512_calls fips180.sha512 sha512.started sha512.feeds sha512.finished ss
unfolding hashing.start
sha512-feeds ss =
    record {
      answers_are =
          carried_answers sha512_calls sha512_bytes.Typed sha512_faithful ss sha512.started sha512-typed
          ∙ sha512-verdicts ss sha512.started;
      bytes_are =
          carried_after sha512_calls sha512_bytes.Typed sha512_faithful ss sha512.started sha512-typed
          ∙ ap sha512_bytes.packed (left_sha512 ss sha512.started);
      digest_is =
          ap sha512.finished
          (carried_unpacked sha512_calls sha512_bytes.Typed sha512_faithful ss sha512.started sha512-typed
          ∙ left_sha512 ss sha512.started)
          ∙ sha512_of_parts ss;
    }

-- refused rounds stay refused
refused-advances : (ns : List ℕ) (t : Transformation) → (held t).accepted ≡ false
    → (held (advances ns t)).accepted ≡ false
unfolding advances kdf.advanced
refused-advances [] t e = e
refused-advances (n ∷ ns) t e =
    refused-advances ns (advanced n t)
    (ap (λ (x : Transforming). x.accepted) (held-stored (kdf.advanced n (held t))) ∙ e)

-- .. and do nothing
advanced-refused : (n : ℕ) (t : Transforming) → t.accepted ≡ false → kdf.advanced n t ≡ t
unfolding kdf.advanced kdf.remaining kdf.is_open half_after repeated
advanced-refused n t e =
    let z : min n 0 ≡ 0 = omega arith in
    rw (e, z, add-zero t.done)

refused_left : (ns : List ℕ) (t : Transformation) → (held t).accepted ≡ false → left_by aes_kdf_calls.next t ns ≡ t
unfolding left_by
refused_left [] t e = refl
refused_left (n ∷ ns) t e =
    let x : advanced n t ≡ t = ap stored (advanced-refused n (held t) e) ∙ stored-held t in
    rw x (refused_left ns t e)

refused-finish : (t : Transformation) → (held t).accepted ≡ false
    → finished t ≡ record { outcome = Err OutOfSequence; key = replicate 32 0 }
unfolding kdf.finish kdf.is_open
refused-finish t e = rw e

refused-started : (c s : List ℕ) (r : ℕ) → rounds_limit < r → (held (started c s r).next).accepted ≡ false
unfolding kdf.start kdf.refused
refused-started c s r l = rw (lt-leb r rounds_limit l)

-- what the advances tell
module _ (c s : List ℕ) (r : ℕ) (within : r ≤ rounds_limit) where
  progress_steps : (ns : List ℕ) (d : ℕ) → d ≤ r → (t : Transformation) → held t ≡ after c s r d
      → answers_of aes_kdf_calls.answer aes_kdf_calls.next t ns ≡ progress c s r d ns
  unfolding answers_of progress
  progress_steps [] d l t e = refl
  progress_steps (n ∷ ns) d l t e =
      let x : kdf.advanced n (held t) ≡ after c s r (d + min n (r - d)) =
      ap (kdf.advanced n) e ∙ advanced_after c s r within n d l in
      let y = progress_steps ns (d + min n (r - d)) (omega arith) (advanced n t)
      (held-stored (kdf.advanced n (held t)) ∙ x) in
      rw y (ap (λ (z : Transforming). progress_of (stored z) ∷ progress c s r (d + min n (r - d)) ns) x)

-- a composite key of 32 bytes, and a seed of bytes, as C lends them
pub advances-agree : (c s : List ℕ) → length c ≡ 32 → Bytes s → (r : ℕ) (ns : List ℕ) → AdvancesAgree c s r ns
advances-agree c s l b r ns =
    let first : Transformation = (started c s r).next in
    let typed = transformations.started-typed c s l b r in
    let unpacked : aes_kdf_bytes.unpacked (kdf_bytes c s r ns) ≡ advances ns first =
    carried_unpacked aes_kdf_calls aes_kdf_bytes.Typed aes_kdf_faithful ns first typed ∙ left_advances ns first in
    record {
      bytes_are =
          carried_after aes_kdf_calls aes_kdf_bytes.Typed aes_kdf_faithful ns first typed
          ∙ ap aes_kdf_bytes.packed (left_advances ns first);
      progress_is = λ w.
          carried_answers aes_kdf_calls aes_kdf_bytes.Typed aes_kdf_faithful ns first typed
          ∙ progress_steps c s r w ns 0 (omega arith) first (held-started c s r w);
      key_at_end = λ w e. ap finished unpacked ∙ key_at_end c s r w ns e;
      key_too_early = λ w n. ap finished unpacked ∙ key_too_early c s r w ns n;
      never_advanced = λ w.
          carried_after aes_kdf_calls aes_kdf_bytes.Typed aes_kdf_faithful ns first typed
          ∙ ap aes_kdf_bytes.packed (refused_left ns first (refused-started c s r w));
      key_never = λ w.
          ap finished unpacked
          ∙ refused-finish (advances ns first) (refused-advances ns first (refused-started c s r w));
    }

-- a state that is not open
closed-answers : (xs : List Stretch) (s : InnerStream) → is_open s ≡ false
    → answers_of inner_stream_calls.answer inner_stream_calls.next s xs ≡ replicate (length xs) out_of_sequence
unfolding answers_of
closed-answers [] s e = refl
closed-answers (x ∷ xs) s e =
    let a = refused-apply s x.bytes x.room e in
    rw (a.0, a.1) (ap (λ (l : List Answer). out_of_sequence ∷ l) (closed-answers xs s e))

closed_after : (xs : List Stretch) (s : InnerStream) → is_open s ≡ false → left_by inner_stream_calls.next s xs ≡ s
unfolding left_by
closed_after [] s e = refl
closed_after (x ∷ xs) s e = rw (refused-apply s x.bytes x.room e).0 (closed_after xs s e)

pub stretches_agree : (algorithm : ℕ) (key : List ℕ) (xs : List Stretch) → StretchesAgree algorithm key xs
stretches_agree algorithm key xs =
    let first : InnerStream = (stream.started algorithm key).next in
    let typed = streams.started-typed algorithm key in
    let answers = carried_answers inner_stream_calls stream_bytes.Typed inner_stream_faithful xs first typed in
    let left = carried_after inner_stream_calls stream_bytes.Typed inner_stream_faithful xs first typed in
    record {
      answers_are = answers;
      bytes_are = left ∙ ap stream_bytes.packed (left_stretches xs first);
      accepted_bytes = λ e room l.
          ap bytes_of answers ∙ handed_stretches xs first ∙ sym (carried algorithm key e xs room l).1;
      accepted_left = λ e.
          left
          ∙ ap stream_bytes.packed
          (left_stretches xs first
          ∙ (carried algorithm key e xs (length (stream_taken algorithm key xs)) (omega arith)).2);
      refused_answers = λ r e. answers ∙ closed-answers xs first (refused-start algorithm key r e);
      refused_left = λ r e. left ∙ ap stream_bytes.packed (closed_after xs first (refused-start algorithm key r e));
    }
