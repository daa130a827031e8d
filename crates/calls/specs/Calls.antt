-- What the calls on a lent state answer, and the bytes that they leave: of a hash, of the key transformation, of an
-- opening, of an inner stream. Document 01, "Refusal numbers": "A refusal … changes no lent byte".
--
--   result_or             a result, where the operation accepts
--   sha256_fed            the bytes of a hash's state after a feed; sha512_fed
--   stepped              a step from the state that 410 bytes stand for
--   kept_or               the bytes of the state after it, by its number; state_or
--   streamed             a stretch of the inner stream that 53 bytes stand for; streamed_bytes
--   kept_unless           the bytes of the state after it; stream_or
--   sha256_calls, sha512_calls, aes_kdf_calls, opener_calls, inner_stream_calls    the five as kinds of call (Lists)
-- The contracts of `kdbx4_step`, `kdbx4_inner_stream_apply`, the feeds and `kdbx4_aes_kdf_advance` (crate exports) cite
-- the same definitions; proofs, Contracts, has that a call of each kind is the contract's.
-- Assumes nothing.
use Rattle.std.specs.Prelude.{cond, List, ◌++◌, ℕ, eqb, Ok, Err}
use Rattle.refusals.specs.Numbers.{Outcome}
use Rattle.refusals.specs.Numbers.{Written}
use Rattle.refusals.specs.Numbers.{number_of}
use Rattle.sha256.specs.declared.Sha256.{Sha256}
use Rattle.sha256.specs.declared.Fed.{Fed as Fed256}
use Rattle.sha256.specs.State as sha256
use Rattle.sha512.specs.declared.Sha512.{Sha512}
use Rattle.sha512.specs.declared.Fed.{Fed as Fed512}
use Rattle.sha512.specs.State as sha512
use Rattle.aes_kdf.specs.declared.Transformation.{Transformation}
use Rattle.aes_kdf.specs.State as aes_kdf
use Rattle.inner_stream.specs.declared.InnerStream.{InnerStream}
use Rattle.inner_stream.specs.declared.Applied.{Applied}
use Rattle.inner_stream.specs.State as inner_stream
use Rattle.inner_stream.specs.Stretches.{Stretch}
use Rattle.opening.specs.declared.Opener.{Opener}
use Rattle.opening.specs.Runs.{Answer, Reply}
use Rattle.opening.specs.Steps.{step_of}
use Rattle.states.specs.Sha256State as sha256_bytes
use Rattle.states.specs.Sha512State as sha512_bytes
use Rattle.states.specs.AesKdfState as aes_kdf_bytes
use Rattle.states.specs.OpenerState as opener_bytes
use Rattle.states.specs.InnerStreamState as stream_bytes
use Rattle.calls.specs.Lists.{LentCalls}

-- the result where the operation accepts, and the bytes that the array had where it refuses
abbrev pub result_or : Outcome → List ℕ → List ℕ → List ℕ
result_or (Ok tt) result had = result
result_or (Err r) result had = had

-- the bytes of the state after a feed
abbrev pub sha256_fed : Fed256 → List ℕ → List ℕ
sha256_fed fed had = result_or fed.outcome (sha256_bytes.packed fed.next) had

abbrev pub sha512_fed : Fed512 → List ℕ → List ℕ
sha512_fed fed had = result_or fed.outcome (sha512_bytes.packed fed.next) had

-- a step from the state that the bytes stand for, over a file, with so many bytes lent
abbrev pub stepped : List ℕ → List ℕ → ℕ → Reply Opener
stepped bytes file room = step_of file (opener_bytes.unpacked bytes) room

-- "A state handed back with .. 17 or 19 is as it was": its very bytes
abbrev pub kept_or : ℕ → List ℕ → List ℕ → List ℕ
kept_or number next had = cond (eqb number 17) had (cond (eqb number 19) had next)

abbrev pub state_or : Reply Opener → List ℕ → List ℕ
state_or q had = kept_or (number_of q.answer.written) (opener_bytes.packed q.next) had

-- a stretch of the inner stream that the bytes stand for, with so many bytes lent
abbrev pub streamed : List ℕ → List ℕ → ℕ → Applied
streamed bytes s room = inner_stream.applied (stream_bytes.unpacked bytes) s room

abbrev pub streamed_bytes : List ℕ → List ℕ → ℕ → List ℕ
streamed_bytes bytes s room = inner_stream.handed (stream_bytes.unpacked bytes) s room

-- a refused stretch leaves the state as it was: its very bytes
abbrev pub kept_unless : Written → List ℕ → List ℕ → List ℕ
kept_unless (Ok n) next had = next
kept_unless (Err r) next had = had

abbrev pub stream_or : Applied → List ℕ → List ℕ
stream_or a had = kept_unless a.written (stream_bytes.packed a.next) had

-- feeds, by the part that is fed
abbrev pub sha256_calls : LentCalls Sha256 (List ℕ) Outcome
sha256_calls =
    record {
      answer = λ h s. (sha256.fed h s).outcome;
      next = λ h s. (sha256.fed h s).next;
      packed = sha256_bytes.packed;
      unpacked = sha256_bytes.unpacked;
      kept = result_or;
    }

abbrev pub sha512_calls : LentCalls Sha512 (List ℕ) Outcome
sha512_calls =
    record {
      answer = λ h s. (sha512.fed h s).outcome;
      next = λ h s. (sha512.fed h s).next;
      packed = sha512_bytes.packed;
      unpacked = sha512_bytes.unpacked;
      kept = result_or;
    }

-- an advance: the rounds done in all, and the halves after so many
pub record Progress : Type 0 where
  pub done : ℕ
  pub halves : List ℕ

abbrev pub progress_of : Transformation → Progress
progress_of t = record { done = t.done; halves = t.left ++ t.right }

-- advances, by the number of rounds; an advance refuses nothing
abbrev pub aes_kdf_calls : LentCalls Transformation ℕ Progress
aes_kdf_calls =
    record {
      answer = λ t n. progress_of (aes_kdf.advanced n t);
      next = λ t n. aes_kdf.advanced n t;
      packed = aes_kdf_bytes.packed;
      unpacked = aes_kdf_bytes.unpacked;
      kept = λ a next had. next;
    }

-- steps over a file, by the lent length
abbrev pub opener_calls : List ℕ → LentCalls Opener ℕ Answer
opener_calls file =
    record {
      answer = λ o n. (step_of file o n).answer;
      next = λ o n. (step_of file o n).next;
      packed = opener_bytes.packed;
      unpacked = opener_bytes.unpacked;
      kept = λ a. kept_or (number_of a.written);
    }

-- stretches
abbrev pub inner_stream_calls : LentCalls InnerStream Stretch Answer
inner_stream_calls =
    record {
      answer = λ s x.
          record {
            written = (inner_stream.applied s x.bytes x.room).written;
            bytes = inner_stream.handed s x.bytes x.room;
          };
      next = λ s x. (inner_stream.applied s x.bytes x.room).next;
      packed = stream_bytes.packed;
      unpacked = stream_bytes.unpacked;
      kept = λ a. kept_unless a.written;
    }
