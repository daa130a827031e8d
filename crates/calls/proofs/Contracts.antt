-- A call of each kind (specs, Calls) is what the contract of its exported function says: the same definitions, of the
-- bytes that the function gets.
--
-- In order: step_call (`kdbx4_step`), sha256_call, sha512_call (the feeds), advance_call (`kdbx4_aes_kdf_advance`),
-- stretch_call (`kdbx4_inner_stream_apply`).
-- Assumes nothing.
use mathlib.Core.Path.{◌≡◌, refl}
use mathlib.Core.List.{List, ◌++◌}
use Prim.Native.Nat.{ℕ}
use Rattle.sha256.specs.State as sha256
use Rattle.sha512.specs.State as sha512
use Rattle.aes_kdf.specs.State as aes_kdf
use Rattle.inner_stream.specs.Stretches.{Stretch}
use Rattle.states.specs.Sha256State as sha256_bytes
use Rattle.states.specs.Sha512State as sha512_bytes
use Rattle.states.specs.AesKdfState as aes_kdf_bytes
use Rattle.calls.specs.Lists.{call_answer, call_next}
use Rattle.calls.specs.Calls.{
  sha256_fed,
  sha512_fed,
  stepped,
  state_or,
  streamed,
  streamed_bytes,
  stream_or,
  sha256_calls,
  sha512_calls,
  aes_kdf_calls,
  opener_calls,
  inner_stream_calls,
}

pub step_call : (f b : List ℕ) (n : ℕ)
    → (call_answer (opener_calls f) b n ≡ (stepped b f n).answer)
    × (call_next (opener_calls f) b n ≡ state_or (stepped b f n) b)
step_call f b n = (refl, refl)

pub sha256_call : (b s : List ℕ)
    → (call_answer sha256_calls b s ≡ (sha256.fed (sha256_bytes.unpacked b) s).outcome)
    × (call_next sha256_calls b s ≡ sha256_fed (sha256.fed (sha256_bytes.unpacked b) s) b)
sha256_call b s = (refl, refl)

pub sha512_call : (b s : List ℕ)
    → (call_answer sha512_calls b s ≡ (sha512.fed (sha512_bytes.unpacked b) s).outcome)
    × (call_next sha512_calls b s ≡ sha512_fed (sha512.fed (sha512_bytes.unpacked b) s) b)
sha512_call b s = (refl, refl)

pub advance_call : (b : List ℕ) (n : ℕ)
    → ((call_answer aes_kdf_calls b n).done ≡ (aes_kdf.advanced n (aes_kdf_bytes.unpacked b)).done)
    × ((call_answer aes_kdf_calls b n).halves
    ≡ (aes_kdf.advanced n (aes_kdf_bytes.unpacked b)).left ++ (aes_kdf.advanced n (aes_kdf_bytes.unpacked b)).right)
    × (call_next aes_kdf_calls b n ≡ aes_kdf_bytes.packed (aes_kdf.advanced n (aes_kdf_bytes.unpacked b)))
advance_call b n = (refl, refl, refl)

pub stretch_call : (b : List ℕ) (x : Stretch)
    → ((call_answer inner_stream_calls b x).written ≡ (streamed b x.bytes x.room).written)
    × ((call_answer inner_stream_calls b x).bytes ≡ streamed_bytes b x.bytes x.room)
    × (call_next inner_stream_calls b x ≡ stream_or (streamed b x.bytes x.room) b)
stretch_call b x = (refl, refl, refl)
