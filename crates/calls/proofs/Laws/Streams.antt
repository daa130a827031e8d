-- The calls of an inner stream do on its bytes what they do on its state.
--
-- In order: started-typed, lent-typed (of any bytes that are lent), inner_stream_faithful.
-- Assumes nothing.
use Rattle.std.specs.Prelude.{Ok, Err}
use mathlib.Core.Path.{◌≡◌, refl}
use mathlib.Core.List.{List}
use Prim.Native.Nat.{ℕ, ◌+◌, ◌≤◌}
use native.Mathlib.Omega.{arith}
use lib.Dec.{eqb, leb}
use lib.ListN.{length, drop, length-drop}
use lib.Seq.{length-take-le}
use Rattle.words.specs.Endian.{Bytes}
use Rattle.words.proofs.Laws.Cases.{by_bool}
use Rattle.words.proofs.Laws.Endian.{le-lt}
use Rattle.slices.proofs.Laws.Parts.{length_part}
use Rattle.refusals.specs.Limits.{stream_limit}
use Rattle.refusals.proofs.Laws.Limits.{stream_word}
use Rattle.refusals.specs.Numbers.{Written}
use Rattle.fips180.specs.Fips180 as fips180
use Rattle.fips180.specs.Fips180.{hash}
use Rattle.fips180.specs.Fips180.Constants.{iv512}
use Rattle.fips180.proofs.Laws.Lengths.{length-iv256, length-hash}
use Rattle.inner_stream.specs.InnerStream.{listed}
use Rattle.inner_stream.specs.State.{stream_at, closed, started, left, answer, applied}
use Rattle.inner_stream.specs.declared.InnerStream.{InnerStream}
use Rattle.inner_stream.proofs.Laws.{accepted-planned}
use Rattle.states.specs.InnerStreamState as bytes
use Rattle.states.proofs.RoundTrip.{inner_stream_round_trip}
use Rattle.calls.specs.Lists.{Faithful}
use Rattle.calls.specs.Calls.{kept_unless, inner_stream_calls}

typed-closed : bytes.Typed closed
typed-closed =
    record { long_key = refl; long_nonce = refl; lt_position = omega arith }

length_hash512 : (m : List ℕ) → length (hash fips180.sha512 m) ≡ 64
unfolding iv512
length_hash512 m = length-hash fips180.sha512 m refl

typed_at : (algorithm : ℕ) (key : List ℕ) → bytes.Typed (stream_at algorithm key 0)
unfolding stream_at
typed_at algorithm key =
    let n = length_hash512 key in
    let d : 12 ≤ length (drop 32 (hash fips180.sha512 key)) = simp length-drop (omega arith) in
    by_bool (eqb algorithm 3)
    (λ t. rw t (record {
      long_key = length-take-le 32 (hash fips180.sha512 key) (omega arith);
      long_nonce = length-take-le 12 (drop 32 (hash fips180.sha512 key)) d;
      lt_position = omega arith;
    }))
    (λ t. rw t (record {
      long_key = length-hash fips180.sha256 key length-iv256;
      long_nonce = refl;
      lt_position = omega arith;
    }))

pub started-typed : (algorithm : ℕ) (key : List ℕ) → bytes.Typed (started algorithm key).next
unfolding started
started-typed algorithm key =
    by_bool (listed algorithm)
    (λ t.
    by_bool (leb (length key) stream_limit) (λ u. rw (t, u) (typed_at algorithm key)) (λ u. rw (t, u) typed-closed))
    (λ t. rw t typed-closed)

pub lent-typed : (b : List ℕ) → length b ≡ 53 → Bytes b → bytes.Typed (bytes.unpacked b)
unfolding bytes.unpacked
lent-typed b l h =
    record {
      long_key = length_part b 1 32 (omega arith);
      long_nonce = length_part b 33 12 (omega arith);
      lt_position = le-lt 8 b 45 h;
    }

-- the state behind a stretch
typed_left : (s : InnerStream) (w : Written) → bytes.Typed s
    → ((n : ℕ) → w ≡ Ok n → s.position + n ≤ stream_limit)
    → bytes.Typed (left s w).next
typed_left s (Ok n) t h =
    record {
      long_key = t.long_key;
      long_nonce = t.long_nonce;
      lt_position = let l = h n refl in omega (arith, stream_word);
    }
typed_left s (Err r) t h = t

wrote_within : (s : InnerStream) (n room m : ℕ) → answer s n room ≡ Ok m → s.position + m ≤ stream_limit
wrote_within s n room m e =
    let p = (accepted-planned s n room m e).1 in
    omega (arith, p.long, p.end_fits)

typed-applied : (s : InnerStream) (b : List ℕ) (room : ℕ) → bytes.Typed s → bytes.Typed (applied s b room).next
unfolding applied
typed-applied s b room t =
    typed_left s (answer s (length b) room) t (λ m e. wrote_within s (length b) room m e)

kept_left : (s : InnerStream) (w : Written)
    → kept_unless (left s w).written (bytes.packed (left s w).next) (bytes.packed s) ≡ bytes.packed (left s w).next
kept_left s (Ok n) = refl
kept_left s (Err r) = refl

kept_applied : (s : InnerStream) (b : List ℕ) (room : ℕ)
    → kept_unless (applied s b room).written (bytes.packed (applied s b room).next) (bytes.packed s)
    ≡ bytes.packed (applied s b room).next
unfolding applied
kept_applied s b room = kept_left s (answer s (length b) room)

pub inner_stream_faithful : Faithful inner_stream_calls bytes.Typed
inner_stream_faithful =
    record {
      round_trip = inner_stream_round_trip;
      stays = λ s x t. typed-applied s x.bytes x.room t;
      keeps = λ s x. kept_applied s x.bytes x.room;
    }
