-- Helpings and stretches cut where a caller in C likes: document 02, Item 9, over the bytes of a state.
--
-- In order:
--   zero-packed, zero_written    an advance of 0 leaves the bytes of a state, and what a start or an advance wrote
--   advances-add                 any 281 bytes: an advance behind an advance
--   stream_returned              any bytes: a stretch that is accepted, covered twice
--   kept_unless-wrote             an accepted stretch leaves the bytes of the state behind it
--   stream_cut_in_two            any 53 bytes: a stretch that is accepted, cut in two
-- Assumes nothing.
use Rattle.std.specs.Prelude.{Ok}
use mathlib.Core.Path.{◌≡◌, refl, sym, ap, ◌∙◌}
use mathlib.Core.List.{List, ◌++◌}
use Prim.Native.Nat.{ℕ, ◌≤◌}
use native.Mathlib.Omega.{arith}
use lib.ListN.{length, take, drop, length-append}
use Rattle.words.specs.Endian.{Bytes}
use Rattle.words.specs.Sums.{total}
use Rattle.refusals.specs.Numbers.{Written}
use Rattle.slices.specs.Over.{over}
use Rattle.aes_kdf.specs.declared.Transformation.{Transformation}
use Rattle.aes_kdf.specs.State.{started, advanced}
use Rattle.aes_kdf.proofs.Steps.{helpings-add}
use Rattle.inner_stream.specs.declared.Applied.{Applied}
use Rattle.inner_stream.specs.State as stream
use Rattle.inner_stream.specs.Cuts.{StateCutInTwo}
use Rattle.inner_stream.proofs.Cuts.{accepted_long, accepted_room, state_returned, state_cut_in_two}
use Rattle.opening.specs.Runs.{Answer}
use Rattle.states.specs.AesKdfState as aes_kdf_bytes
use Rattle.states.specs.InnerStreamState as stream_bytes
use Rattle.calls.specs.Lists.{left_by, call_next}
use Rattle.calls.specs.Calls.{progress_of, kept_unless, aes_kdf_calls, inner_stream_calls}
use Rattle.calls.specs.Cuts.{
  KdfBytes,
  by_start,
  by_advance,
  AdvancesAdd,
  stretched,
  state_behind,
  out_from,
  StreamReturned,
  StreamCutInTwo,
}
use Rattle.calls.proofs.Laws.Carried.{carried_next, carried_after, second_answer, second_next}
use Rattle.calls.proofs.Laws.Transformations.{aes_kdf_faithful}
use Rattle.calls.proofs.Laws.Transformations as transformations
use Rattle.calls.proofs.Laws.Streams.{inner_stream_faithful}
use Rattle.calls.proofs.Laws.Streams as streams
use Rattle.calls.proofs.Laws.Bridges.{left_advances}

zero-packed : (t : Transformation) → aes_kdf_bytes.Typed t
    → call_next aes_kdf_calls (aes_kdf_bytes.packed t) 0 ≡ aes_kdf_bytes.packed t
zero-packed t h =
    carried_next aes_kdf_calls aes_kdf_bytes.Typed aes_kdf_faithful t 0 h
    ∙ ap aes_kdf_bytes.packed (helpings-add t).helping_zero

zero_written : (b : List ℕ) → KdfBytes b → call_next aes_kdf_calls b 0 ≡ b
zero_written b (by_start c s r l h e) =
    rw e (zero-packed (started c s r).next (transformations.started-typed c s l h r))
zero_written b (by_advance had n l h e) =
    let t = transformations.lent-typed had l h in
    rw e (zero-packed (advanced n (aes_kdf_bytes.unpacked had)) (aes_kdf_faithful.stays (aes_kdf_bytes.unpacked had) n t))

pub advances-add : (b : List ℕ) → length b ≡ 281 → Bytes b → AdvancesAdd b
unfolding total left_by
advances-add b l h =
    let first : Transformation = aes_kdf_bytes.unpacked b in
    let typed = transformations.lent-typed b l h in
    let adds = helpings-add first in
    record {
      bytes_add = λ x y.
          second_next aes_kdf_calls aes_kdf_bytes.Typed aes_kdf_faithful b typed x refl y
          ∙ ap aes_kdf_bytes.packed (adds.helping_add x y);
      told_add = λ x y.
          second_answer aes_kdf_calls aes_kdf_bytes.Typed aes_kdf_faithful b typed x refl y
          ∙ ap progress_of (adds.helping_add x y);
      bytes_total = λ n ns.
          let next : Transformation = advanced n first in
          carried_after aes_kdf_calls aes_kdf_bytes.Typed aes_kdf_faithful ns next (aes_kdf_faithful.stays first n typed)
          ∙ ap aes_kdf_bytes.packed
          (left_advances ns next ∙ (helpings-add next).helpings_total ns ∙ adds.helping_add n (total ns));
      told_zero = ap progress_of adds.helping_zero;
      bytes_zero = zero_written b;
    }

pub stream_returned : (b s out : List ℕ) (n : ℕ) → (stretched b s (length out)).written ≡ Ok n
    → StreamReturned b s out
stream_returned b s out n e =
    let back = state_returned (stream_bytes.unpacked b) s out n e in
    record {
      accepted = λ room h.
          ap (λ (a : Applied). a.written) (back.answer room h) ∙ e
          ∙ ap Ok (accepted_long (stream_bytes.unpacked b) s (length out) n e);
      bytes = back.bytes;
      lent = back.lent;
      leaves = λ room h.
          ap (λ (a : Applied). kept_unless a.written (stream_bytes.packed a.next) b) (back.answer room h);
    }

kept_unless-wrote : (w : Written) (n : ℕ) (next had : List ℕ) → w ≡ Ok n → kept_unless w next had ≡ next
kept_unless-wrote w n next had e = rw e

module _ (b : List ℕ) (l : length b ≡ 53) (h : Bytes b) (s t out : List ℕ) (n : ℕ)
    (e : (stretched b (s ++ t) (length out)).written ≡ Ok n) where
  two : StateCutInTwo (stream_bytes.unpacked b) s t out
  two = state_cut_in_two (stream_bytes.unpacked b) s t out n e

  wrote_first : (m : ℕ) → length s ≤ m
      → state_behind b s m ≡ stream_bytes.packed (stream.applied (stream_bytes.unpacked b) s m).next
  wrote_first m k = kept_unless-wrote _ (length s) _ b (two.first m k)

  -- the second stretch, from the bytes that the first left
  then : (m : ℕ) → length s ≤ m → (k : ℕ)
      → stretched (state_behind b s m) t k ≡ record {
        written = (stream.applied (stream.applied (stream_bytes.unpacked b) s m).next t k).written;
        bytes = stream.handed (stream.applied (stream_bytes.unpacked b) s m).next t k;
      }
  then m i k =
      second_answer inner_stream_calls stream_bytes.Typed inner_stream_faithful b (streams.lent-typed b l h) _
      (wrote_first m i) _

  pub stream_cut_in_two : StreamCutInTwo b s t out
  stream_cut_in_two =
      let r = accepted_room (stream_bytes.unpacked b) (s ++ t) (length out) n e in
      let i : length s ≤ length out = omega (arith, length-append s t) in
      record {
        first = two.first;
        second = λ m k i j.
            ap (λ (a : Answer). a.written) (then m i k) ∙ ap (λ (a : Applied). a.written) (two.second m k i j);
        bytes = λ m k i j. ap (λ (a : Answer). (stretched b s m).bytes ++ a.bytes) (then m i k) ∙ two.bytes m k i j;
        lent =
            let w : List ℕ = out_from b s out in
            let d : List ℕ = drop (length s) w in
            ap (λ (a : Answer). take (length s) w ++ over a.bytes d) (then (length out) i (length d)) ∙ two.lent;
        leaves = λ m k i j.
            second_next inner_stream_calls stream_bytes.Typed inner_stream_faithful b (streams.lent-typed b l h) _
            (wrote_first m i) _
            ∙ ap (λ (a : Applied). stream_bytes.packed a.next) (two.second m k i j)
            ∙ sym (kept_unless-wrote _ n _ b e);
      }
