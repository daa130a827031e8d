-- A hash's calls do on its bytes what they do on its state.
--
-- In order:
--   Sized, sized-start, sized-feed         lengths and widths of a hash under way, over both algorithms
--   sha256-typed, sha256_faithful          SHA-256
--   sha512-typed, sha512_faithful          SHA-512
-- Assumes nothing.
use mathlib.Core.Path.{◌≡◌, refl}
use mathlib.Core.List.{List, ◌++◌}
use Prim.Native.Nat.{ℕ, ◌+◌, ◌^◌, ◌≤◌, ◌<◌}
use native.Mathlib.Omega.{arith}
use lib.Dec.{leb}
use lib.ListN.{length, length-replicate}
use borrow.Author.Tests.{leb-true}
use Rattle.words.proofs.Laws.Cases.{by_bool}
use Rattle.refusals.specs.Limits.{message_limit}
use Rattle.fips180.specs.Fips180 as fips180
use Rattle.fips180.specs.Fips180.{Sha2, block_bytes, parse}
use Rattle.fips180.specs.Fips180.Constants.{iv512}
use Rattle.fips180.specs.Hashing.{Hashing, start, pending, absorbed, feed_to}
use Rattle.fips180.proofs.Laws.Lengths.{length-iv256, length-hash_blocks}
use Rattle.fips180.proofs.Laws.Feeding.{length_kept}
use Rattle.sha256.specs.declared.Sha256.{Sha256}
use Rattle.sha256.specs.State as sha256
use Rattle.sha512.specs.declared.Sha512.{Sha512}
use Rattle.sha512.specs.State as sha512
use Rattle.states.specs.Sha256State as sha256_bytes
use Rattle.states.specs.Sha512State as sha512_bytes
use Rattle.states.proofs.RoundTrip.{sha256_round_trip, sha512_round_trip}
use Rattle.calls.specs.Lists.{Faithful}
use Rattle.calls.specs.Calls.{result_or, sha256_calls, sha512_calls}
use Rattle.calls.proofs.Laws.Below.{Below, below_iv256, below_iv512, below_hash_blocks}

-- a message's length is a 32-bit number
message_word : message_limit < 2 ^ 32
unfolding message_limit
message_word = omega arith

record Sized (p : Sha2) (h : Hashing) : Type 0 where
  long_chain : length h.chain ≡ 8
  below_chain : Below (2 ^ p.bits) h.chain
  long_buffer : length h.buffer ≡ block_bytes p
  lt_total : h.total < 2 ^ 32

module _ (p : Sha2) where
  sized-start : length p.iv ≡ 8 → Below (2 ^ p.bits) p.iv → Sized p (start p)
  unfolding start
  sized-start l b =
      record {
        long_chain = l;
        below_chain = b;
        long_buffer = length-replicate (block_bytes p) 0;
        lt_total = omega arith;
      }

  sized-absorbed : 0 < block_bytes p → (h : Hashing) (s : List ℕ) → Sized p h → h.total + length s ≤ message_limit
      → Sized p (absorbed p h s)
  unfolding absorbed
  sized-absorbed pos h s o l =
      record {
        long_chain = length-hash_blocks p h.chain (parse p (pending p h ++ s)) o.long_chain;
        below_chain = below_hash_blocks p h.chain (parse p (pending p h ++ s)) o.below_chain;
        long_buffer = length_kept p pos h s o.long_buffer;
        lt_total = omega (arith, message_word);
      }

  sized-feed : 0 < block_bytes p → (h : Hashing) (s : List ℕ) → Sized p h → Sized p (feed_to p message_limit h s).next
  unfolding feed_to
  sized-feed pos h s o =
      by_bool (leb (h.total + length s) message_limit)
      (λ t. rw t (sized-absorbed pos h s o (leb-true (h.total + length s) message_limit t)))
      (λ t. rw t o)

  -- a refused feed leaves the state; bytes are a state's, by a rule for them
  kept_feed : (f : Hashing → List ℕ) (h : Hashing) (s : List ℕ)
      → result_or (feed_to p message_limit h s).outcome (f (feed_to p message_limit h s).next) (f h)
      ≡ f (feed_to p message_limit h s).next
  unfolding feed_to
  kept_feed f h s = by_bool (leb (h.total + length s) message_limit) (λ t. rw t refl) (λ t. rw t refl)

sha256-sized : (h : Sha256) → sha256_bytes.Typed h → Sized fips180.sha256 (sha256.held h)
sha256-sized h t =
    record {
      long_chain = t.long_chain;
      below_chain = t.words_chain;
      long_buffer = t.long_buffer;
      lt_total = t.lt_total;
    }

sha256-stored : (h : Hashing) → Sized fips180.sha256 h → sha256_bytes.Typed (sha256.stored h)
sha256-stored h o =
    record {
      long_chain = o.long_chain;
      words_chain = o.below_chain;
      long_buffer = o.long_buffer;
      lt_total = o.lt_total;
    }

pub sha256-typed : sha256_bytes.Typed sha256.started
sha256-typed = sha256-stored (start fips180.sha256) (sized-start fips180.sha256 length-iv256 below_iv256)

pub sha256_faithful : Faithful sha256_calls sha256_bytes.Typed
sha256_faithful =
    record {
      round_trip = sha256_round_trip;
      stays = λ h s t.
          sha256-stored (feed_to fips180.sha256 message_limit (sha256.held h) s).next
          (sized-feed fips180.sha256 (omega arith) (sha256.held h) s (sha256-sized h t));
      keeps = λ h s. kept_feed fips180.sha256 (λ (x : Hashing). sha256_bytes.packed (sha256.stored x)) (sha256.held h) s;
    }

sha512-sized : (h : Sha512) → sha512_bytes.Typed h → Sized fips180.sha512 (sha512.held h)
sha512-sized h t =
    record {
      long_chain = t.long_chain;
      below_chain = t.words_chain;
      long_buffer = t.long_buffer;
      lt_total = t.lt_total;
    }

sha512-stored : (h : Hashing) → Sized fips180.sha512 h → sha512_bytes.Typed (sha512.stored h)
sha512-stored h o =
    record {
      long_chain = o.long_chain;
      words_chain = o.below_chain;
      long_buffer = o.long_buffer;
      lt_total = o.lt_total;
    }

length-iv512 : length iv512 ≡ 8
unfolding iv512
length-iv512 = refl

pub sha512-typed : sha512_bytes.Typed sha512.started
sha512-typed = sha512-stored (start fips180.sha512) (sized-start fips180.sha512 length-iv512 below_iv512)

pub sha512_faithful : Faithful sha512_calls sha512_bytes.Typed
sha512_faithful =
    record {
      round_trip = sha512_round_trip;
      stays = λ h s t.
          sha512-stored (feed_to fips180.sha512 message_limit (sha512.held h) s).next
          (sized-feed fips180.sha512 (omega arith) (sha512.held h) s (sha512-sized h t));
      keeps = λ h s. kept_feed fips180.sha512 (λ (x : Hashing). sha512_bytes.packed (sha512.stored x)) (sha512.held h) s;
    }
