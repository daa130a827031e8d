-- The calls of the key transformation do on its bytes what they do on its state.
--
-- In order: started-typed, lent-typed (of any bytes that are lent), aes_kdf_faithful.
-- Assumes nothing.
use mathlib.Core.Path.{◌≡◌, refl}
use mathlib.Core.Bool.{◌&&◌}
use mathlib.Core.List.{List, []}
use Prim.Native.Nat.{ℕ, zero, suc, ◌+◌, ◌*◌, ◌^◌, ◌≤◌, ◌<◌, min}
use native.Mathlib.Nat.{one-le-pow}
use native.Mathlib.Omega.{arith}
use lib.Dec.{leb}
use lib.ListN.{length, take, drop, length-append, length-drop}
use lib.Seq.{length-take-le}
use borrow.Author.Tests.{leb-true}
use Rattle.words.specs.Endian.{Bytes}
use Rattle.words.proofs.Laws.Cases.{by_bool, and_true}
use Rattle.words.proofs.Laws.Endian.{le-lt}
use Rattle.slices.proofs.Laws.Parts.{length_part}
use Rattle.refusals.specs.Limits.{rounds_limit}
use Rattle.refusals.proofs.Laws.Limits.{rounds-word}
use Rattle.fips197.specs.Fips197.{cipher, final_round, key_expansion}
use Rattle.aes.specs.Repeated.{repeated}
use Rattle.aes_kdf.specs.AesKdf as kdf
use Rattle.aes_kdf.specs.AesKdf.{Transforming, half_after}
use Rattle.aes_kdf.specs.State.{held, stored, started}
use Rattle.aes_kdf.specs.declared.Transformation.{Transformation}
use Rattle.states.specs.Words.{words_at}
use Rattle.states.specs.AesKdfState as bytes
use Rattle.states.proofs.RoundTrip.{aes_kdf_round_trip}
use Rattle.calls.specs.Lists.{Faithful}
use Rattle.calls.specs.Calls.{aes_kdf_calls}
use Rattle.calls.proofs.Laws.Below.{Below, below_nil, below_cons, below_append, below_zeros}
use Rattle.calls.proofs.Laws.Schedule.{length-key_expansion, below_key_expansion}

record Sized (t : Transforming) : Type 0 where
  long_keys : length t.keys ≡ 60
  below_keys : Below (2 ^ 32) t.keys
  long_left : length t.left ≡ 16
  long_right : length t.right ≡ 16
  lt_done : t.done < 2 ^ 32
  lt_rounds : t.rounds < 2 ^ 32

sized-held : (t : Transformation) → bytes.Typed t → Sized (held t)
sized-held t h =
    record {
      long_keys = h.long_keys;
      below_keys = h.words_keys;
      long_left = h.long_left;
      long_right = h.long_right;
      lt_done = h.lt_done;
      lt_rounds = h.lt_rounds;
    }

typed-stored : (t : Transforming) → Sized t → bytes.Typed (stored t)
typed-stored t h =
    record {
      long_keys = h.long_keys;
      words_keys = h.below_keys;
      long_left = h.long_left;
      long_right = h.long_right;
      lt_done = h.lt_done;
      lt_rounds = h.lt_rounds;
    }

length-cipher : (s w : List ℕ) → length (cipher s w) ≡ 16
unfolding cipher final_round
length-cipher s w = refl

length-repeated : (w : List ℕ) (n : ℕ) (s : List ℕ) → length s ≡ 16 → length (repeated (λ x. cipher x w) n s) ≡ 16
unfolding repeated
length-repeated w zero s h = h
length-repeated w (suc n) s h = length-cipher (repeated (λ x. cipher x w) n s) w

length_half : (w : List ℕ) (n : ℕ) (s : List ℕ) → length s ≡ 16 → length (half_after w n s) ≡ 16
unfolding half_after
length_half w n s h = length-repeated w n s h

-- rounds that remain are within the limit together with those done
remaining-lt : (t : Transforming) (n : ℕ) → t.done < 2 ^ 32 → t.done + min n (kdf.remaining t) < 2 ^ 32
unfolding kdf.remaining kdf.is_open
remaining-lt t n h =
    by_bool (t.accepted && (leb t.rounds rounds_limit && leb t.done t.rounds))
    (λ e.
    let a = and_true t.accepted (leb t.rounds rounds_limit && leb t.done t.rounds) e in
    let b = and_true (leb t.rounds rounds_limit) (leb t.done t.rounds) a.1 in
    let c = leb-true t.rounds rounds_limit b.0 in
    let d = leb-true t.done t.rounds b.1 in
    rw e (omega (arith, rounds-word)))
    (λ e. rw e (omega arith))

sized-advanced : (n : ℕ) (t : Transforming) → Sized t → Sized (kdf.advanced n t)
unfolding kdf.advanced
sized-advanced n t h =
    record {
      long_keys = h.long_keys;
      below_keys = h.below_keys;
      long_left = length_half t.keys (min n (kdf.remaining t)) t.left h.long_left;
      long_right = length_half t.keys (min n (kdf.remaining t)) t.right h.long_right;
      lt_done = remaining-lt t n h.lt_done;
      lt_rounds = h.lt_rounds;
    }

sized-refused : Sized kdf.refused
unfolding kdf.refused
sized-refused =
    record {
      long_keys = refl;
      below_keys = below_zeros (2 ^ 32) 60 (omega arith);
      long_left = refl;
      long_right = refl;
      lt_done = omega arith;
      lt_rounds = omega arith;
    }

-- a composite key of 32 bytes, and a seed of bytes
module _ (c s : List ℕ) (l : length c ≡ 32) (b : Bytes s) (r : ℕ) where
  sized_first : r ≤ rounds_limit → Sized (kdf.after c s r 0)
  unfolding kdf.after
  sized_first h =
      let n : length (drop 16 c) ≡ 16 = simp length-drop (omega arith) in
      record {
        long_keys = length-key_expansion s;
        below_keys = below_key_expansion s b;
        long_left = length_half (key_expansion s) 0 (take 16 c) (length-take-le 16 c (omega arith));
        long_right = length_half (key_expansion s) 0 (drop 16 c) n;
        lt_done = omega arith;
        lt_rounds = omega (arith, rounds-word);
      }

  sized-started : Sized (kdf.start c s r).next
  unfolding kdf.start
  sized-started =
      by_bool (leb r rounds_limit) (λ t. rw t (sized_first (leb-true r rounds_limit t))) (λ t. rw t sized-refused)

  pub started-typed : bytes.Typed (started c s r).next
  started-typed = typed-stored (kdf.start c s r).next sized-started

length-words_at : (k n : ℕ) (b : List ℕ) (at : ℕ) → length (words_at k n b at) ≡ n
unfolding words_at
length-words_at k zero b at = refl
length-words_at k (suc n) b at = rw (length-append, length-words_at k n b at) (omega arith)

below_words_at : (k n : ℕ) (b : List ℕ) (at : ℕ) → Bytes b → Below (256 ^ k) (words_at k n b at)
unfolding words_at
below_words_at k zero b at h = below_nil (256 ^ k) (one-le-pow k 256 (omega arith))
below_words_at k (suc n) b at h =
    below_append (256 ^ k) (words_at k n b at) _ (below_words_at k n b at h)
    (below_cons (256 ^ k) _ [] (le-lt k b (at + n * k) h) (below_nil (256 ^ k) (one-le-pow k 256 (omega arith))))

pub lent-typed : (b : List ℕ) → length b ≡ 281 → Bytes b → bytes.Typed (bytes.unpacked b)
unfolding bytes.unpacked
lent-typed b l h =
    record {
      long_keys = length-words_at 4 60 b 1;
      words_keys = below_words_at 4 60 b 1 h;
      long_left = length_part b 241 16 (omega arith);
      long_right = length_part b 257 16 (omega arith);
      lt_done = le-lt 4 b 273 h;
      lt_rounds = le-lt 4 b 277 h;
    }

pub aes_kdf_faithful : Faithful aes_kdf_calls bytes.Typed
aes_kdf_faithful =
    record {
      round_trip = aes_kdf_round_trip;
      stays = λ t n h. typed-stored (kdf.advanced n (held t)) (sized-advanced n (held t) (sized-held t h));
      keeps = λ t n. refl;
    }
