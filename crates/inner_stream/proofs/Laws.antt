-- Laws of the inner stream.
--
-- In order:
--   Planned, planned-wrote, accepted-planned    what is known where a stretch is not refused
--   key_message, open_cipher             a key that fits can be hashed; an open state has a cipher
--   open_fits, open_behind, open_takes   .. is within the limit, stays open, takes every stretch that fits
--   length-covered, covered_front        as many bytes, at the front of the lent output
--   cipher_at, position_at, behind_at, covered_at
--                                        the state of an algorithm and a key covers as the operation does
-- Not here: lists of stretches (Stretches).
-- Assumes nothing.
use Rattle.std.specs.Prelude.{Ok, Err}
use mathlib.Core.Path.{◌≡◌, refl}
use mathlib.Core.Bool.{true}
use mathlib.Core.List.{List, ◌++◌}
use Prim.Native.Nat.{ℕ, ◌+◌, ◌≤◌}
use native.Mathlib.Omega.{arith}
use lib.Dec.{eqb, leb}
use lib.ListN.{length, drop}
use borrow.Author.Tests.{leb-true, le-leb}
use Rattle.words.proofs.Laws.Cases.{by_bool, and_true}
use Rattle.refusals.specs.Limits.{message_limit, stream_limit}
use Rattle.refusals.specs.Numbers.{Written}
use Rattle.refusals.proofs.Laws.Limits.{message_stream_key}
use Rattle.slices.specs.Over.{over}
use Rattle.stream.proofs.Laws.Apply.{length-apply}
use Rattle.inner_stream.specs.InnerStream as inner
use Rattle.inner_stream.specs.InnerStream.{planned, due, blocks}
use Rattle.inner_stream.specs.State.{
  stream_at,
  has_cipher,
  is_open,
  blocks_by,
  blocks_of,
  covered,
  behind,
  answer,
  applied,
  handed,
}
use Rattle.inner_stream.specs.declared.InnerStream.{InnerStream}

-- what a stretch that is not refused passed
pub record Planned (position n room m : ℕ) : Type 0 where
  pub long : m ≡ n
  pub room_is : n ≤ room
  pub end_fits : position + n ≤ stream_limit

module _ (position n room : ℕ) where
  -- nothing is said of a refusal
  abbrev Kept : Written → Type 0
  Kept (Ok m) = Planned position n room m
  Kept (Err r) = 0 ≤ 0

  planned_kept : Kept (planned position n room)
  unfolding planned
  planned_kept =
      by_bool (leb (position + n) stream_limit)
      (λ t. by_bool (leb n room)
      (λ u. rw (t, u) (record {
        long = refl;
        room_is = leb-true n room u;
        end_fits = leb-true (position + n) stream_limit t;
      }))
      (λ u. simp (t, u) (omega arith)))
      (λ t. by_bool (leb n room) (λ u. simp (t, u) (omega arith)) (λ u. simp (t, u) (omega arith)))

  pub planned-wrote : (m : ℕ) → planned position n room ≡ Ok m → Planned position n room m
  planned-wrote m e = rw e at planned_kept

-- .. of a state
pub accepted-planned : (s : InnerStream) (n room m : ℕ) → answer s n room ≡ Ok m
    → (is_open s ≡ true) × Planned s.position n room m
unfolding answer
accepted-planned s n room m e =
    by_bool (is_open s)
    (λ o. (o, planned-wrote s.position n room m (rw o at e)))
    (λ o. let d = rw o at e in
    let z : ◌≡◌ {A = ℕ} 0 1 = cc in absurd (omega arith))

-- a key within the limit can be hashed
pub key_message : (n : ℕ) → leb n stream_limit ≡ true → n ≤ message_limit
key_message n t =
    let k = leb-true n stream_limit t in
    let m = message_stream_key in
    omega arith

-- an open state has a cipher
pub open_cipher : (s : InnerStream) → is_open s ≡ true → has_cipher s.cipher ≡ true
unfolding is_open
open_cipher s t = (and_true (has_cipher s.cipher) (leb s.position stream_limit) t).0

pub open_fits : (s : InnerStream) → is_open s ≡ true → s.position ≤ stream_limit
unfolding is_open
open_fits s o =
    leb-true s.position stream_limit (and_true (has_cipher s.cipher) (leb s.position stream_limit) o).1

pub open_behind : (s : InnerStream) (n : ℕ) → is_open s ≡ true → s.position + n ≤ stream_limit
    → is_open (behind s n) ≡ true
unfolding is_open
open_behind s n o h = rw (open_cipher s o, le-leb (s.position + n) stream_limit h)

pub open_takes : (s : InnerStream) (bytes : List ℕ) (room : ℕ) → is_open s ≡ true
    → s.position + length bytes ≤ stream_limit → length bytes ≤ room
    → (applied s bytes room ≡ record { written = Ok (length bytes); next = behind s (length bytes) })
    × (handed s bytes room ≡ covered s bytes)
unfolding applied handed answer planned due
open_takes s bytes room o h k =
    rw (o, le-leb (s.position + length bytes) stream_limit h, le-leb (length bytes) room k) (refl, refl)

pub length-covered : (s : InnerStream) (bytes : List ℕ) → length (covered s bytes) ≡ length bytes
unfolding covered
length-covered s bytes = length-apply (blocks_of s) _ bytes

-- the first n bytes lent, and changed to w
pub covered_front : (w d ys : List ℕ) (n : ℕ) → ys ≡ w → length w ≡ n → ys ++ drop n d ≡ over w d
unfolding over
covered_front w d ys n e l = rw (e, l)

module _ (algorithm : ℕ) (key : List ℕ) (position : ℕ) where
  pub cipher_at : has_cipher (stream_at algorithm key position).cipher ≡ true
  unfolding stream_at
  cipher_at = by_bool (eqb algorithm 3) (λ t. rw t) (λ t. rw t)

  pub position_at : (stream_at algorithm key position).position ≡ position
  unfolding stream_at
  position_at = by_bool (eqb algorithm 3) (λ t. rw t) (λ t. rw t)

  pub behind_at : (n : ℕ) → behind (stream_at algorithm key position) n ≡ stream_at algorithm key (position + n)
  unfolding stream_at
  behind_at n = by_bool (eqb algorithm 3) (λ t. rw t) (λ t. rw t)

  pub covered_at : (bytes : List ℕ) → covered (stream_at algorithm key position) bytes
      ≡ inner.covered algorithm key position bytes
  unfolding covered inner.covered blocks stream_at blocks_by
  covered_at bytes = by_bool (eqb algorithm 3) (λ t. rw t) (λ t. rw t)
