-- A stretch covered twice, and a stretch cut in two: document 02, Item 9. Both lean on the laws over any stream block
-- (crate stream, Laws.Apply: apply-apply, apply-append), and so hold of both ciphers; the operation's follow from the
-- state's, since a state answers as the operation does at its position (Stretches, state_operation).
--
-- In order:
--   accepted-answer, accepted_long, accepted_room
--                                       what is known where a state accepts
--   state_returned                      covered twice from one state
--   state_cut_in_two                    cut in two: two stretches of a state are one
--   accepting, SameAnswers, answers_at, at_position
--                                       what is known where the operation accepts
--   returned                            covered twice at one position
--   cut_in_two                          cut in two
--   cut_numbers                         .. accepted or not: the number is that of the second part, with room for both
-- Assumes nothing.
use Rattle.std.specs.Prelude.{Ok}
use mathlib.Core.Path.{◌≡◌, refl, sym, ap, ◌∙◌}
use mathlib.Core.Bool.{true}
use mathlib.Core.List.{List, ◌++◌}
use Prim.Native.Nat.{ℕ, ◌+◌, ◌≤◌}
use native.Mathlib.Nat.{add_assoc}
use native.Mathlib.Omega.{arith}
use lib.Dec.{leb}
use lib.ListN.{length, drop, length-append, length-drop}
use borrow.Author.Tests.{le-leb}
use Rattle.words.proofs.Laws.Cases.{by_bool}
use Rattle.refusals.specs.Limits.{stream_limit}
use Rattle.refusals.specs.Numbers.{number_of}
use Rattle.slices.proofs.Laws.Over.{take_over, drop_over, over_append}
use Rattle.stream.proofs.Laws.Apply.{apply-apply, apply-append}
use Rattle.inner_stream.specs.InnerStream.{listed, planned, applying, applied_bytes}
use Rattle.inner_stream.specs.State.{stream_at, started, is_open, blocks_of, covered, behind, answer, applied, handed}
use Rattle.inner_stream.specs.Cuts.{Returned, CutInTwo, StateReturned, StateCutInTwo}
use Rattle.inner_stream.specs.declared.InnerStream.{InnerStream}
use Rattle.inner_stream.specs.declared.Applied.{Applied}
use Rattle.inner_stream.proofs.Laws.{
  Planned,
  planned-wrote,
  accepted-planned,
  open_behind,
  open_takes,
  length-covered,
  behind_at,
}
use Rattle.inner_stream.proofs.Stretches.{left_written, state_operation}

-- a stretch that a state accepts
module _ (from : InnerStream) (s : List ℕ) (room n : ℕ) (e : (applied from s room).written ≡ Ok n) where
  accepted-answer : (is_open from ≡ true) × Planned from.position (length s) room n
  unfolding applied
  accepted-answer = accepted-planned from (length s) room n (sym (left_written from (answer from (length s) room)) ∙ e)

  pub accepted_long : n ≡ length s
  accepted_long = accepted-answer.1.long

  pub accepted_room : length s ≤ room
  accepted_room = accepted-answer.1.room_is

pub state_returned : (from : InnerStream) (s out : List ℕ) (n : ℕ) → (applied from s (length out)).written ≡ Ok n
    → StateReturned from s out
unfolding covered
state_returned from s out n e =
    let o = (accepted-answer from s (length out) n e).0 in
    let p = (accepted-answer from s (length out) n e).1 in
    let t = open_takes from s (length out) o p.end_fits p.room_is in
    let l : length (covered from s) ≡ length s = length-covered from s in
    let f : from.position + length (covered from s) ≤ stream_limit = omega (arith, p.end_fits) in
    let again : (room : ℕ) → length s ≤ room → handed from (covered from s) room ≡ s =
    λ room h. (open_takes from (covered from s) room o f (omega arith)).1 ∙ apply-apply (blocks_of from) from.position s in
    record {
      answer = λ room h. rw t.1 ((open_takes from (covered from s) room o f (omega arith)).0 ∙ rw l (sym t.0));
      bytes = λ room h. rw t.1 (again room h);
      lent = λ back h. rw (t.1, take_over (covered from s) out (length s) l, again (length back) h);
    }

pub state_cut_in_two : (from : InnerStream) (a b out : List ℕ) (n : ℕ)
    → (applied from (a ++ b) (length out)).written ≡ Ok n
    → StateCutInTwo from a b out
unfolding covered
state_cut_in_two from a b out n e =
    let o = (accepted-answer from (a ++ b) (length out) n e).0 in
    let p = (accepted-answer from (a ++ b) (length out) n e).1 in
    let j = length-append a b in
    let f : from.position + length a ≤ stream_limit = omega (arith, p.end_fits) in
    let g : (behind from (length a)).position + length b ≤ stream_limit = omega (arith, p.end_fits) in
    let t = open_takes from (a ++ b) (length out) o p.end_fits p.room_is in
    let q = open_behind from (length a) o f in
    let parts : (m k : ℕ) → length a ≤ m → length b ≤ k
    → handed from a m ++ handed (applied from a m).next b k ≡ handed from (a ++ b) (length out) =
    λ m k h i. let u = open_takes from a m o f h in
    let v = open_takes (behind from (length a)) b k q g i in
    rw (u.0, u.1, v.1, t.1) (sym (apply-append (blocks_of from) from.position a b)) in
    record {
      first = λ m h. ap (λ (x : Applied). x.written) (open_takes from a m o f h).0;
      second = λ m k h i.
          let u = open_takes from a m o f h in
          let v = open_takes (behind from (length a)) b k q g i in
          rw (u.0, t.0) (v.0 ∙ rw (j, add_assoc));
      bytes = parts;
      lent =
          let w : List ℕ = handed from a (length out) in
          let r : length a ≤ length out = omega (arith, p.room_is) in
          let l : length w ≡ length a = ap length (open_takes from a (length out) o f r).1 ∙ length-covered from a in
          let i : length b ≤ length (drop (length a) out) = simp length-drop (omega (arith, p.room_is)) in
          rw (
            take_over w out (length a) l,
            drop_over w out (length a) l,
            ← parts (length out) (length (drop (length a) out)) r i,
            ← l,
          ) (over_append w _ out);
    }

-- a stretch that the operation accepts
module _ (algorithm : ℕ) (key : List ℕ) where
  accepting : (position : ℕ) (s : List ℕ) (room n : ℕ) → applying algorithm key position s room ≡ Ok n
      → ((started algorithm key).outcome ≡ (Ok tt)) × Planned position (length s) room n
  unfolding applying started
  accepting position s room n e =
      by_bool (listed algorithm)
      (λ t. by_bool (leb (length key) stream_limit)
      (λ u. rw (t, u) (refl, planned-wrote position (length s) room n (rw (t, u) at e)))
      (λ u. let z : ◌≡◌ {A = ℕ} 0 1 = cc in absurd (omega arith)))
      (λ t. by_bool (leb (length key) stream_limit)
      (λ u. let z : ◌≡◌ {A = ℕ} 0 1 = cc in absurd (omega arith))
      (λ u. let z : ◌≡◌ {A = ℕ} 0 1 = cc in absurd (omega arith)))

  -- the state at a position answers as the operation there
  abbrev SameAnswers : ℕ → Type 0
  SameAnswers position =
      (s : List ℕ) (room : ℕ)
      → ((applied (stream_at algorithm key position) s room).written ≡ applying algorithm key position s room)
      × (handed (stream_at algorithm key position) s room ≡ applied_bytes algorithm key position s room)

  module _ (position : ℕ) (s : List ℕ) (room n : ℕ) (e : applying algorithm key position s room ≡ Ok n) where
    answers_at : (p : ℕ) → p ≤ position + length s → SameAnswers p
    answers_at p h =
        let q = accepting position s room n e in
        let f : p ≤ stream_limit = omega (arith, q.1.end_fits) in
        λ x m. state_operation algorithm key q.0 p x m f

    at_position : (applied (stream_at algorithm key position) s room).written ≡ Ok n
    at_position = (answers_at position (omega arith) s room).0 ∙ e

  pub returned : (position : ℕ) (s out : List ℕ) (n : ℕ) → applying algorithm key position s (length out) ≡ Ok n
      → Returned algorithm key position s out
  returned position s out n e =
      let from : InnerStream = stream_at algorithm key position in
      let same = answers_at position s (length out) n e position (omega arith) in
      let t = at_position position s (length out) n e in
      let b = state_returned from s out n t in
      let g : handed from s (length out) ≡ applied_bytes algorithm key position s (length out) = (same s (length out)).1 in
      record {
        accepted = λ room h.
            rw (← g) (sym (same (handed from s (length out)) room).0
            ∙ ap (λ (x : Applied). x.written) (b.answer room h)
            ∙ t
            ∙ ap Ok (accepted_long from s (length out) n t));
        bytes = λ room h. rw (← g) (sym (same (handed from s (length out)) room).1 ∙ b.bytes room h);
        lent = λ back h. rw (← g, ← (same _ (length back)).1) (b.lent back h);
      }

  pub cut_in_two : (position : ℕ) (a b out : List ℕ) (n : ℕ)
      → applying algorithm key position (a ++ b) (length out) ≡ Ok n
      → CutInTwo algorithm key position a b out
  cut_in_two position a b out n e =
      let from : InnerStream = stream_at algorithm key position in
      let same = answers_at position (a ++ b) (length out) n e position (omega arith) in
      let j = length-append a b in
      let second_at = answers_at position (a ++ b) (length out) n e (position + length a) (omega arith) in
      let t = at_position position (a ++ b) (length out) n e in
      let two = state_cut_in_two from a b out n t in
      let o = accepted-answer from (a ++ b) (length out) n t in
      let f : from.position + length a ≤ stream_limit = omega (arith, o.1.end_fits) in
      let next : (m : ℕ) → length a ≤ m → (applied from a m).next ≡ stream_at algorithm key (position + length a) =
      λ m h. ap (λ (x : Applied). x.next) (open_takes from a m o.0 f h).0
      ∙ behind_at algorithm key position (length a) in
      let k : length a ≤ length out = omega (arith, o.1.room_is) in
      record {
        first = λ m h. sym (same a m).0 ∙ two.first m h;
        second = λ m h.
            sym (second_at b m).0 ∙ ap (λ (x : Applied). x.written) (rw (next (length out) k) at (two.second (length out) m k h));
        bytes = λ m i h l.
            rw (← (same a m).1, ← (second_at b i).1, ← (same (a ++ b) (length out)).1) (rw (next m h) at (two.bytes m i h l));
        lent =
            rw (← (same a (length out)).1, ← (second_at b _).1, ← (same (a ++ b) (length out)).1)
            (rw (next (length out) k) at two.lent);
      }

  -- with room for it, a stretch is accepted where its second part is, and refused by the number that refuses that
  pub cut_numbers : (position : ℕ) (a b : List ℕ) (m n : ℕ) → length (a ++ b) ≤ m → length b ≤ n
      → number_of (applying algorithm key (position + length a) b n)
      ≡ number_of (applying algorithm key position (a ++ b) m)
  unfolding applying planned
  cut_numbers position a b m n h k =
      let e : position + length (a ++ b) ≡ position + length a + length b = omega (arith, length-append a b) in
      let u : leb (length (a ++ b)) m ≡ true = le-leb _ _ h in
      let v : leb (length b) n ≡ true = le-leb _ _ k in
      by_bool (listed algorithm)
      (λ t. by_bool (leb (length key) stream_limit)
      (λ x. by_bool (leb (position + length a + length b) stream_limit)
      (λ y. rw (t, x, u, v, e, y))
      (λ y. rw (t, x, u, v, e, y)))
      (λ x. rw (t, x)))
      (λ t. rw t)
