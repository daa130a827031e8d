-- The theorems on lists of stretches: document 02, Item 1, "The state carries over from one password to the next, so 23
-- bytes and then 19 use stream bytes 0 to 22 and 23 to 41".
--
-- In order:
--   Took                 bytes taken, bytes handed over, the state behind them: the stream applied from the state's
--                        position on, which is then behind them, within the limit
--   stretches            any list, refused ones among it, took the bytes of those that are accepted
--   one_stretch          .. which gives what one stretch over those bytes joined gives: answer, bytes and state
--   accepted-joined      where none is refused, these are the bytes of all
--   accepted_stretches   any list of accepted stretches gives what one stretch over them joined gives
--   state_operation      a state answers as the operation does at its position, in number and bytes
--   carried              a list of stretches from a start on gives what the operation gives at position 0 over the bytes
--                        taken, joined
--   first_and_next       the worked 23 and 19
--   refused-start        a refused start leaves a state that is not open
--   refused-apply        a state that is not open refuses every stretch with 19, hands nothing over and stays
-- Assumes nothing.
use Rattle.std.specs.Prelude.{Ok, Err}
use mathlib.Core.Path.{◌≡◌, refl, sym, ap, ◌∙◌}
use mathlib.Core.Bool.{true, false}
use mathlib.Core.List.{List, [], ◌∷◌, ◌++◌}
use Prim.Native.Nat.{ℕ, ◌+◌, ◌≤◌}
use native.Mathlib.Nat.{add-zero, zero-add, add_assoc}
use native.Mathlib.Omega.{arith}
use lib.Dec.{leb}
use lib.ListN.{length, length-append}
use borrow.Author.Tests.{le-leb}
use Rattle.words.specs.Xor.{xors}
use Rattle.words.proofs.Laws.Cases.{by_bool}
use Rattle.refusals.specs.Limits.{stream_limit}
use Rattle.refusals.specs.declared.Refusal.{Refusal}
use Rattle.refusals.specs.declared.Refusal.TheVariants.{OutOfSequence}
use Rattle.refusals.specs.Numbers.{Outcome}
use Rattle.refusals.specs.Numbers.{Written}
use Rattle.refusals.proofs.Laws.Limits.{stream_some}
use Rattle.stream.specs.Stream.{keystream, apply}
use Rattle.stream.proofs.Laws.Apply.{apply-nil, apply-append}
use Rattle.inner_stream.specs.InnerStream as inner
use Rattle.inner_stream.specs.InnerStream.{planned, due, listed}
use Rattle.inner_stream.specs.State as state
use Rattle.inner_stream.specs.State.{stream_at, closed, started, is_open, blocks_of, covered, behind, left, answer, applied}
use Rattle.inner_stream.specs.Stretches.{Stretch, next, after, handed, taken, joined, Accepted}
use Rattle.inner_stream.specs.declared.InnerStream.{InnerStream}
use Rattle.inner_stream.specs.declared.Applied.{Applied}
use Rattle.inner_stream.proofs.Laws.{
  planned-wrote,
  open_fits,
  open_behind,
  open_takes,
  cipher_at,
  position_at,
  behind_at,
  covered_at,
}

-- of a state s: the bytes t taken, the bytes h handed over, and the state n behind them
pub record Took (s : InnerStream) (t h : List ℕ) (n : InnerStream) : Type 0 where
  pub hands : h ≡ apply (blocks_of s) s.position t
  pub stands : n ≡ behind s (length t)
  pub fits : s.position + length t ≤ stream_limit

-- nothing
took_none : (s : InnerStream) → is_open s ≡ true → Took s [] [] s
took_none s o =
    let k = open_fits s o in
    record { hands = sym (apply-nil (blocks_of s) s.position); stands = rw add-zero; fits = omega arith }

-- by the answer
took_by : (s : InnerStream) (bytes : List ℕ) (room : ℕ) (w : Written) → is_open s ≡ true
    → planned s.position (length bytes) room ≡ w
    → Took s (due w bytes) (due w (covered s bytes)) (left s w).next
unfolding due covered
took_by s bytes room (Ok m) o e =
    let p = planned-wrote s.position (length bytes) room m e in
    record { hands = refl; stands = ap (behind s) p.long; fits = p.end_fits }
took_by s bytes room (Err r) o e = took_none s o

pub left_written : (s : InnerStream) (w : Written) → (left s w).written ≡ w
left_written s (Ok m) = refl
left_written s (Err r) = refl

answer_open : (s : InnerStream) (n room : ℕ) → is_open s ≡ true → planned s.position n room ≡ answer s n room
unfolding answer
answer_open s n room o = rw o

took : (s : InnerStream) (x : Stretch) → is_open s ≡ true
    → Took s (due (applied s x.bytes x.room).written x.bytes) (state.handed s x.bytes x.room) (next s x)
unfolding applied state.handed
took s x o =
    let n : ℕ = length x.bytes in
    rw (left_written s (answer s n x.room))
    (took_by s x.bytes x.room (answer s n x.room) o (answer_open s n x.room o))

-- one behind the other
took_both : (s m n : InnerStream) (t h u i : List ℕ) → Took s t h m → Took m u i n → Took s (t ++ u) (h ++ i) n
took_both s m n t h u i a b =
    let l : length (t ++ u) ≡ length t + length u = length-append t u in
    let j = rw a.stands at b.hands in
    let k = rw a.stands at b.fits in
    record {
      hands = rw (a.hands, j) (sym (apply-append (blocks_of s) s.position t u));
      stands = b.stands ∙ rw (a.stands, l, ← add_assoc);
      fits = omega arith;
    }

-- a state stays open
took_open : (s n : InnerStream) (t h : List ℕ) → is_open s ≡ true → Took s t h n → is_open n ≡ true
took_open s n t h o a = rw a.stands (open_behind s (length t) o a.fits)

-- any list of stretches, refused ones among it
pub stretches : (xs : List Stretch) (s : InnerStream) → is_open s ≡ true
    → Took s (taken s xs) (handed s xs) (after s xs)
unfolding after handed taken
stretches [] s o = took_none s o
stretches (x ∷ xs) s o =
    let a = took s x o in
    took_both s (next s x) _ _ _ _ _ a (stretches xs (next s x) (took_open s (next s x) _ _ o a))

-- .. gives what one stretch over the bytes taken, joined, gives: it is accepted, with the same bytes and the same state
pub one_stretch : (xs : List Stretch) (s : InnerStream) (room : ℕ) → is_open s ≡ true → length (taken s xs) ≤ room
    → (applied s (taken s xs) room ≡ record { written = Ok (length (taken s xs)); next = after s xs })
    × (state.handed s (taken s xs) room ≡ handed s xs)
unfolding covered
one_stretch xs s room o h =
    let a = stretches xs s o in
    let b = open_takes s (taken s xs) room o a.fits h in
    rw a.stands (b.0, b.1 ∙ sym a.hands)

-- where none is refused, the bytes taken are all
pub accepted-joined : (xs : List Stretch) (s : InnerStream) → Accepted s xs → taken s xs ≡ joined xs
unfolding taken joined due Accepted
accepted-joined [] s h = refl
accepted-joined (x ∷ xs) s h = rw h.0 (ap (λ (l : List ℕ). x.bytes ++ l) (accepted-joined xs (next s x) h.1))

pub accepted_stretches : (xs : List Stretch) (s : InnerStream) (room : ℕ) → is_open s ≡ true → Accepted s xs
    → length (joined xs) ≤ room
    → (applied s (joined xs) room ≡ record { written = Ok (length (joined xs)); next = after s xs })
    × (state.handed s (joined xs) room ≡ handed s xs)
accepted_stretches xs s room o a h =
    let e = accepted-joined xs s a in
    rw e at (one_stretch xs s room o (rw e h))

-- what a start leaves, by its outcome
abbrev Begun : ℕ → List ℕ → Outcome → InnerStream → Type 0
Begun algorithm key (Ok tt) n =
    (listed algorithm ≡ true) × (leb (length key) stream_limit ≡ true) × (n ≡ stream_at algorithm key 0)
Begun algorithm key (Err r) n = n ≡ closed

begun : (algorithm : ℕ) (key : List ℕ) → Begun algorithm key (started algorithm key).outcome (started algorithm key).next
unfolding started
begun algorithm key =
    by_bool (listed algorithm)
    (λ t. by_bool (leb (length key) stream_limit) (λ u. rw (t, u) (t, u, refl)) (λ u. rw (t, u) refl))
    (λ t. rw t refl)

module _ (algorithm : ℕ) (key : List ℕ) (e : (started algorithm key).outcome ≡ (Ok tt)) where
  accepted : Begun algorithm key (Ok tt) (started algorithm key).next
  accepted = rw e at (begun algorithm key)

  open_at : (position : ℕ) → position ≤ stream_limit → is_open (stream_at algorithm key position) ≡ true
  unfolding is_open
  open_at position h =
      rw (cipher_at algorithm key position, position_at algorithm key position, le-leb position stream_limit h)

  -- a state answers as the operation at its position, in number and bytes
  pub state_operation : (position : ℕ) (bytes : List ℕ) (room : ℕ) → position ≤ stream_limit
      → ((applied (stream_at algorithm key position) bytes room).written ≡ inner.applying algorithm key position bytes room)
      × (state.handed (stream_at algorithm key position) bytes room ≡ inner.applied_bytes algorithm key position bytes room)
  unfolding applied state.handed inner.applying inner.applied_bytes
  state_operation position bytes room h =
      let s : InnerStream = stream_at algorithm key position in
      let a = answer_open s (length bytes) room (open_at position h) in
      let w = answer s (length bytes) room in
      rw (
        left_written s w,
        ← a,
        covered_at algorithm key position bytes,
        position_at algorithm key position,
        accepted.0,
        accepted.1,
      ) (refl, refl)

  -- a stretch that fits, at a position
  stretch_at : (position : ℕ) (bytes : List ℕ) (room : ℕ) → position + length bytes ≤ stream_limit → length bytes ≤ room
      → (state.handed (stream_at algorithm key position) bytes room ≡ inner.covered algorithm key position bytes)
      × ((applied (stream_at algorithm key position) bytes room).next ≡ stream_at algorithm key (position + length bytes))
  stretch_at position bytes room h k =
      let s : InnerStream = stream_at algorithm key position in
      let p = position_at algorithm key position in
      let t = open_takes s bytes room (open_at position (omega arith)) (rw p h) k in (
        t.1 ∙ covered_at algorithm key position bytes,
        ap (λ (x : Applied). x.next) t.0 ∙ behind_at algorithm key position (length bytes),
      )

  -- a list of stretches from a start on: what the operation gives over the bytes taken, joined, at position 0, and the
  -- state behind them
  pub carried : (xs : List Stretch) (room : ℕ) → length (taken (started algorithm key).next xs) ≤ room
      → (inner.applying algorithm key 0 (taken (started algorithm key).next xs) room
      ≡ Ok (length (taken (started algorithm key).next xs)))
      × (inner.applied_bytes algorithm key 0 (taken (started algorithm key).next xs) room
      ≡ handed (started algorithm key).next xs)
      × (after (started algorithm key).next xs ≡ stream_at algorithm key (length (taken (started algorithm key).next xs)))
  carried xs room h =
      let s : InnerStream = (started algorithm key).next in
      let b : s ≡ stream_at algorithm key 0 = accepted.2 in
      let o : is_open s ≡ true = rw b (open_at 0 (omega arith)) in
      let n : ℕ = length (taken s xs) in
      let q = one_stretch xs s room o h in
      let p = rw (← b) at (state_operation 0 (taken s xs) room (omega arith)) in (
        sym p.0 ∙ ap (λ (x : Applied). x.written) q.0,
        sym p.1 ∙ q.1,
        (stretches xs s o).stands ∙ ap (λ (x : InnerStream). behind x n) b ∙ behind_at algorithm key 0 n
            ∙ ap (stream_at algorithm key) (zero-add n),
      )

  -- "so 23 bytes and then 19 use stream bytes 0 to 22 and 23 to 41"
  pub first_and_next : (a b : List ℕ) (m n : ℕ) → length a ≡ 23 → length b ≡ 19 → 23 ≤ m → 19 ≤ n
      → (state.handed (started algorithm key).next a m ≡ xors a (keystream (inner.blocks algorithm key) 0 23))
      × (state.handed (applied (started algorithm key).next a m).next b n
      ≡ xors b (keystream (inner.blocks algorithm key) 23 19))
  unfolding inner.covered apply
  first_and_next a b m n h k u v =
      let l = stream_some in
      let p = stretch_at 0 a m (omega arith) (omega arith) in
      let q = stretch_at 23 b n (omega arith) (omega arith) in
      let e₂ = rw h at p.1 in
      (rw (accepted.2, ← h) p.0, rw (accepted.2, e₂, ← k) q.0)

-- a refused start leaves a state that is not open
pub refused-start : (algorithm : ℕ) (key : List ℕ) (r : Refusal) → (started algorithm key).outcome ≡ Err r
    → is_open (started algorithm key).next ≡ false
unfolding is_open
refused-start algorithm key r e = ap is_open (rw e at (begun algorithm key))

-- a state that is not open refuses every stretch with 19, writes nothing and stays
pub refused-apply : (s : InnerStream) (bytes : List ℕ) (room : ℕ) → is_open s ≡ false
    → (applied s bytes room ≡ record { written = Err OutOfSequence; next = s })
    × (state.handed s bytes room ≡ [])
unfolding applied state.handed answer due
refused-apply s bytes room e = rw e (refl, refl)
