-- Calls on a state's bytes do what the calls on the state do, for any kind of call (specs, Lists).
--
-- In order: carried_answer, carried_next (one call), carried_answers, carried_after (lists of calls), carried_unpacked
-- (the state that the bytes behind a list stand for), second_answer, second_next (a call behind one on any lent bytes).
-- Assumes nothing.
use mathlib.Core.Path.{◌≡◌, refl, ap, ◌∙◌}
use mathlib.Core.List.{List, [], ◌∷◌}
use Prim.Native.Nat.{ℕ}
use Rattle.calls.specs.Lists.{
  answers_of,
  left_by,
  LentCalls,
  call_answer,
  call_next,
  call_answers,
  bytes_after,
  Faithful,
}

module _ {S X A : Type 0} (m : LentCalls S X A) (Typed : S → Type 0) (h : Faithful m Typed) where
  pub carried_answer : (s : S) (x : X) → Typed s → call_answer m (m.packed s) x ≡ m.answer s x
  carried_answer s x t = ap (λ (r : S). m.answer r x) (h.round_trip s t)

  pub carried_next : (s : S) (x : X) → Typed s → call_next m (m.packed s) x ≡ m.packed (m.next s x)
  carried_next s x t =
      ap (λ (r : S). m.kept (m.answer r x) (m.packed (m.next r x)) (m.packed s)) (h.round_trip s t) ∙ h.keeps s x

  pub carried_answers : (xs : List X) (s : S) → Typed s
      → call_answers m (m.packed s) xs ≡ answers_of m.answer m.next s xs
  unfolding answers_of
  carried_answers [] s t = refl
  carried_answers (x ∷ xs) s t =
      rw (carried_answer s x t, carried_next s x t)
      (ap (λ (l : List A). m.answer s x ∷ l) (carried_answers xs (m.next s x) (h.stays s x t)))

  pub carried_after : (xs : List X) (s : S) → Typed s
      → bytes_after m (m.packed s) xs ≡ m.packed (left_by m.next s xs)
  unfolding left_by
  carried_after [] s t = refl
  carried_after (x ∷ xs) s t =
      rw (carried_next s x t) (carried_after xs (m.next s x) (h.stays s x t))

  stays_after : (xs : List X) (s : S) → Typed s → Typed (left_by m.next s xs)
  unfolding left_by
  stays_after [] s t = t
  stays_after (x ∷ xs) s t = stays_after xs (m.next s x) (h.stays s x t)

  pub carried_unpacked : (xs : List X) (s : S) → Typed s
      → m.unpacked (bytes_after m (m.packed s) xs) ≡ left_by m.next s xs
  carried_unpacked xs s t =
      ap m.unpacked (carried_after xs s t) ∙ h.round_trip (left_by m.next s xs) (stays_after xs s t)

  -- b are any lent bytes, and the first call wrote the state behind it
  module _ (b : List ℕ) (t : Typed (m.unpacked b)) (x : X)
      (wrote : call_next m b x ≡ m.packed (m.next (m.unpacked b) x)) (y : X) where
    pub second_answer : call_answer m (call_next m b x) y ≡ m.answer (m.next (m.unpacked b) x) y
    second_answer = rw wrote (carried_answer (m.next (m.unpacked b) x) y (h.stays (m.unpacked b) x t))

    pub second_next : call_next m (call_next m b x) y ≡ m.packed (m.next (m.next (m.unpacked b) x) y)
    second_next = rw wrote (carried_next (m.next (m.unpacked b) x) y (h.stays (m.unpacked b) x t))
