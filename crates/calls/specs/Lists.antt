-- Lists of calls on a state that is lent as bytes, of any kind of state, argument and answer.
--
--   answers_of    what a list of calls answers, one after the other; left_by: the state behind it
--   LentCalls    a kind of call: on the state itself, and how the state stands in bytes
--   call_answer   the answer of a call on bytes; call_next: the bytes that it leaves
--   Faithful     what makes calls on the bytes do what the calls on the state do
-- Each call gets the state, or the bytes, that the one before it left.
-- Assumes nothing.
use Rattle.std.specs.Prelude.{◌≡◌, List, [], ◌∷◌, ℕ}

unfoldable pub answers_of : {S X A : Type 0} → (S → X → A) → (S → X → S) → S → List X → List A
answers_of answer next s [] = []
answers_of answer next s (x ∷ xs) = answer s x ∷ answers_of answer next (next s x) xs

unfoldable pub left_by : {S X : Type 0} → (S → X → S) → S → List X → S
left_by next s [] = s
left_by next s (x ∷ xs) = left_by next (next s x) xs

-- what a call answers and which state it leaves; a state's bytes, and the state of bytes; and, by the answer, which
-- bytes a call leaves: those of the next state, or those that it got
pub record LentCalls (S X A : Type 0) : Type 0 where
  pub answer : S → X → A
  pub next : S → X → S
  pub packed : S → List ℕ
  pub unpacked : List ℕ → S
  pub kept : A → List ℕ → List ℕ → List ℕ

abbrev pub call_answer : {S X A : Type 0} → LentCalls S X A → List ℕ → X → A
call_answer m b x = m.answer (m.unpacked b) x

abbrev pub call_next : {S X A : Type 0} → LentCalls S X A → List ℕ → X → List ℕ
call_next m b x = m.kept (call_answer m b x) (m.packed (m.next (m.unpacked b) x)) b

-- a list of calls on bytes: what it answers, and the bytes that it leaves
abbrev pub call_answers : {S X A : Type 0} → LentCalls S X A → List ℕ → List X → List A
call_answers m b xs = answers_of (call_answer m) (call_next m) b xs

abbrev pub bytes_after : {S X A : Type 0} → LentCalls S X A → List ℕ → List X → List ℕ
bytes_after m b xs = left_by (call_next m) b xs

-- of the states that are Typed: unpacking their bytes gives them again, a call leaves a Typed one, and where the bytes
-- are kept the state is as it was
pub record Faithful {S X A : Type 0} (m : LentCalls S X A) (Typed : S → Type 0) : Type 0 where
  pub round_trip : (s : S) → Typed s → m.unpacked (m.packed s) ≡ s
  pub stays : (s : S) (x : X) → Typed s → Typed (m.next s x)
  pub keeps : (s : S) (x : X)
      → m.kept (m.answer s x) (m.packed (m.next s x)) (m.packed s) ≡ m.packed (m.next s x)
