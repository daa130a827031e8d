-- Lists of steps, of any stepper: a step takes a state and the length lent, and replies with an answer and the next
-- state.
-- Assumes nothing.
use Rattle.std.specs.Prelude.{cond, List, [], ◌∷◌, ◌++◌, ℕ, suc, ltb, eqb, length, Ok, Err}
use Rattle.refusals.specs.declared.Refusal.{Refusal}
use Rattle.refusals.specs.declared.Refusal.TheVariants.{NoRoom}
use Rattle.refusals.specs.Numbers.{Written}
use Rattle.refusals.specs.Numbers.{number_of}

-- the number and the count (refusals, Numbers: number_of, count_of), and the bytes handed over
pub record Answer : Type 0 where
  pub written : Written
  pub bytes : List ℕ

pub record Reply (A : Type 0) : Type 0 where
  pub answer : Answer
  pub next : A

-- a refusal, and the state after it
unfoldable pub refuse : {A : Type 0} → Refusal → A → Reply A
refuse r a = record { answer = record { written = Err r; bytes = [] }; next = a }

-- bytes due, where n are lent: handed over, with the state after them, or 17 and the state as it was
unfoldable pub hand : {A : Type 0} → ℕ → List ℕ → A → A → Reply A
hand n b same next =
    cond (ltb n (length b)) (refuse NoRoom same)
    (record { answer = record { written = Ok (length b); bytes = b }; next = next })

-- the answers of a list of steps, and the state after it
unfoldable pub answers : {A : Type 0} → (A → ℕ → Reply A) → A → List ℕ → List Answer
answers step a [] = []
answers step a (n ∷ ns) = (step a n).answer ∷ answers step (step a n).next ns

unfoldable pub after : {A : Type 0} → (A → ℕ → Reply A) → A → List ℕ → A
after step a [] = a
after step a (n ∷ ns) = after step (step a n).next ns

-- all the bytes that were handed over
unfoldable pub bytes_of : List Answer → List ℕ
bytes_of [] = []
bytes_of (a ∷ l) = a.bytes ++ bytes_of l

-- how many of the answers are not 17: steps with room
unfoldable pub with_room : List Answer → ℕ
with_room [] = 0
with_room (a ∷ l) = cond (eqb (number_of a.written) 17) (with_room l) (suc (with_room l))

-- a fact of each element
pub data Each {A : Type 0} (P : A → Type 0) : List A → Type 0 where
  none : Each P []
  both : {a : A} {l : List A} → P a → Each P l → Each P (a ∷ l)

-- a fact of some element
pub data Some {A : Type 0} (P : A → Type 0) : List A → Type 0 where
  here : {a : A} {l : List A} → P a → Some P (a ∷ l)
  there : {a : A} {l : List A} → Some P l → Some P (a ∷ l)
