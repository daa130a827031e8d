-- Tests that refuse, and the two outcomes of a hand-over.
--
-- In order:
--   never                     two constructors are never equal
--   cond-opened               a test that refuses was false where something was opened
--   hand_both                 a fact of both outcomes of a hand-over is one of the hand-over
--   hand_enough, hand_room    where there is room, the bytes are handed over and the answer is not 17
-- Assumes nothing.
use Rattle.std.specs.Prelude.{Ok, Err}
use mathlib.Core.Path.{◌≡◌, refl}
use mathlib.Core.Logic.{◌≢◌}
use mathlib.Core.Bool.{Bool, true, false, cond}
use mathlib.Core.List.{List}
use Prim.Native.Nat.{ℕ, ◌≤◌}
use native.Mathlib.Omega.{arith}
use borrow.Author.Tests.{le-ltb}
use lib.Dec.{ltb}
use lib.ListN.{length}
use Rattle.words.proofs.Laws.Cases.{by_bool}
use Rattle.refusals.specs.declared.Refusal.{Refusal}
use Rattle.refusals.specs.declared.Refusal.TheVariants.{NoRoom}
use Rattle.opening.specs.Decryption.{Opened, refused, opened}
use Rattle.opening.specs.Runs.{Reply, refuse, hand}

-- applied to the equation of two numbers that `cc` finds where two constructors are equal
pub never : {P : Type 0} → ◌≡◌ {A = ℕ} 0 1 → P
never e = absurd (omega arith)

pub record TestedOpened (x : Bool) (v : Opened) (b : List ℕ) : Type 0 where
  pub passed : x ≡ false
  pub rest : v ≡ opened b

pub cond-opened : (x : Bool) (r : Refusal) (v : Opened) (b : List ℕ) → cond x (refused r) v ≡ opened b
    → TestedOpened x v b
cond-opened true r v b h = never (cc)
cond-opened false r v b h = record { passed = refl; rest = h }

pub hand_both : {A : Type 0} (P : Reply A → Type 0) (n : ℕ) (b : List ℕ) (same next : A) → P (refuse NoRoom same)
    → P (record { answer = record { written = Ok (length b); bytes = b }; next = next })
    → P (hand n b same next)
unfolding hand
hand_both P n b same next x y = by_bool (ltb n (length b)) (λ t. rw t x) (λ t. rw t y)

pub hand_enough : {A : Type 0} (n : ℕ) (b : List ℕ) (same next : A) → length b ≤ n
    → hand n b same next ≡ record { answer = record { written = Ok (length b); bytes = b }; next = next }
unfolding hand
hand_enough n b same next h = rw (le-ltb n (length b) h)

pub hand_room : {A : Type 0} (n : ℕ) (b : List ℕ) (same next : A) → length b ≤ n
    → (hand n b same next).answer.written ≢ Err NoRoom
hand_room n b same next h = rw (hand_enough n b same next h) (λ e. never (cc))
