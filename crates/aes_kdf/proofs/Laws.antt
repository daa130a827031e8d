-- Laws of the key transformation.
--
-- In order:
--   half_after-add                    a rounds and then b more are a + b
--   open_done, remaining-le           no more rounds are done, or remain, than are asked for
--   remaining-advanced                a step of n leaves n rounds fewer, or none
--   advanced-zero, advanced-add       a step of no rounds, and one step behind another
--   mark-marked, marked-mark          marks and Bools
--   held-stored, stored-held          the struct and what it stands for
--   left_is, right_is                 the halves, as code copies them
--   open_after, remaining_after, advanced_after    one step from d rounds done
-- Not here: lists of steps (Steps).
-- Assumes nothing.
use mathlib.Core.Path.{◌≡◌, refl, ap, ◌∙◌}
use mathlib.Core.Bool.{Bool, true, false, ◌&&◌}
use mathlib.Core.List.{List}
use Prim.Native.Nat.{ℕ, zero, suc, ◌+◌, ◌-◌, ◌≤◌, min}
use native.Mathlib.Nat.{add-zero, add_assoc}
use native.Mathlib.Omega.{arith}
use lib.Dec.{leb}
use lib.ListN.{length, take, drop, length-drop}
use lib.Seq.{take_all, length-take-le}
use borrow.Author.Tests.{le-leb, leb-true}
use Rattle.refusals.specs.Limits.{rounds_limit}
use Rattle.words.proofs.Laws.Cases.{by_bool}
use Rattle.slices.specs.Over.{over}
use Rattle.slices.proofs.Laws.Over.{over_all}
use Rattle.slices.proofs.Laws.Zeros.{zeros}
use Rattle.aes_kdf.specs.declared.Mark.{Mark}
use Rattle.aes_kdf.specs.declared.Mark.TheVariants.{Accepted, Refused}
use Rattle.aes_kdf.specs.declared.Transformation.{Transformation}
use Rattle.aes_kdf.specs.State.{mark, marked, held, stored}
use Rattle.fips197.specs.Fips197.{cipher}
use Rattle.aes.specs.Repeated.{repeated}
use Rattle.aes_kdf.specs.AesKdf.{Transforming, half_after, after, is_open, remaining, advanced}

repeated-add : (f : List ℕ → List ℕ) (a b : ℕ) (s : List ℕ) → repeated f a (repeated f b s) ≡ repeated f (b + a) s
unfolding repeated
repeated-add f zero b s =
    let e : b + 0 ≡ b = omega arith in
    rw e
repeated-add f (suc a) b s =
    let e : b + suc a ≡ suc (b + a) = omega arith in
    rw (e, repeated-add f a b s)

pub half_after-add : (w : List ℕ) (a b : ℕ) (s : List ℕ) → half_after w a (half_after w b s) ≡ half_after w (b + a) s
unfolding half_after
half_after-add w a b s = repeated-add (λ s. cipher s w) a b s

-- what an open state is
module _ (t : Transforming) where
  open_parts : is_open t ≡ true → (leb t.rounds rounds_limit ≡ true) × (leb t.done t.rounds ≡ true)
  unfolding is_open
  open_parts e = parts t.accepted (leb t.rounds rounds_limit) (leb t.done t.rounds) e
    where
      parts : (a b d : Bool) → (a && (b && d)) ≡ true → (b ≡ true) × (d ≡ true)
      parts true true d e = (refl, e)
      parts true false d e = let z : ◌≡◌ {A = ℕ} 0 1 = cc in absurd (omega arith)
      parts false b d e = let z : ◌≡◌ {A = ℕ} 0 1 = cc in absurd (omega arith)

  pub open_done : is_open t ≡ true → t.done ≤ t.rounds
  open_done e = leb-true t.done t.rounds (open_parts e).1

  -- the rounds done and those remaining are no more than are asked for, where any remain
  pub remaining-le : t.done + remaining t ≤ t.done + (t.rounds - t.done)
  unfolding remaining
  remaining-le = by_bool (is_open t) (λ e. rw e (omega arith)) (λ e. rw e (omega arith))

  -- the rounds done behind a step
  done_le : is_open t ≡ true → (n : ℕ) → (advanced n t).done ≤ t.rounds
  unfolding advanced remaining
  done_le e n = let l = open_done e in rw e (omega arith)

  done_is : is_open t ≡ false → (n : ℕ) → (advanced n t).done ≡ t.done
  unfolding advanced remaining
  done_is e n = rw e (omega arith)

  -- .. which leaves a state as open as it was
  within_advanced : (n : ℕ) → leb (advanced n t).done t.rounds ≡ leb t.done t.rounds
  within_advanced n =
      by_bool (is_open t) (λ e. rw (le-leb _ _ (done_le e n), le-leb _ _ (open_done e))) (λ e. rw (done_is e n))

  open_advanced : (n : ℕ) → is_open (advanced n t) ≡ is_open t
  unfolding is_open advanced
  open_advanced n = ap (λ (b : Bool). t.accepted && (leb t.rounds rounds_limit && b)) (within_advanced n)

  pub remaining-advanced : (n : ℕ) → remaining (advanced n t) ≡ remaining t - n
  unfolding remaining advanced
  remaining-advanced n =
      by_bool (is_open t) (λ e. rw (open_advanced n, e) (omega arith)) (λ e. rw (open_advanced n, e) (omega arith))

  pub advanced-zero : advanced 0 t ≡ t
  unfolding advanced half_after repeated
  advanced-zero =
      let z : min 0 (remaining t) ≡ 0 = omega arith in
      rw (z, add-zero)

  pub advanced-add : (a b : ℕ) → advanced b (advanced a t) ≡ advanced (a + b) t
  unfolding advanced
  advanced-add a b =
      let k : min a (remaining t) + min b (remaining t - a) ≡ min (a + b) (remaining t) = omega arith in
      rw (remaining-advanced a, half_after-add, half_after-add, add_assoc, k)

pub mark-marked : (m : Mark) → mark (marked m) ≡ m
mark-marked Accepted = refl
mark-marked Refused = refl

pub marked-mark : (b : Bool) → marked (mark b) ≡ b
marked-mark true = refl
marked-mark false = refl

pub held-stored : (t : Transforming) → held (stored t) ≡ t
held-stored t = rw (marked-mark t.accepted)

pub stored-held : (t : Transformation) → stored (held t) ≡ t
stored-held t = rw (mark-marked t.mark)

-- the halves of a composite key, as code copies them
pub left_is : (k : List ℕ) {d : List ℕ} → length k ≡ 32 → d ≡ over (take (length (zeros 16)) k) (zeros 16) → d
    ≡ take 16 k
left_is k l e =
    let n : length (take 16 k) ≡ 16 = length-take-le 16 k (omega arith) in
    e ∙ over_all (take 16 k) (zeros 16) (omega arith)

pub right_is : (k : List ℕ) {d : List ℕ} → length k ≡ 32
    → d ≡ over (take (length (zeros 16)) (take (32 - 16) (drop 16 k))) (zeros 16) → d ≡ drop 16 k
right_is k l e =
    let n : length (drop 16 k) ≡ 16 = length-drop 16 k ∙ omega arith in
    let m : length (drop 16 k) ≤ 16 = omega arith in
    e ∙ rw (take_all 16 (drop 16 k) m, take_all 16 (drop 16 k) m) (over_all (drop 16 k) (zeros 16) (omega arith))

module _ (c s : List ℕ) (r : ℕ) (within : r ≤ rounds_limit) where
  pub open_after : (d : ℕ) → d ≤ r → is_open (after c s r d) ≡ true
  unfolding is_open after
  open_after d l = rw (le-leb _ _ within, le-leb _ _ l)

  pub remaining_after : (d : ℕ) → d ≤ r → remaining (after c s r d) ≡ r - d
  unfolding remaining after
  remaining_after d l = rw (open_after d l)

  pub advanced_after : (n d : ℕ) → d ≤ r → advanced n (after c s r d) ≡ after c s r (d + min n (r - d))
  unfolding advanced after
  advanced_after n d l = rw (remaining_after d l, half_after-add, half_after-add)
