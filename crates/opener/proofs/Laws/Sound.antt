-- A state that calls could have made: its place has room for the blocks taken, and they for the ciphertext.
--
-- In order:
--   sound_far, sound_short, sound_few    not so
--   sound_none                           no block: no ciphertext
--   sound_count                          told by a division
--   sound-fits                           what is known then
-- Assumes nothing.
use mathlib.Core.Path.{◌≡◌}
use mathlib.Core.Bool.{true, false}
use Prim.Native.Nat.{ℕ, ◌+◌, ◌-◌, ◌*◌, ◌/◌, ◌≤◌, ◌<◌}
use native.Mathlib.Omega.{arith}
use lib.Dec.{leb, eqb}
use borrow.Author.Tests.{le-leb, lt-leb, eq-eqb, ne_eqb, leb-true, leb-false}
use Rattle.words.proofs.Laws.Cases.{by_bool, and_true}
use Rattle.refusals.specs.Limits.{file_limit}
use Rattle.opening.specs.Steps.{sound}

pub sound_far : (i p c : ℕ) → leb p file_limit ≡ false → sound i p c ≡ false
unfolding sound
sound_far i p c e = rw e

pub sound_short : (i p c : ℕ) → leb p file_limit ≡ true → p < c → sound i p c ≡ false
unfolding sound
sound_short i p c e h =
    let l : p < 36 * i + c = omega arith in
    rw (e, lt-leb _ _ l)

pub sound_few : (i p c : ℕ) → leb p file_limit ≡ true → c < i → sound i p c ≡ false
unfolding sound
sound_few i p c e h = by_bool (leb (36 * i + c) p) (λ t. rw (e, t, lt-leb i c h)) (λ t. rw (e, t))

pub sound_none : (i p c : ℕ) → leb p file_limit ≡ true → c ≤ p → i ≡ 0 → eqb c 0 ≡ sound i p c
unfolding sound
sound_none i p c e h z =
    let l : 36 * i + c ≤ p = omega arith in
    let m : i ≤ c = omega arith in
    rw (e, le-leb (36 * i + c) p l, le-leb i c m, eq-eqb i 0 z)

pub sound_count : (i p c : ℕ) → leb p file_limit ≡ true → c ≤ p → (i ≡ 0 → ⊥) → i ≤ c
    → leb i ((p - c) / 36) ≡ sound i p c
unfolding sound
sound_count i p c e h z m =
    by_bool (leb i ((p - c) / 36))
    (λ t. let k : i ≤ (p - c) / 36 = leb-true i ((p - c) / 36) t in
    let l : 36 * i + c ≤ p = omega arith in
    rw (t, e, le-leb _ _ l, le-leb i c m, ne_eqb i 0 z))
    (λ t. let k : (p - c) / 36 < i = leb-false i ((p - c) / 36) t in
    let l : p < 36 * i + c = omega arith in
    rw (t, e, lt-leb _ _ l))

pub sound-fits : (i p c : ℕ) → sound i p c ≡ true → 36 * i + c ≤ p
unfolding sound
sound-fits i p c e =
    leb-true (36 * i + c) p (and_true (leb (36 * i + c) p) _ (and_true (leb p file_limit) _ e).1).0
