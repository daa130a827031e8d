-- Blocks of a memory.
--
-- In order:
--   room_block, length-block    a block stands in the memory, and has 128 words
--   put_same, put_other         a block put: itself, and any other
--   whole                       memories with the same blocks are the same
-- Assumes nothing.
use mathlib.Core.Path.{◌≡◌, sym, ap, ◌∙◌}
use mathlib.Core.List.{List, ◌++◌}
use Prim.Native.Nat.{ℕ, ◌+◌, ◌-◌, ◌*◌, ◌/◌, ◌%◌, ◌≤◌, ◌<◌}
use native.Mathlib.Omega.{arith}
use lib.Dec.{ltb}
use lib.ListN.{length, get_or, take, drop, length-drop}
use lib.Seq.{take_all, take_at, drop_at, take-append-le, drop-append-le, drop-append-add, drop-drop, length-take-le, get_or-take, get_or-drop, ext_get_or}
use borrow.Author.Tests.{ltb-true, ltb-false}
use Rattle.words.proofs.Laws.Cases.{by_bool}
use Rattle.slices.specs.Over.{over, put_at}
use Rattle.slices.proofs.Laws.Parts.{part_front}
use Rattle.argon2_fill.specs.Rfc9106.{Figures, blocks, block}
use Rattle.argon2_fill.specs.State.{Room}

pub room_block : (f : Figures) (m : List ℕ) (k : ℕ) → Room f m → k < blocks f → k * 128 + 128 ≤ length m
room_block f m k h l = omega arith

pub length-block : (m : List ℕ) (k : ℕ) → k * 128 + 128 ≤ length m → length (block m k) ≡ 128
length-block m k h = length-take-le 128 (drop (k * 128) m) (simp length-drop (omega arith))

put_is : (m w : List ℕ) (at : ℕ) → length w ≡ 128 → at + 128 ≤ length m
    → put_at at w m ≡ take at m ++ (w ++ drop (at + 128) m)
unfolding put_at over
put_is m w at e h =
    let k : length w ≤ length (drop at m) = simp length-drop (omega arith) in
    rw (take_all (length (drop at m)) w k, e, drop-drop)

pub put_same : (m w : List ℕ) (k : ℕ) → length w ≡ 128 → k * 128 + 128 ≤ length m → block (put_at (k * 128) w m) k ≡ w
put_same m w k e h =
    let at : ℕ = k * 128 in
    let t : length (take at m) ≡ at = length-take-le at m (omega arith) in
    ap (λ (x : List ℕ). take 128 (drop at x)) (put_is m w at e h)
    ∙ ap (take 128) (drop_at (take at m) (w ++ drop (at + 128) m) at t)
    ∙ take_at w (drop (at + 128) m) 128 e

-- behind what is put
drop_put : (m w : List ℕ) (at d : ℕ) → length w ≡ 128 → at + 128 ≤ length m
    → drop (at + (128 + d)) (put_at at w m) ≡ drop (at + (128 + d)) m
drop_put m w at d e h =
    let t : length (take at m) ≡ at = length-take-le at m (omega arith) in
    let r : List ℕ = drop (at + 128) m in
    let a : at + 128 + d ≡ at + (128 + d) = omega arith in
    ap (drop (at + (128 + d))) (put_is m w at e h)
    ∙ ap (λ (n : ℕ). drop (n + (128 + d)) (take at m ++ (w ++ r))) (sym t)
    ∙ drop-append-add (take at m) (w ++ r) (128 + d)
    ∙ ap (λ (n : ℕ). drop (n + d) (w ++ r)) (sym e)
    ∙ drop-append-add w r d
    ∙ drop-drop d (at + 128) m
    ∙ ap (λ (n : ℕ). drop n m) a

pub put_other : (m w : List ℕ) (k j : ℕ) → length w ≡ 128 → k * 128 + 128 ≤ length m → (j ≡ k → ⊥)
    → block (put_at (k * 128) w m) j ≡ block m j
put_other m w k j e h n =
    let at : ℕ = k * 128 in
    let t : length (take at m) ≡ at = length-take-le at m (omega arith) in
    let r : List ℕ = w ++ drop (at + 128) m in
    by_bool (ltb j k)
    (λ u. let l = ltb-true j k u in
    let c : length (drop (j * 128) (take at m)) ≡ at - j * 128 = simp (length-drop, t) in
    ap (λ (x : List ℕ). take 128 (drop (j * 128) x)) (put_is m w at e h)
    ∙ ap (take 128) (drop-append-le (j * 128) (take at m) r (omega arith))
    ∙ take-append-le 128 (drop (j * 128) (take at m)) r (omega arith)
    ∙ part_front at (j * 128) 128 m (omega arith))
    (λ u. let l = ltb-false j k u in
    let g : k < j = omega arith in
    let d : ℕ = j * 128 - (at + 128) in
    let i : at + (128 + d) ≡ j * 128 = omega arith in
    ap (take 128) (rw i at (drop_put m w at d e h)))

-- a word, by its block
word_of : (m : List ℕ) (i : ℕ) → get_or (block m (i / 128)) (i % 128) 0 ≡ get_or m i 0
word_of m i =
    let e : i / 128 * 128 + i % 128 ≡ i = omega arith in
    get_or-take 128 (drop (i / 128 * 128) m) (i % 128) 0 (omega arith)
    ∙ get_or-drop (i / 128 * 128) m (i % 128) 0
    ∙ ap (λ (n : ℕ). get_or m n 0) e

pub whole : (b : ℕ) (m n : List ℕ) → length m ≡ b * 128 → length n ≡ b * 128
    → ((k : ℕ) → k < b → block m k ≡ block n k) → m ≡ n
whole b m n e g h =
    ext_get_or 0 m n (e ∙ sym g)
    (λ i l. sym (word_of m i) ∙ ap (λ (x : List ℕ). get_or x (i % 128) 0) (h (i / 128) (omega arith)) ∙ word_of n i)
