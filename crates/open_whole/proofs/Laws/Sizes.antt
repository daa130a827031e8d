-- What the checks of a block say of its size, and the ciphertext block by block.
--
-- In order:
--   found_judge, judge_data, judge_closing    a block that passes is all there, with the size read
--   text_of_more, text_of_end                   one block, and the end, at any count
--   text_more, text_end                       the same of the whole text: the count never ends it
--   block_within, text_skip                   a block's data behind some bytes to skip
-- Assumes nothing.
use mathlib.Core.Path.{◌≡◌, refl, sym, ap, ap₂, ◌∙◌}
use mathlib.Core.List.{List, [], ◌++◌}
use Prim.Native.Nat.{ℕ, zero, suc, ◌+◌, ◌-◌, ◌^◌, ◌≤◌, ◌<◌, min}
use native.Mathlib.Omega.{arith}
use lib.Dec.{eqb, leb, ltb}
use lib.ListN.{length, take, drop, length-drop}
use lib.Seq.{take-add, drop_at, drop-drop, drop-append-le, drop-append-add, drop-length, length-take-le}
use borrow.Author.Tests.{leb-true, leb-false, le-leb, lt-leb, eqb-true, eqb-false, ne_eqb}
use Rattle.words.specs.Endian.{le}
use Rattle.words.specs.Size.{int32}
use Rattle.words.proofs.Laws.Cases.{by_bool}
use Rattle.refusals.specs.Limits.{file_limit}
use Rattle.block_stream.specs.Blocks.{holds, found, judge_size, judge, data_at}
use Rattle.block_stream.specs.declared.Block.{Block}
use Rattle.block_stream.specs.declared.Block.TheVariants.{Data, Closing, Refused}
use Rattle.open_whole.specs.Ciphertext.{block_size, text_of, text}

-- the block at p is all there, n bytes of data
pub record Standing (f : List ℕ) (p n : ℕ) : Type 0 where
  pub within : p + 36 + n ≤ length f
  pub size : block_size f p ≡ n

abbrev Found : List ℕ → ℕ → Block → Type 0
Found f p (Refused r) = Unit {0}
Found f p (Data n) = Standing f p n × (1 ≤ n)
Found f p Closing = Standing f p 0

module _ (base f : List ℕ) (i p : ℕ) where
  standing : p + 36 ≤ length f → le 4 f (p + 32) ≤ length f - (p + 36) → Standing f p (le 4 f (p + 32))
  unfolding block_size
  standing h k = record { within = omega arith; size = rw (le-leb _ _ h, le-leb _ _ k) }

  found_found : (n : ℕ) → Standing f p n → Found f p (found n)
  unfolding found
  found_found zero s = s
  found_found (suc n) s = rw (ne_eqb (suc n) 0 (λ e. omega arith)) (s, omega arith)

  found_judge : Found f p (judge base f i p)
  unfolding judge judge_size int32
  found_judge =
      by_bool (leb (length f) file_limit)
      (λ t. rw t
      (by_bool (leb (p + 36) (length f))
      (λ u. rw u
      (by_bool (ltb (le 4 f (p + 32)) (2 ^ 31))
      (λ v. rw v
      (by_bool (leb (le 4 f (p + 32)) (length f - (p + 36)))
      (λ w. rw w
      (by_bool (holds base f i p (le 4 f (p + 32)))
      (λ x. rw x (found_found (le 4 f (p + 32)) (standing (leb-true _ _ u) (leb-true _ _ w))))
      (λ x. rw x tt)))
      (λ w. rw w tt)))
      (λ v. rw v tt)))
      (λ u. rw u tt)))
      (λ t. rw t tt)

  pub judge_data : (n : ℕ) → judge base f i p ≡ Data n → Standing f p n × (1 ≤ n)
  judge_data n e = rw e at found_judge

  pub judge_closing : judge base f i p ≡ Closing → Standing f p 0
  judge_closing e = rw e at found_judge

pub text_of_more : (m : ℕ) (f : List ℕ) (p n : ℕ) → block_size f p ≡ n → (n ≡ 0 → ⊥)
    → text_of (suc m) f p ≡ data_at f p n ++ text_of m f (p + 36 + n)
unfolding text_of
text_of_more m f p n e z = rw (e, ne_eqb n 0 z)

pub text_of_end : (m : ℕ) (f : List ℕ) (p : ℕ) → block_size f p ≡ 0 → text_of m f p ≡ []
unfolding text_of
text_of_end zero f p e = refl
text_of_end (suc m) f p e = rw e

-- the size of a block that is not there
block_size_short : (f : List ℕ) (p : ℕ) → length f ≤ p → block_size f p ≡ 0
unfolding block_size
block_size_short f p h =
    let k : length f < p + 36 = omega arith in
    rw (lt-leb _ _ k)

-- one block more than there can be
text_of_enough : (m : ℕ) (f : List ℕ) (p : ℕ) → length f ≤ m + p → text_of m f p ≡ text_of (suc m) f p
unfolding text_of
text_of_enough zero f p h = sym (text_of_end 1 f p (block_size_short f p (omega arith)))
text_of_enough (suc m) f p h =
    by_bool (eqb (block_size f p) 0)
    (λ t. let e = eqb-true _ _ t in text_of_end (suc m) f p e ∙ sym (text_of_end (suc (suc m)) f p e))
    (λ t.
    let n : ℕ = block_size f p in
    let z = eqb-false _ _ t in
    text_of_more m f p n refl z
    ∙ ap (λ (l : List ℕ). data_at f p n ++ l) (text_of_enough m f (p + 36 + n) (omega arith))
    ∙ sym (text_of_more (suc m) f p n refl z))

pub text_more : (f : List ℕ) (p n : ℕ) → block_size f p ≡ n → (n ≡ 0 → ⊥)
    → text f p ≡ data_at f p n ++ text f (p + 36 + n)
unfolding text
text_more f p n e z =
    text_of_more (length f) f p n e z
    ∙ ap (λ (l : List ℕ). data_at f p n ++ l) (text_of_enough (length f) f (p + 36 + n) (omega arith))

pub text_end : (f : List ℕ) (p : ℕ) → block_size f p ≡ 0 → text f p ≡ []
unfolding text
text_end f p e = text_of_end (suc (length f)) f p e

pub block_within : (f : List ℕ) (p n : ℕ) → n ≡ block_size f p → (n ≡ 0 → ⊥) → p + 36 + n ≤ length f
unfolding block_size
block_within f p n e z =
    by_bool (leb (p + 36) (length f))
    (λ t.
    by_bool (leb (le 4 f (p + 32)) (length f - (p + 36)))
    (λ u.
    let a = rw (t, u) at e in
    let h : p + 36 ≤ length f = leb-true (p + 36) (length f) t in
    let k : le 4 f (p + 32) ≤ length f - (p + 36) = leb-true (le 4 f (p + 32)) (length f - (p + 36)) u in
    omega (arith, a, h, k))
    (λ u. let a = rw (t, u) at e in absurd (z a)))
    (λ t. let a = rw t at e in absurd (z a))

-- the part of a list behind j bytes, of its first n
drop-take : (j n : ℕ) (l : List ℕ) → j ≤ n → n ≤ length l → drop j (take n l) ≡ take (n - j) (drop j l)
drop-take j n l h k =
    let e : n ≡ j + (n - j) = omega arith in
    ap (λ (i : ℕ). drop j (take i l)) e ∙ ap (drop j) (take-add j (n - j) l)
    ∙ drop_at (take j l) (take (n - j) (drop j l)) j (length-take-le j l (omega arith))

drop-append : (j s : ℕ) (a b : List ℕ) → s ≡ min j (length a) → drop j (a ++ b) ≡ drop s a ++ drop (j - s) b
drop-append j s a b e =
    by_bool (leb j (length a))
    (λ t.
    let h : j ≤ length a = leb-true j (length a) t in
    let x : s ≡ j = omega (arith, h) in
    let y : j - j ≡ 0 = omega arith in
    rw (x, y) (drop-append-le j a b h))
    (λ t.
    let h : length a < j = leb-false j (length a) t in
    let x : s ≡ length a = omega (arith, h) in
    let y : j ≡ length a + (j - length a) = omega (arith, h) in
    rw (x, drop-length a) (ap (λ (i : ℕ). drop i (a ++ b)) y ∙ drop-append-add a b (j - length a)))

-- the text from a block on without its first j bytes, of which s are the block's
pub text_skip : (f : List ℕ) (p n j s : ℕ) → n ≡ block_size f p → (n ≡ 0 → ⊥) → s ≡ min j n
    → drop j (text f p) ≡ take (p + 36 + n - (p + 36 + s)) (drop (p + 36 + s) f) ++ drop (j - s) (text f (p + 36 + n))
text_skip f p n j s e z m =
    let w = block_within f p n e z in
    let x : n ≤ length (drop (p + 36) f) = simp length-drop (omega (arith, w)) in
    let l : length (data_at f p n) ≡ n = length-take-le n (drop (p + 36) f) x in
    let h : s ≤ n = omega arith in
    let y : p + 36 + n - (p + 36 + s) ≡ n - s = omega arith in
    ap (drop j) (text_more f p n (sym e) z)
    ∙ drop-append j s (data_at f p n) (text f (p + 36 + n)) (rw l m)
    ∙ ap (λ (u : List ℕ). u ++ drop (j - s) (text f (p + 36 + n)))
    (drop-take s n (drop (p + 36) f) h x ∙ ap₂ take (sym y) (drop-drop s (p + 36) f))
