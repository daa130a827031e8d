-- The message schedule (6.2.2 and 6.4.2, step 1), a word at a time.
--
-- In order: block_words_more (the block's own words), grow_more (the words after them).
-- Assumes nothing.
use mathlib.Core.Path.{◌≡◌}
use mathlib.Core.List.{List}
use Prim.Native.Nat.{ℕ, suc, ◌+◌, ◌-◌, ◌*◌, ◌≤◌, ◌<◌}
use native.Mathlib.Omega.{arith}
use native.Mathlib.Numerals.{add-one}
use lib.ListN.{length, get_or, take, set}
use lib.Seq.{take-suc-set, length-take-le, get_or-take}
use Rattle.words.specs.Endian.{be}
use Rattle.fips180.specs.Fips180.{Sha2, block_words, next_word, word_after, grow}

module _ (p : Sha2) where
  pub block_words_more : (block w : List ℕ) (i v : ℕ) → i < length w → take i w ≡ block_words p i block → v
      ≡ be p.bytes block (i * p.bytes)
      → take (i + 1) (set w i v) ≡ block_words p (i + 1) block
  unfolding block_words
  block_words_more block w i v h e ev = rw (add-one, take-suc-set w i v, e, ev)

  -- the words that the next one is made of, by their places in an array
  word_after_is : (w : List ℕ) (i : ℕ) → 16 ≤ i → i ≤ length w
      → word_after p (take i w) ≡ next_word p (get_or w (i - 2) 0) (get_or w (i - 7) 0) (get_or w (i - 15) 0)
      (get_or w (i - 16) 0)
  unfolding word_after
  word_after_is w i h₁ h₂ =
      rw (
        length-take-le i w h₂,
        get_or-take i w (i - 2) 0 (omega arith),
        get_or-take i w (i - 7) 0 (omega arith),
        get_or-take i w (i - 15) 0 (omega arith),
        get_or-take i w (i - 16) 0 (omega arith),
      )

  pub grow_more : (ws w : List ℕ) (i v : ℕ) → 16 ≤ i → i < length w → take i w ≡ grow p (i - 16) ws
      → v ≡ next_word p (get_or w (i - 2) 0) (get_or w (i - 7) 0) (get_or w (i - 15) 0) (get_or w (i - 16) 0)
      → take (i + 1) (set w i v) ≡ grow p (i + 1 - 16) ws
  unfolding grow
  grow_more ws w i v h₁ h₂ e ev =
      let n : i + 1 - 16 ≡ suc (i - 16) = omega arith in
      let long : i ≤ length w = omega arith in
      rw (n, add-one, take-suc-set w i v, ev, ← word_after_is w i h₁ long, e)
