-- The steps by which code feeds a state, over both algorithms: a list that fills no block, and one that does.
--
-- In order:
--   rest_block                         one whole block leaves no rest
--   state, state_same                  a state by its parts
--   filled                             the buffer after the list is copied behind the pending bytes
--   absorbed_short, absorbed_long      a list that fills no block, and one that does
--   absorbed_few, absorbed_many        the same of a buffer whose length is not written out
-- Not here: what the states mean (Feeding), the last blocks (Last).
-- Assumes nothing.
use mathlib.Core.Path.{◌≡◌, sym, ap, ◌∙◌}
use mathlib.Core.List.{List, [], ◌++◌, append_assoc}
use Prim.Native.Nat.{ℕ, ◌+◌, ◌-◌, ◌*◌, ◌/◌, ◌%◌, ◌≤◌, ◌<◌}
use native.Mathlib.Nat.{mod-lt}
use native.Mathlib.Omega.{arith}
use lib.ListN.{length, take, drop, replicate, length-append, length-drop, length-replicate, take-append-drop, drop_of_length-le}
use lib.Seq.{take_all, length-take-le, drop-drop}
use borrow.Author.Tests.{lt-ltb, le-ltb}
use borrow.Rule.Slice.PartMut.{put_mid}
use Rattle.slices.specs.Over.{over}
use Rattle.slices.proofs.Laws.Over.{over_all, over_behind}
use Rattle.slices.proofs.Laws.Parts.{part-tail}
use Rattle.fips180.specs.Fips180.{Sha2, block_bytes, parse, hash_blocks}
use Rattle.fips180.specs.Hashing.{Hashing, pending, rest, kept, absorbed}
use Rattle.fips180.proofs.Laws.Blocks.{rest_short, rest_more, length_rest, rest_append, hash_blocks_short, hash_blocks-append}

-- one whole block leaves no rest
pub rest_block : (b : ℕ) → 0 < b → (m : List ℕ) → length m ≡ b → rest b m ≡ []
rest_block b pos m e =
    let k : b ≤ length m = omega arith in
    let j : length m ≤ b = omega arith in
    rw (rest_more b pos m k, drop_of_length-le m j) (rest_short b pos [] pos)

-- a state by its three parts
abbrev pub state : List ℕ → List ℕ → ℕ → Hashing
state c b n = record { chain = c; buffer = b; total = n }

pub state_same : {c c' b b' : List ℕ} (n : ℕ) → c ≡ c' → b ≡ b' → state c b n ≡ state c' b' n
state_same n e f = cc

module _ (p : Sha2) (pos : 0 < block_bytes p) (h : Hashing) (s : List ℕ) (long : length h.buffer ≡ block_bytes p)
    (need : ℕ) (are : need ≡ block_bytes p - h.total % block_bytes p) where
  -- m is the buffer from the pending bytes on, as a copy of s into it left it
  module _ {m : List ℕ} (copied : m ≡ over
      (take (length (take need (drop (h.total % block_bytes p) h.buffer))) s)
      (take need (drop (h.total % block_bytes p) h.buffer))) where
    -- the front of s stands behind what was pending
    filled : put_mid (h.total % block_bytes p) need h.buffer m
        ≡ over (take (h.total % block_bytes p) h.buffer ++ take need s) h.buffer
    filled =
        let k = mod-lt h.total pos in
        over_behind s h.buffer m (h.total % block_bytes p) need (omega arith) (omega arith) copied

  length-joined : length (pending p h ++ s) ≡ h.total % block_bytes p + length s
  unfolding pending
  length-joined =
      let k = mod-lt h.total pos in
      let j : h.total % block_bytes p ≤ length h.buffer = omega arith in
      rw (length-append, length-take-le (h.total % block_bytes p) h.buffer j)

  module _ (few : length s < need) where
    length_short : length (pending p h ++ s) < block_bytes p
    length_short = omega (arith, length-joined)

    kept_short : over (take (h.total % block_bytes p) h.buffer ++ take need s) h.buffer
        ≡ kept (block_bytes p) h.buffer (pending p h ++ s)
    unfolding kept pending
    kept_short =
        let k : length s ≤ need = omega arith in
        rw (lt-ltb _ _ length_short, rest_short (block_bytes p) pos _ length_short, take_all need s k)

    -- a list that fills no block goes into the buffer, behind what is pending
    pub absorbed_short : {m : List ℕ}
        → m ≡ over (take (length (take need (drop (h.total % block_bytes p) h.buffer))) s)
        (take need (drop (h.total % block_bytes p) h.buffer))
        → state h.chain (put_mid (h.total % block_bytes p) need h.buffer m) (h.total + length s) ≡ absorbed p h s
    unfolding absorbed
    absorbed_short copied =
        state_same (h.total + length s) (sym (hash_blocks_short p pos h.chain (pending p h ++ s) length_short))
        (filled copied ∙ kept_short)

  module _ (enough : need ≤ length s) where
    -- the first block: what is pending, and the front of s
    length_first : length (pending p h ++ take need s) ≡ block_bytes p
    unfolding pending
    length_first =
        let k = mod-lt h.total pos in
        let i : h.total % block_bytes p ≤ length h.buffer = omega arith in
        simp (length-append, length-take-le (h.total % block_bytes p) h.buffer i, length-take-le need s enough)
        (omega arith)

    first_is : over (take (h.total % block_bytes p) h.buffer ++ take need s) h.buffer ≡ pending p h ++ take need s
    unfolding pending
    first_is = over_all (pending p h ++ take need s) h.buffer (omega (arith, length_first))

    joined-split : pending p h ++ s ≡ (pending p h ++ take need s) ++ drop need s
    joined-split = rw (append_assoc, take-append-drop)

    hash_blocks_long : hash_blocks p h.chain (parse p (pending p h ++ s))
        ≡ hash_blocks p (hash_blocks p h.chain (parse p (pending p h ++ take need s))) (parse p (drop need s))
    hash_blocks_long =
        rw (
          joined-split,
          hash_blocks-append p pos h.chain (pending p h ++ take need s) (drop need s),
          rest_block (block_bytes p) pos (pending p h ++ take need s) length_first,
        )

    rest_drop : rest (block_bytes p) (pending p h ++ s) ≡ rest (block_bytes p) (drop need s)
    rest_drop =
        rw (
          joined-split,
          rest_append (block_bytes p) pos (pending p h ++ take need s) (drop need s),
          rest_block (block_bytes p) pos (pending p h ++ take need s) length_first,
        )

    rest_long : rest (block_bytes p) (drop need s) ≡ drop (need + (length s - need) / block_bytes p * block_bytes p) s
    unfolding rest
    rest_long = rw (length-drop, drop-drop)

    -- the rest is shorter than a block, so that a copy takes all of it
    rest_fits : take (length (replicate {A = ℕ} (block_bytes p) 0)) (rest (block_bytes p) (drop need s))
        ≡ rest (block_bytes p) (drop need s)
    rest_fits =
        let k = mod-lt (length (drop need s)) pos in
        let n : length (replicate {A = ℕ} (block_bytes p) 0) ≡ block_bytes p = length-replicate (block_bytes p) 0 in
        take_all (length (replicate {A = ℕ} (block_bytes p) 0)) (rest (block_bytes p) (drop need s))
        (omega (arith, length_rest (block_bytes p) pos (drop need s)))

    kept_long : kept (block_bytes p) h.buffer (pending p h ++ s)
        ≡ over (rest (block_bytes p) (drop need s)) (replicate (block_bytes p) 0)
    unfolding kept
    kept_long =
        let k = mod-lt h.total pos in
        let j : block_bytes p ≤ length (pending p h ++ s) = omega (arith, length-joined) in
        rw (le-ltb _ _ j, rest_drop)

    -- a list that fills a block: the buffer's block, the blocks of the list itself, and its rest over zeros
    pub absorbed_long : {m c d l : List ℕ} (at : ℕ)
        → m ≡ over (take (length (take need (drop (h.total % block_bytes p) h.buffer))) s)
        (take need (drop (h.total % block_bytes p) h.buffer))
        → c ≡ hash_blocks p h.chain (parse p (put_mid (h.total % block_bytes p) need h.buffer m))
        → d ≡ hash_blocks p c (parse p (take (length s - need) (drop need s)))
        → at ≡ need + (length s - need) / block_bytes p * block_bytes p
        → l ≡ over (take (length (replicate {A = ℕ} (block_bytes p) 0)) (take (length s - at) (drop at s)))
        (replicate (block_bytes p) 0)
        → state d l (h.total + length s) ≡ absorbed p h s
    unfolding absorbed
    absorbed_long at e₁ e₂ e₃ e₄ e₅ =
        let r : drop at s ≡ rest (block_bytes p) (drop need s) = ap (λ (n : ℕ). drop n s) e₄ ∙ sym rest_long in
        state_same (h.total + length s)
        (cc (filled e₁, e₂, e₃, first_is, part-tail need s, hash_blocks_long))
        (cc (e₅, part-tail at s, r, rest_fits, kept_long))

-- the same of a buffer of b bytes that is lent from its pending bytes on: m is what the copy of s left there
module _ (p : Sha2) (pos : 0 < block_bytes p) (h : Hashing) (s : List ℕ) (b : ℕ) (is : b ≡ block_bytes p)
    (long : length h.buffer ≡ b) (need : ℕ) (are : need ≡ b - h.total % b) {m : List ℕ}
    (copied : m ≡ over (take (length (take (length h.buffer - h.total % b) (drop (h.total % b) h.buffer))) s)
    (take (length h.buffer - h.total % b) (drop (h.total % b) h.buffer))) where
  left : length h.buffer - h.total % b ≡ need
  left = omega arith

  pub absorbed_few : length s < need
      → state h.chain (put_mid (h.total % b) (length h.buffer - h.total % b) h.buffer m) (h.total + length s) ≡ absorbed p h s
  absorbed_few few =
      rw (left, is) (absorbed_short p pos h s (long ∙ is) need (rw is at are) few (rw (left, is) at copied))

  pub absorbed_many : {c d l : List ℕ} (at : ℕ) → need ≤ length s
      → c ≡ hash_blocks p h.chain (parse p (put_mid (h.total % b) (length h.buffer - h.total % b) h.buffer m))
      → d ≡ hash_blocks p c (parse p (take (length s - need) (drop need s)))
      → at ≡ need + (length s - need) / b * b
      → l ≡ over (take (length (replicate {A = ℕ} b 0)) (take (length s - at) (drop at s))) (replicate b 0)
      → state d l (h.total + length s) ≡ absorbed p h s
  absorbed_many at enough e₁ e₂ e₃ e₄ =
      absorbed_long p pos h s (long ∙ is) need (rw is at are) enough at (rw (left, is) at copied)
      (rw (left, is) at e₁) e₂ (rw is at e₃) (rw is at e₄)
