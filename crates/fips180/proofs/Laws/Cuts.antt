-- Feeding two lists one after the other is feeding them joined: an equation of states, buffer and all, for every state
-- whose buffer is a block long.
--
-- In order: kept_append, absorbed-append.
-- Not here: what a state means (Feeding).
-- Assumes nothing.
use mathlib.Core.Path.{◌≡◌, ap, ◌∙◌}
use mathlib.Core.List.{List, ◌++◌, append_assoc}
use Prim.Native.Nat.{ℕ, ◌+◌, ◌≤◌, ◌<◌}
use native.Mathlib.Omega.{arith}
use lib.ListN.{length, replicate, length-append}
use borrow.Author.Tests.{lt-ltb, le-ltb}
use Rattle.fips180.specs.Fips180.{Sha2, block_bytes, parse, hash_blocks}
use Rattle.slices.proofs.Laws.Over.{over_over}
use Rattle.fips180.specs.Hashing.{Hashing, pending, rest, kept, absorbed}
use Rattle.fips180.proofs.Laws.Blocks.{by_block, rest_short, rest_append, hash_blocks-append}
use Rattle.fips180.proofs.Laws.Feeding.{pending-absorbed}
use Rattle.fips180.proofs.Laws.States.{state, state_same}

module _ (b : ℕ) (pos : 0 < b) (old m t : List ℕ) where
  -- m fills no block
  kept_short : length m < b → kept b (kept b old m) (rest b m ++ t) ≡ kept b old (m ++ t)
  unfolding kept
  kept_short h =
      by_block b (m ++ t)
      (λ k. rw (rest_short b pos m h, lt-ltb _ _ h, lt-ltb _ _ k, rest_short b pos (m ++ t) k) (over_over m t old))
      (λ k. rw (rest_short b pos m h, le-ltb _ _ k))

  -- m fills one
  kept_long : b ≤ length m → kept b (kept b old m) (rest b m ++ t) ≡ kept b old (m ++ t)
  unfolding kept
  kept_long h =
      let j : b ≤ length (m ++ t) = simp length-append (omega arith) in
      by_block b (rest b m ++ t)
      (λ k. rw (le-ltb _ _ h, le-ltb _ _ j, lt-ltb _ _ k, rest_append b pos m t, rest_short b pos (rest b m ++ t) k)
      (over_over (rest b m) t (replicate b 0)))
      (λ k. rw (le-ltb _ _ j, le-ltb _ _ k, rest_append b pos m t))

  kept_append : kept b (kept b old m) (rest b m ++ t) ≡ kept b old (m ++ t)
  kept_append = by_block b m kept_short kept_long

pub absorbed-append : (p : Sha2) → 0 < block_bytes p → (h : Hashing) (s t : List ℕ) → length h.buffer ≡ block_bytes p
    → absorbed p (absorbed p h s) t ≡ absorbed p h (s ++ t)
unfolding absorbed
absorbed-append p pos h s t l =
    let q = pending-absorbed p pos h s l in
    let e : (pending p h ++ s) ++ t ≡ pending p h ++ (s ++ t) = append_assoc (pending p h) s t in
    let n : h.total + length s + length t ≡ h.total + length (s ++ t) = simp length-append (omega arith) in
    let c : hash_blocks p (hash_blocks p h.chain (parse p (pending p h ++ s))) (parse p (pending p (absorbed p h s) ++ t)) ≡ hash_blocks p h.chain (parse p (pending p h ++ (s ++ t))) = cc (q, e, hash_blocks-append p pos h.chain (pending p h ++ s) t) in
    let k : kept (block_bytes p) (kept (block_bytes p) h.buffer (pending p h ++ s)) (pending p (absorbed p h s) ++ t) ≡ kept (block_bytes p) h.buffer (pending p h ++ (s ++ t)) = cc (q, e, kept_append (block_bytes p) pos h.buffer (pending p h ++ s) t) in
    state_same (h.total + length s + length t) c k
    ∙ ap (state (hash_blocks p h.chain (parse p (pending p h ++ (s ++ t))))
    (kept (block_bytes p) h.buffer (pending p h ++ (s ++ t)))) n
