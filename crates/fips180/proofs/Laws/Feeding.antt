-- Feeding a state is hashing the joined message: the laws of `start`, `absorbed` and `finish`, over both algorithms.
--
-- In order: Holds (what a state has taken), start-holds, length_kept, pending-absorbed, absorbed-holds, finish-holds.
-- Not here: parsing (Blocks), lists of feeds (Feeds).
-- Assumes nothing.
use mathlib.Core.Path.{◌≡◌, refl, sym, ap, ◌∙◌}
use mathlib.Core.Bool.{Bool, true, false, cond}
use mathlib.Core.List.{List, [], ◌++◌}
use Prim.Native.Nat.{ℕ, ◌+◌, ◌%◌, ◌<◌}
use native.Mathlib.Nat.{mod-add-mod, mod-lt, mod-eq_of_lt}
use native.Mathlib.Omega.{arith}
use lib.Dec.{ltb}
use lib.ListN.{length, replicate, length-append, length-replicate}
use lib.Seq.{length-take-le}
use Rattle.slices.proofs.Laws.Over.{length_over, take_over}
use Rattle.fips180.specs.Fips180.{Sha2, block_bytes, padding, pad, parse, hash_blocks, hash}
use Rattle.fips180.specs.Hashing.{Hashing, start, pending, rest, kept, absorbed, finish}
use Rattle.fips180.proofs.Laws.Blocks.{rest_short, length_rest, rest_append, hash_blocks_short, hash_blocks-append}

-- the state h has taken the message m
pub record Holds (p : Sha2) (h : Hashing) (m : List ℕ) : Type 0 where
  pub chained : h.chain ≡ hash_blocks p p.iv (parse p m)
  pub waiting : pending p h ≡ rest (block_bytes p) m
  pub counted : h.total ≡ length m
  pub long : length h.buffer ≡ block_bytes p

length-cond : (d e : List ℕ) {n : ℕ} (t : Bool) → length d ≡ n → length e ≡ n → length (cond t d e) ≡ n
length-cond d e true h k = h
length-cond d e false h k = k

module _ (p : Sha2) (pos : 0 < block_bytes p) where
  length-pending : (h : Hashing) → length h.buffer ≡ block_bytes p → length (pending p h) ≡ h.total % block_bytes p
  unfolding pending
  length-pending h l =
      let k = mod-lt h.total pos in
      length-take-le (h.total % block_bytes p) h.buffer (omega arith)

  -- the rest of what is pending and s is as long as the new total says
  length_next : (h : Hashing) (s : List ℕ) → length h.buffer ≡ block_bytes p
      → length (rest (block_bytes p) (pending p h ++ s)) ≡ (h.total + length s) % block_bytes p
  length_next h s l =
      rw (length_rest (block_bytes p) pos (pending p h ++ s), length-append, length-pending h l)
      (mod-add-mod h.total (block_bytes p) (length s))

  pub length_kept : (h : Hashing) (s : List ℕ) → length h.buffer ≡ block_bytes p
      → length (kept (block_bytes p) h.buffer (pending p h ++ s)) ≡ block_bytes p
  unfolding kept
  length_kept h s l =
      let e = length-cond h.buffer (replicate (block_bytes p) 0) (ltb (length (pending p h ++ s)) (block_bytes p)) l
      (length-replicate (block_bytes p) 0) in
      let k = mod-lt (h.total + length s) pos in
      length_over (rest (block_bytes p) (pending p h ++ s)) _ (omega (arith, length_next h s l, e)) ∙ e

  pub pending-absorbed : (h : Hashing) (s : List ℕ) → length h.buffer ≡ block_bytes p
      → pending p (absorbed p h s) ≡ rest (block_bytes p) (pending p h ++ s)
  unfolding pending absorbed kept
  pending-absorbed h s l = take_over (rest (block_bytes p) (pending p h ++ s)) _ _ (length_next h s l)

  start_waits : pending p (start p) ≡ rest (block_bytes p) []
  unfolding pending start
  start_waits = rw (rest_short (block_bytes p) pos [] pos, mod-eq_of_lt pos)

  pub start-holds : Holds p (start p) []
  unfolding start
  start-holds =
      record {
        chained = sym (hash_blocks_short p pos p.iv [] pos);
        waiting = start_waits;
        counted = refl;
        long = length-replicate (block_bytes p) 0;
      }

  pub absorbed-holds : (h : Hashing) (m s : List ℕ) → Holds p h m → Holds p (absorbed p h s) (m ++ s)
  unfolding absorbed
  absorbed-holds h m s o =
      record {
        chained = cc (hash_blocks-append p pos p.iv m s, o.chained, o.waiting);
        waiting = pending-absorbed h s o.long ∙ ap (λ (l : List ℕ). rest (block_bytes p) (l ++ s)) o.waiting
            ∙ sym (rest_append (block_bytes p) pos m s);
        counted = simp length-append (omega (arith, o.counted));
        long = length_kept h s o.long;
      }

  pub finish-holds : (h : Hashing) (m : List ℕ) → Holds p h m → finish p h ≡ hash p m
  unfolding finish hash pad
  finish-holds h m o =
      cc (o.chained, o.waiting, o.counted, hash_blocks-append p pos p.iv m (padding p (length m)))
