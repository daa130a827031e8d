-- Document 02, Item 13, at sizes that the documents name.
--
--   "Another maker's program cuts blocks at 1,000 bytes"                         cut_at_1000
--   1,048,576 and 16,384, our written blocks since Item 7 and before it          now_and_before
--   any one size, the last block perhaps shorter                                 cuts_at, cut_at
--   "sizes .. none where there is no ciphertext" (ChaCha20's empty payload)      cut_nothing
-- Not here: AES blocks of 5 and 27 bytes, and what we write (crate round_trip).
-- Assumes nothing.
use mathlib.Core.Path.{◌≡◌, sym, ap}
use mathlib.Core.List.{List, [], ◌++◌}
use Prim.Native.Nat.{ℕ, ◌+◌, ◌≤◌, ◌<◌}
use native.Mathlib.Omega.{arith}
use lib.ListN.{length, take}
use Rattle.refusals.specs.Limits.{file_limit}
use Rattle.block_stream.specs.Blocks.{block_bytes}
use Rattle.cutting.specs.Cutting.{Positive, total, pieces, blocks_from, sizes_at, block_count, cut_length}
use Rattle.cutting.proofs.Laws.Cut.{total_at, positive_at, length_at, count_le}
use Rattle.opening.specs.declared.Keys.{Keys}
use Rattle.open_whole.specs.Ciphertext.{text}
use Rattle.vault.specs.Vault.{start, begun}
use Rattle.recutting.specs.Opens.{BothOpen}
use Rattle.recutting.specs.Recut.{recut, recut_at, Cuts, SameVault}
use Rattle.recutting.proofs.Theorem.{length-recut}

cuts_at : (t f : List ℕ) (k : Keys) (p : ℕ) → start t f ≡ begun k p → (z : ℕ) → 0 < z
    → p + cut_length z (length (text f p)) ≤ file_limit
    → Cuts k f p (sizes_at z (text f p))
cuts_at t f k p e z some l =
    let q = total_at z some (text f p) in
    record {
      positive = positive_at z some (text f p);
      adds_up = q;
      fits = omega (
        arith,
        length-recut t f k p e (sizes_at z (text f p)) q,
        length_at z some (text f p),
      );
    }

module _ (t f b : List ℕ) (v : SameVault t f b) where
  pub cut_at : (z : ℕ) → 0 < z → v.place + cut_length z (length (text f v.place)) ≤ file_limit
      → BothOpen t (recut_at z v.keys f v.place) v.keys v.place b
      (block_count z (length (text f v.place)) + 1)
  cut_at z some l =
      rw (← length_at z some (text f v.place))
      (v.other_cutting (sizes_at z (text f v.place)) (cuts_at t f v.keys v.place v.begins z some l))

  pub cut_at_1000 : v.place + cut_length 1_000 (length (text f v.place)) ≤ file_limit
      → BothOpen t (recut_at 1_000 v.keys f v.place) v.keys v.place b
      (block_count 1_000 (length (text f v.place)) + 1)
  cut_at_1000 l = cut_at 1_000 (omega arith) l

  -- a file that was cut at 16,384 bytes and the same cut at 1,048,576: where the first is within the limit, so is the
  -- second
  pub now_and_before : v.place + cut_length 16_384 (length (text f v.place)) ≤ file_limit
      → BothOpen t (recut_at 16_384 v.keys f v.place) v.keys v.place b
      (block_count 16_384 (length (text f v.place)) + 1)
      × BothOpen t (recut_at 1_048_576 v.keys f v.place) v.keys v.place b
      (block_count 1_048_576 (length (text f v.place)) + 1)
  now_and_before l =
      let m = count_le 16_384 1_048_576 (length (text f v.place)) (omega arith) (omega arith) in
      (cut_at 16_384 (omega arith) l, cut_at 1_048_576 (omega arith) (omega arith))

  -- no ciphertext: the closing block alone
  pub cut_nothing : text f v.place ≡ [] → v.place + 36 ≤ file_limit
      → BothOpen t (take v.place f ++ block_bytes v.keys.base 0 []) v.keys v.place b 1
  unfolding recut pieces blocks_from Positive total
  cut_nothing e l =
      let q : total [] ≡ length (text f v.place) = ap length (sym e) in
      let n = length-recut t f v.keys v.place v.begins [] q in
      v.other_cutting [] (record { positive = tt; adds_up = q; fits = omega (arith, ap length e) })
