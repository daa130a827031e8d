-- The last column, and its bytes (RFC 9106, 3.2, steps 7 and 8).
--
-- In order:
--   xored_word                      a word of the exclusive or of a block and a slice's front
--   last_lt                         the last block of a lane stands in the memory
--   column_none, column_more        no lane yet, and one lane more
-- Not here: the bytes of one word more (blake2b: Laws.Block).
-- Assumes nothing.
use mathlib.Core.Path.{◌≡◌, refl, sym, ap, ◌∙◌}
use mathlib.Core.List.{List}
use Prim.Native.Nat.{ℕ, ◌+◌, ◌-◌, ◌*◌, ◌≤◌, ◌<◌}
use native.Mathlib.Numerals.{add-one}
use native.Mathlib.Omega.{arith}
use lib.Bits.{bit_xor}
use lib.ListN.{length, get_or, take, drop, replicate}
use lib.Seq.{length-take-le, get_or-take}
use Rattle.words.specs.Xor.{xors}
use Rattle.slices.proofs.Laws.Parts.{part-tail}
use Rattle.argon2_fill.specs.Rfc9106.{Figures, lane_length, blocks, block_at}
use Rattle.argon2_fill.specs.State.{Fits}
use Rattle.argon2_fill.proofs.Laws.Places.{block_at-lt}
use Rattle.argon2_fill.proofs.Laws.Blocks.{fresh_word}
use Rattle.argon2.specs.Rfc9106.{last_column}

pub xored_word : (b s : List ℕ) (i : ℕ) → length b ≡ 128 → 128 ≤ length s → i < 128
    → bit_xor (get_or b i 0) (get_or s i 0) ≡ get_or (xors b (take 128 s)) i 0
xored_word b s i h k l =
    ap (bit_xor (get_or b i 0)) (sym (get_or-take 128 s i 0 l)) ∙ fresh_word b (take 128 s) i h (length-take-le 128 s k) l

pub last_lt : (f : Figures) (i : ℕ) → Fits f → i < f.lanes → block_at f i (lane_length f - 1) < blocks f
last_lt f i h k = let l = h.long in block_at-lt f i (lane_length f - 1) k (omega arith)

pub column_none : (f : Figures) (m : List ℕ) → replicate 128 0 ≡ last_column f m 0
unfolding last_column
column_none f m = refl

pub column_more : (f : Figures) (m c d : List ℕ) (i at k : ℕ) → c ≡ last_column f m i
    → at ≡ block_at f i (lane_length f - 1) * 128 → k ≡ length m - at → d ≡ xors c (take 128 (take k (drop at m)))
    → d ≡ last_column f m (i + 1)
unfolding last_column
column_more f m c d i at k e a h g = rw (add-one, ← e, ← a) (g ∙ rw (h, part-tail at m))
