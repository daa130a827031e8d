-- The blocks of pieces, and how they stand in a file.
--
-- In order:
--   found_closing, found_data      what a block of a size is found to be
--   data_behind, stand_data        a block's data stand behind its tag and size, and it passes
--   blocks_stand                   blocks of pieces pass, and are found with their data
--   length_in_blocks                .. which they end
--   length-blocks_from              how long they are
-- Assumes nothing.
use mathlib.Core.Path.{◌≡◌, refl, sym, ap, ◌∙◌}
use mathlib.Core.List.{List, [], ◌∷◌, ◌++◌, append_assoc, append-nil}
use Prim.Native.Nat.{ℕ, suc, ◌+◌, ◌*◌, ◌≤◌}
use native.Mathlib.Omega.{arith}
use lib.ListN.{length, take, drop, length-append, length-drop}
use lib.Seq.{take-append_seam, drop_at, drop-drop, drop-append_seam}
use borrow.Author.Tests.{ne_eqb}
use Rattle.words.specs.Endian.{le_bytes}
use Rattle.words.proofs.Laws.Endian.{length-le_bytes}
use Rattle.refusals.specs.Limits.{file_limit}
use Rattle.fips180.specs.Feeds.{joined}
use Rattle.block_stream.specs.Blocks.{block_tag, block_bytes, found, judge, data_at}
use Rattle.block_stream.specs.declared.Block.TheVariants.{Data, Closing}
use Rattle.block_stream.proofs.Laws.Judged.{length-block_tag, length-block_bytes, judge-standing}
use Rattle.cutting.specs.Cutting.{blocks_from, NonEmpty, InBlocks}

found_closing : found 0 ≡ Closing
unfolding found
found_closing = refl

found_data : (n : ℕ) → 1 ≤ n → found n ≡ Data n
unfolding found
found_data n h = rw (ne_eqb n 0 (λ e. omega arith))

-- a block with the data d at p, and r behind it
data_behind : (base d r f : List ℕ) (i p : ℕ) → drop p f ≡ block_bytes base i d ++ r → drop (p + 36) f ≡ d ++ r
unfolding block_bytes
data_behind base d r f i p e =
    let size = le_bytes 4 (length d) in
    let tag = block_tag base i (size ++ d) in
    let a : (tag ++ (size ++ d)) ++ r ≡ (tag ++ size) ++ (d ++ r) = rw (append_assoc, append_assoc, append_assoc) in
    let l : length (tag ++ size) ≡ 36 =
    length-append tag size ∙ omega (arith, length-block_tag base (size ++ d) i, length-le_bytes 4 (length d)) in
    sym (drop-drop 36 p f) ∙ ap (drop 36) (e ∙ a) ∙ drop_at (tag ++ size) (d ++ r) 36 l

-- .. within the limit: it passes, its data are found, and r stands behind it
stand_data : (base d r f : List ℕ) (i p : ℕ) → length f ≤ file_limit → drop p f ≡ block_bytes base i d ++ r → 1 ≤ length d
    → (judge base f i p ≡ Data (length d))
    × ((data_at f p (length d) ≡ d) × (drop (p + 36 + length d) f ≡ r))
stand_data base d r f i p l e h =
    let b : drop (p + 36) f ≡ d ++ r = data_behind base d r f i p e in (
      judge-standing base d r f i p l e ∙ found_data (length d) h,
      (
        ap (take (length d)) b ∙ take-append_seam d r,
        sym (drop-drop (length d) (p + 36) f) ∙ ap (drop (length d)) b ∙ drop-append_seam d r,
      ),
    )

pub blocks_stand : (base f : List ℕ) → length f ≤ file_limit → (ds : List (List ℕ)) (i p : ℕ)
    → drop p f ≡ blocks_from base i ds → NonEmpty ds
    → InBlocks base f i p ds
unfolding blocks_from NonEmpty InBlocks
blocks_stand base f l [] i p e h = (
  judge-standing base [] [] f i p l (e ∙ sym (append-nil (block_bytes base i []))) ∙ found_closing,
  omega (arith, length-drop p f, ap length e, length-block_bytes base [] i),
)
blocks_stand base f l (d ∷ ds) i p e h =
    let s = stand_data base d _ f i p l e h.0 in
    (s.0, (s.1.0, blocks_stand base f l ds (suc i) (p + 36 + length d) s.1.1 h.1))

pub length_in_blocks : (base f : List ℕ) (ds : List (List ℕ)) (i p : ℕ) → InBlocks base f i p ds
    → length f ≡ p + (length (joined ds) + 36 * (length ds + 1))
unfolding InBlocks joined
length_in_blocks base f [] i p h = h.1
length_in_blocks base f (d ∷ ds) i p h =
    length_in_blocks base f ds (suc i) (p + 36 + length d) h.1.1 ∙ omega (arith, length-append d (joined ds))

pub length-blocks_from : (base : List ℕ) (i : ℕ) (ds : List (List ℕ))
    → length (blocks_from base i ds) ≡ length (joined ds) + 36 * (length ds + 1)
unfolding blocks_from joined
length-blocks_from base i [] = length-block_bytes base [] i
length-blocks_from base i (d ∷ ds) =
    length-append (block_bytes base i d) (blocks_from base (suc i) ds)
    ∙ omega (
      arith,
      length-block_bytes base d i,
      length-append d (joined ds),
      length-blocks_from base (suc i) ds,
    )
