-- The ciphertext of a file in blocks is their data, one behind the other.
--
-- In order: text-blocks.
-- Assumes nothing.
use mathlib.Core.Path.{◌≡◌, ap₂, ◌∙◌}
use mathlib.Core.List.{List, [], ◌∷◌, ◌++◌}
use Prim.Native.Nat.{ℕ, suc, ◌+◌}
use native.Mathlib.Omega.{arith}
use lib.ListN.{length}
use Rattle.fips180.specs.Feeds.{joined}
use Rattle.cutting.specs.Cutting.{InBlocks}
use Rattle.open_whole.specs.Ciphertext.{text}
use Rattle.open_whole.proofs.Laws.Sizes.{judge_data, judge_closing, text_more, text_end}

pub text-blocks : (base f : List ℕ) (ds : List (List ℕ)) (i p : ℕ) → InBlocks base f i p ds → text f p ≡ joined ds
unfolding InBlocks joined
text-blocks base f [] i p h = text_end f p (judge_closing base f i p h.0).size
text-blocks base f (d ∷ ds) i p h =
    let j = judge_data base f i p (length d) h.0 in
    text_more f p (length d) j.0.size (λ e. omega (arith, j.1))
    ∙ ap₂ (λ (x y : List ℕ). x ++ y) h.1.0 (text-blocks base f ds (suc i) (p + 36 + length d) h.1.1)
