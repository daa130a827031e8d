-- The whole opener's count of blocks never ends a walk.
--
-- In order:
--   walk_in_same          two ways on that agree on the block met
--   walk-suc             one turn
--   walk_more            where the count reaches behind the file, one more changes nothing
-- Assumes nothing.
use mathlib.Core.Path.{◌≡◌, refl, sym, ◌∙◌}
use mathlib.Core.List.{List, ◌++◌}
use Prim.Native.Nat.{ℕ, zero, suc, ◌+◌, ◌≤◌, ◌<◌}
use native.Mathlib.Omega.{arith}
use lib.ListN.{length}
use Rattle.block_stream.specs.Blocks.{judge, data_at}
use Rattle.block_stream.specs.declared.Block.{Block}
use Rattle.block_stream.specs.declared.Block.TheVariants as block
use Rattle.opening.specs.declared.Keys.{Keys}
use Rattle.opening.specs.Decryption.{Opened}
use Rattle.opening.specs.Whole.{close_of, walk_in, walk}
use Rattle.opening.proofs.Laws.Judge.{judge_data}

pub walk_in_same : (b : Block) (more less : ℕ → Opened) (end : Opened) → ((n : ℕ) → b ≡ block.Data n → more n ≡ less n)
    → walk_in b more end ≡ walk_in b less end
unfolding walk_in
walk_in_same (block.Refused r) more less end same = refl
walk_in_same (block.Data n) more less end same = same n refl
walk_in_same block.Closing more less end same = refl

pub walk-suc : (m : ℕ) (k : Keys) (f : List ℕ) (i p : ℕ) (t : List ℕ)
    → walk (suc m) k f i p t
    ≡ walk_in (judge k.base f i p) (λ (n : ℕ). walk m k f (suc i) (p + 36 + n) (t ++ data_at f p n)) (close_of k f p t)
unfolding walk
walk-suc m k f i p t = refl

pub walk_more : (m : ℕ) (k : Keys) (f : List ℕ) (i p : ℕ) (t : List ℕ) → p ≤ length f → length f < m + p
    → walk (suc m) k f i p t ≡ walk m k f i p t
walk_more zero k f i p t l h = absurd (omega arith)
walk_more (suc m) k f i p t l h =
    walk-suc (suc m) k f i p t
    ∙ walk_in_same (judge k.base f i p) (λ (n : ℕ). walk (suc m) k f (suc i) (p + 36 + n) (t ++ data_at f p n))
    (λ (n : ℕ). walk m k f (suc i) (p + 36 + n) (t ++ data_at f p n)) (close_of k f p t)
    (λ n e.
    walk_more m k f (suc i) (p + 36 + n) (t ++ data_at f p n) (judge_data k.base f i p n e).present (omega arith))
    ∙ sym (walk-suc m k f i p t)
