-- The blocks of a ciphertext, one behind the other.
--
-- In order:
--   blocks_none, blocks_full, blocks_last       nothing left, a full block before the rest, the last one
--   blocks-cut                                  a full block of a payload before the rest
--   blocks-turn                                 one turn of the loop that writes them
-- Not here: how a ciphertext is cut (crate cutting), how code lays blocks (Laying).
-- Assumes nothing.
use mathlib.Core.Path.{◌≡◌, sym, ap, ap₂, ◌∙◌}
use mathlib.Core.List.{List, [], ◌++◌}
use Prim.Native.Nat.{ℕ, suc, ◌+◌, ◌%◌, ◌≤◌}
use native.Mathlib.Omega.{arith}
use lib.ListN.{length, take, drop, length-append, length-drop, take-append-drop}
use lib.Seq.{take_at, take-add, drop_at, drop-drop, length-take-le}
use Rattle.refusals.specs.Limits.{written_block}
use Rattle.refusals.proofs.Laws.Limits.{block_positive, block-pieces}
use Rattle.block_stream.specs.Blocks.{block_bytes}
use Rattle.block_stream.proofs.Laws.Judged.{length-block_bytes}
use Rattle.cutting.specs.Cutting.{blocks_from}
use Rattle.cutting.proofs.Laws.Cut.{cut_none, cut_full, cut_last}
use Rattle.opening.specs.declared.Keys.{Keys}
use Rattle.writer.specs.Stretches.{stretch_by, prev_by, text_of, blocks_at, last_blocks}
use Rattle.writer.proofs.Laws.Stretches.{text_of-append, stretch_append, length_stretch}

pub blocks_none : (base : List ℕ) (i : ℕ) (t : List ℕ) → length t ≡ 0 → blocks_at base i t ≡ block_bytes base i []
unfolding blocks_from
blocks_none base i t e = ap (blocks_from base i) (cut_none written_block block_positive t e)

pub blocks_full : (base : List ℕ) (i : ℕ) (a b : List ℕ) → length a ≡ written_block
    → blocks_at base i (a ++ b) ≡ block_bytes base i a ++ blocks_at base (suc i) b
unfolding blocks_from
blocks_full base i a b e = ap (blocks_from base i) (cut_full written_block block_positive a b e)

pub blocks_last : (base : List ℕ) (i : ℕ) (a : List ℕ) → (length a ≡ 0 → ⊥) → length a ≤ written_block
    → blocks_at base i a ≡ block_bytes base i a ++ block_bytes base (suc i) []
unfolding blocks_from
blocks_last base i a n h = ap (blocks_from base i) (cut_last written_block block_positive a n h)

-- a block of a payload, encrypted, before the rest of it chained to the block
pub blocks-cut : (k : Keys) (v : List ℕ) (i p : ℕ) (a b : List ℕ) → length v ≡ 16 → length a ≡ written_block
    → last_blocks k v i p (a ++ b)
    ≡ block_bytes k.base i (stretch_by k.cipher k v p a)
    ++ last_blocks k (prev_by k.cipher k v a) (suc i) (p + length a) b
blocks-cut k v i p a b lv la =
    let c = k.cipher in
    let h : length a % 16 ≡ 0 = omega (arith, block-pieces) in
    let t : stretch_by c k v p (text_of c (a ++ b))
    ≡ stretch_by c k v p a ++ stretch_by c k (prev_by c k v a) (p + length a) (text_of c b) =
    ap (stretch_by c k v p) (text_of-append c a b h) ∙ stretch_append c k v p a (text_of c b) lv h in
    ap (blocks_at k.base i) t
    ∙ blocks_full k.base i (stretch_by c k v p a) (stretch_by c k (prev_by c k v a) (p + length a) (text_of c b))
    (length_stretch c k v p a lv h ∙ la)

-- what stands behind `at` begins with b
module _ (w b r : List ℕ) (at m : ℕ) (e : drop at w ≡ b ++ r) (l : length b ≡ m) where
  next_take : take (at + m) w ≡ take at w ++ b
  next_take = take-add at m w ∙ ap (λ (z : List ℕ). take at w ++ z) (ap (take m) e ∙ take_at b r m l)

  next_drop : drop (at + m) w ≡ r
  next_drop = sym (drop-drop m at w) ∙ ap (drop m) e ∙ drop_at b r m l

  next_le : at ≤ length w → at + m ≤ length w
  next_le h = omega (arith, length-drop at w, ap length e, length-append b r)

-- a turn: the piece a of the payload d, from p on, and its block of the blocks w, from `at` on
pub record Turned (k : Keys) (w d v a : List ℕ) (i p at n : ℕ) : Type 0 where
  pub written : take (at + (36 + n)) w ≡ take at w ++ block_bytes k.base i (stretch_by k.cipher k v p a)
  pub left : drop (at + (36 + n)) w ≡ last_blocks k (prev_by k.cipher k v a) (i + 1) (p + n) (drop (p + n) d)
  pub fits : at + (36 + n) ≤ length w
  pub piece : length a ≡ n
  pub pieces : n % 16 ≡ 0

pub blocks-turn : (k : Keys) (w d v a : List ℕ) (i p at n : ℕ) → n ≡ written_block → length v ≡ 16 → p + n ≤ length d
    → at ≤ length w → a ≡ take n (drop p d) → drop at w ≡ last_blocks k v i p (drop p d)
    → Turned k w d v a i p at n
blocks-turn k w d v a i p at n en lv l la f e =
    let c = k.cipher in
    let g : length a ≡ n = ap length f ∙ length-take-le n (drop p d) (simp length-drop (omega arith)) in
    let h : length a % 16 ≡ 0 = omega (arith, block-pieces) in
    let r = drop (p + n) d in
    let s : drop p d ≡ a ++ r =
    sym (take-append-drop n (drop p d)) ∙ ap₂ (λ (x y : List ℕ). x ++ y) (sym f) (drop-drop n p d) in
    let b = block_bytes k.base i (stretch_by c k v p a) in
    let j : suc i ≡ i + 1 = omega arith in
    let q : p + length a ≡ p + n = omega arith in
    let z = last_blocks k (prev_by c k v a) (i + 1) (p + n) r in
    let t : drop at w ≡ b ++ z =
    e ∙ ap (last_blocks k v i p) s ∙ blocks-cut k v i p a r lv (g ∙ en)
    ∙ ap₂ (λ (x y : ℕ). b ++ last_blocks k (prev_by c k v a) x y r) j q in
    let u : length b ≡ 36 + n = omega (arith, length-block_bytes k.base (stretch_by c k v p a) i, length_stretch c k v p a lv h) in
    record {
      written = next_take w b z at (36 + n) t u;
      left = next_drop w b z at (36 + n) t u;
      fits = next_le w b z at (36 + n) t u la;
      piece = g;
      pieces = omega (arith, block-pieces);
    }
