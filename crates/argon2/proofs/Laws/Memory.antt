-- The memory before it is filled and after (RFC 9106, 3.2, steps 3 to 8): what it held before does not matter.
--
-- In order:
--   length-first_block_of, length-first_blocks    a block has 128 words, and a memory is as long as it was
--   first_block                              each of the first blocks stands in its place
--   fill_any                                 a filled memory is the definition's, whatever it held before
--   accepts_is, tag_is                       the steps of code, one after the other, give the tag
-- Assumes nothing.
use mathlib.Core.Path.{◌≡◌, refl, sym, ap, ◌∙◌}
use mathlib.Core.Bool.{true}
use mathlib.Core.List.{List, ◌++◌}
use Prim.Native.Nat.{ℕ, zero, suc, ◌*◌, ◌≤◌, ◌<◌}
use native.Mathlib.Omega.{arith}
use lib.Dec.{eqb}
use lib.ListN.{length, replicate, length-replicate}
use borrow.Author.Tests.{lt-ltb, le-leb, eqb-true, eqb-false}
use Rattle.words.specs.Endian.{le_bytes}
use Rattle.words.proofs.Laws.Cases.{by_bool}
use Rattle.slices.specs.Over.{put_at}
use Rattle.slices.proofs.Laws.Put.{length-put_at}
use Rattle.blake2b.specs.Rfc7693.{serialize}
use Rattle.blake2b.proofs.Laws.Block.{length-serialize}
use Rattle.argon2_hash.specs.LongHash.{long_hash, filled}
use Rattle.argon2_hash.proofs.Laws.Long.{filled_short}
use Rattle.argon2_fill.specs.Rfc9106.{Figures, blocks, block_at, block, fill, chooser}
use Rattle.argon2_fill.specs.State as filling
use Rattle.argon2_fill.specs.State.{Fits, Room, accepts}
use Rattle.argon2_fill.proofs.Laws.Places.{lane_le, block_at-lt}
use Rattle.argon2_fill.proofs.Laws.Memory.{room_block, put_same, put_other}
use Rattle.argon2_fill.proofs.Laws.Filled.{filled_is}
use Rattle.argon2_fill.proofs.Laws.Given.{fill_given}
use Rattle.argon2.specs.Rfc9106.{first_block_of, first_blocks, filled_memory, last_column, tag_of}
use Rattle.argon2.proofs.Laws.First.{length-words}

pub length-first_block_of : (h : List ℕ) (i j : ℕ) → length (first_block_of h i j) ≡ 128
unfolding first_block_of
length-first_block_of h i j = length-words 128 (long_hash 1024 (h ++ (le_bytes 4 j ++ le_bytes 4 i)))

pub length-first_blocks : (f : Figures) (h : List ℕ) (n : ℕ) (m : List ℕ) → length (first_blocks f h n m) ≡ length m
unfolding first_blocks
length-first_blocks f h zero m = refl
length-first_blocks f h (suc n) m =
    let x : List ℕ = first_blocks f h n m in
    length-put_at (block_at f n 1 * 128) (first_block_of h n 1) (put_at (block_at f n 0 * 128) (first_block_of h n 0) x)
    ∙ length-put_at (block_at f n 0 * 128) (first_block_of h n 0) x ∙ length-first_blocks f h n m

module _ (f : Figures) (h : List ℕ) (fit : Fits f) where
  -- a first block put: itself, and any other
  put_own : (i j : ℕ) (x : List ℕ) → Room f x → i < f.lanes → j < 2
      → block (put_at (block_at f i j * 128) (first_block_of h i j) x) (block_at f i j) ≡ first_block_of h i j
  put_own i j x r k l =
      put_same x (first_block_of h i j) (block_at f i j) (length-first_block_of h i j)
      (room_block f x (block_at f i j) r (block_at-lt f i j k (omega (arith, fit.long))))

  put_else : (i j n : ℕ) (x : List ℕ) → Room f x → i < f.lanes → j < 2 → (n ≡ block_at f i j → ⊥)
      → block (put_at (block_at f i j * 128) (first_block_of h i j) x) n ≡ block x n
  put_else i j n x r k l =
      put_other x (first_block_of h i j) (block_at f i j) n (length-first_block_of h i j)
      (room_block f x (block_at f i j) r (block_at-lt f i j k (omega (arith, fit.long))))

  pub first_block : (n : ℕ) (m : List ℕ) → n ≤ f.lanes → Room f m → (i j : ℕ) → i < n → j < 2
      → block (first_blocks f h n m) (block_at f i j) ≡ first_block_of h i j
  unfolding first_blocks
  first_block zero m k r i j a b = absurd (omega arith)
  first_block (suc n) m k r i j a b =
      let x : List ℕ = first_blocks f h n m in
      let y : List ℕ = put_at (block_at f n 0 * 128) (first_block_of h n 0) x in
      let e : length x ≡ length m = length-first_blocks f h n m in
      let g : length y ≡ length x = length-put_at (block_at f n 0 * 128) (first_block_of h n 0) x in
      let rx : Room f x = omega arith in
      let ry : Room f y = omega arith in
      by_bool (eqb i n)
      (λ t. let u = eqb-true i n t in
      rw u
      (by_bool (eqb j 1)
      (λ v. let w = eqb-true j 1 v in rw w (put_own n 1 y ry k (omega arith)))
      (λ v. let w = eqb-false j 1 v in
      let z : j ≡ 0 = omega arith in
      rw z (put_else n 1 (block_at f n 0) y ry k (omega arith) (λ s. omega arith) ∙ put_own n 0 x rx k (omega arith)))))
      (λ t. let u = eqb-false i n t in
      let q = lane_le i n (4 * f.segment) (omega arith) in
      let l = fit.long in
      put_else n 1 (block_at f i j) y ry k (omega arith) (λ s. omega arith)
      ∙ put_else n 0 (block_at f i j) x rx k (omega arith) (λ s. omega arith)
      ∙ first_block n m (omega arith) r i j (omega arith) b)

  pub fill_any : 1 ≤ f.passes → (m : List ℕ) → length m ≡ blocks f * 128
      → fill (chooser f) f (first_blocks f h f.lanes m) ≡ filled_memory f h
  unfolding filled_memory
  fill_any p m e =
      let zs : List ℕ = replicate (blocks f * 128) 0 in
      let k : length zs ≡ blocks f * 128 = length-replicate (blocks f * 128) 0 in
      let a : (j : ℕ) → j < 2 → (i : ℕ) → i < f.lanes
      → block (first_blocks f h f.lanes m) (block_at f i j) ≡ block (first_blocks f h f.lanes zs) (block_at f i j) =
      λ j b i c. first_block f.lanes m (omega arith) (omega arith) i j c b
      ∙ sym (first_block f.lanes zs (omega arith) (omega arith) i j c b) in
      fill_given f fit p (first_blocks f h f.lanes m) (first_blocks f h f.lanes zs)
      (length-first_blocks f h f.lanes m ∙ e) (length-first_blocks f h f.lanes zs ∙ k)
      (λ i c. (a 0 (omega arith) i c, a 1 (omega arith) i c))

  pub accepts_is : (n : ℕ) → blocks f * 128 ≤ n → accepts f n ≡ true
  accepts_is n r =
      rw (
        lt-ltb 0 f.lanes fit.some,
        le-leb f.lanes 16 fit.few,
        le-leb 2 f.segment fit.long,
        le-leb f.segment 16384 fit.short,
        le-leb (blocks f * 128) n r,
      )

  -- the first blocks put, the memory filled, the last column, its bytes and their hash
  pub tag_is : (m x y c b d o : List ℕ) → 1 ≤ f.passes → length m ≡ blocks f * 128 → x ≡ first_blocks f h f.lanes m
      → y ≡ filling.filled f x → c ≡ last_column f y f.lanes → length c ≡ 128 → b ≡ serialize c → o ≡ filled b d
      → o ≡ tag_of f h (length d)
  unfolding tag_of
  tag_is m x y c b d o p e ex ey ec lc eb eo =
      let l : length x ≡ length m = ap length ex ∙ length-first_blocks f h f.lanes m in
      let n : y ≡ filled_memory f h =
      ey ∙ filled_is f x (accepts_is (length x) (omega arith)) ∙ ap (fill (chooser f) f) ex ∙ fill_any p m e in
      let k : length b ≡ 8 * length c = ap length eb ∙ length-serialize c in
      eo ∙ filled_short b d (omega arith)
      ∙ ap (long_hash (length d)) (eb ∙ ap serialize (ec ∙ ap (λ (z : List ℕ). last_column f z f.lanes) n))
