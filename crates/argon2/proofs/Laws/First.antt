-- The first two blocks of each lane (3.2, steps 3 and 4), as code puts them.
--
-- In order:
--   length-seed, seed_is               H_0 and the block's two numbers, laid one behind the other
--   length-words                       so many words
--   words_none, words_more, words_all  a block's words, put over the front one after the other
--   first_offset, first_room           where a first block begins, and that the memory has it
--   first_put, first_long              a first block put in its place, which leaves the length
--   firsts_more                        those of one lane more
-- Assumes nothing.
use mathlib.Core.Path.{◌≡◌, refl, sym, ap, ap₂, ◌∙◌}
use mathlib.Core.List.{List, [], ◌∷◌, ◌++◌, append_assoc}
use Prim.Native.Nat.{ℕ, zero, suc, ◌+◌, ◌-◌, ◌*◌, ◌≤◌, ◌<◌}
use native.Mathlib.Numerals.{add-one}
use native.Mathlib.Omega.{arith}
use lib.ListN.{length, get_or, set, take, drop, length-append}
use lib.Seq.{drop-cons, set_at, append_snoc}
use Rattle.words.specs.Endian.{le, le_bytes}
use Rattle.words.proofs.Laws.Endian.{length-le_bytes}
use Rattle.slices.specs.Over.{over, put_at}
use Rattle.slices.proofs.Laws.Over.{over_nil, over_whole}
use Rattle.slices.proofs.Laws.Put.{length-put_at, laid_first, laid_more}
use Rattle.blake2b.specs.Rfc7693.{block_words}
use Rattle.argon2_hash.specs.LongHash.{long_hash}
use Rattle.argon2_fill.specs.Rfc9106.{Figures, lane_length, blocks, block_at}
use Rattle.argon2_fill.specs.State.{Fits}
use Rattle.argon2_fill.proofs.Laws.Places.{times_le, block_at-lt}
use Rattle.argon2_fill.proofs.Laws.Blocks.{block_put}
use Rattle.argon2.specs.Rfc9106.{first_block_of, first_blocks}

-- H_0 || LE32(j) || LE32(i)
abbrev pub seed : List ℕ → ℕ → ℕ → List ℕ
seed h i j = h ++ (le_bytes 4 j ++ le_bytes 4 i)

pub length-seed : (h : List ℕ) (i j : ℕ) → length h ≡ 64 → length (seed h i j) ≡ 72
length-seed h i j l =
    let a = length-le_bytes 4 i in
    let b = length-le_bytes 4 j in
    simp length-append (omega arith)

pub seed_is : (h d : List ℕ) (i j : ℕ) {a b x y z : List ℕ} → length h ≡ 64 → length d ≡ 72 → a ≡ le_bytes 4 j
    → b ≡ le_bytes 4 i → x ≡ put_at 0 h d → y ≡ put_at 64 a x → z ≡ put_at 68 b y → z ≡ seed h i j
seed_is h d i j {a} {b} {x} {y} {z} l n ea eb ex ey ez =
    let k : length (h ++ a) ≡ 68 = simp length-append (omega (arith, ap length ea, length-le_bytes 4 j)) in
    let s : (h ++ a) ++ b ≡ seed h i j = append_assoc h a b ∙ ap₂ (λ (u v : List ℕ). h ++ (u ++ v)) ea eb in
    let m : length ((h ++ a) ++ b) ≡ length d = ap length s ∙ length-seed h i j l ∙ sym n in
    let p = laid_more h a d x y 64 l (laid_first h d x ex) ey in
    laid_more (h ++ a) b d y z 68 k p ez ∙ over_whole ((h ++ a) ++ b) d m ∙ s

pub length-words : (n : ℕ) (b : List ℕ) → length (block_words n b) ≡ n
unfolding block_words
length-words zero b = refl
length-words (suc n) b = let e = length-words n b in simp length-append (omega arith)

-- one word behind those that are written
over_next : (w d : List ℕ) (i v : ℕ) → length w ≡ i → i < length d → set (over w d) i v ≡ over (w ++ (v ∷ [])) d
unfolding over
over_next w d i v e h =
    let n : length (w ++ (v ∷ [])) ≡ suc i = simp length-append (omega arith) in
    rw (n, e, drop-cons d i 0 h, set_at w (get_or d i 0) (drop (suc i) d) v i e)
    (sym (append_snoc w v (drop (suc i) d)))

pub words_none : (b d : List ℕ) → d ≡ over (block_words 0 b) d
unfolding block_words
words_none b d = sym (over_nil d)

pub words_more : (b d o : List ℕ) (i v : ℕ) → o ≡ over (block_words i b) d → i < length d → v ≡ le 8 b (i * 8)
    → set o i v ≡ over (block_words (i + 1) b) d
unfolding block_words
words_more b d o i v e h f = rw (e, f, add-one) (over_next (block_words i b) d i (le 8 b (i * 8)) (length-words i b) h)

pub words_all : (b d o : List ℕ) (i n : ℕ) → i ≡ n → o ≡ over (block_words i b) d → o ≡ over (block_words n b) d
words_all b d o i n h e = e ∙ ap (λ (k : ℕ). over (block_words k b) d) h

module _ (f : Figures) (h : Fits f) where
  -- products that code computes
  pub first_offset : (i : ℕ) → i < f.lanes → i * lane_length f ≤ 1048576
  first_offset i k = times_le i (lane_length f) (omega (arith, h.few)) (omega (arith, h.short))

  pub first_room : (i j n : ℕ) → i < f.lanes → j < 2 → blocks f * 128 ≤ n → block_at f i j * 128 + 128 ≤ n
  first_room i j n k l m =
      let b = block_at-lt f i j k (omega (arith, h.long)) in
      omega arith

  pub first_put : (s m : List ℕ) (i j k : ℕ) {b ys : List ℕ} → i < f.lanes → j < 2 → blocks f * 128 ≤ length m
      → k ≡ length m - block_at f i j * 128 → b ≡ long_hash 1024 (seed s i j)
      → ys ≡ over (block_words 128 b) (take k (drop (block_at f i j * 128) m))
      → take (block_at f i j * 128) m ++ (ys ++ drop k (drop (block_at f i j * 128) m))
      ≡ put_at (block_at f i j * 128) (first_block_of s i j) m
  unfolding first_block_of
  first_put s m i j k {b} {ys} a l n e g r =
      block_put m ys (block_words 128 b) (block_at f i j * 128) k (first_room i j (length m) a l n) e (length-words 128 b)
      r
      ∙ ap (λ (x : List ℕ). put_at (block_at f i j * 128) (block_words 128 x) m) g

pub first_long : (f : Figures) (s x : List ℕ) (i j : ℕ) {y : List ℕ}
    → y ≡ put_at (block_at f i j * 128) (first_block_of s i j) x → length y ≡ length x
first_long f s x i j e = ap length e ∙ length-put_at (block_at f i j * 128) (first_block_of s i j) x

pub firsts_more : (f : Figures) (s m : List ℕ) (i : ℕ) {x y z : List ℕ} → x ≡ first_blocks f s i m
    → y ≡ put_at (block_at f i 0 * 128) (first_block_of s i 0) x → z ≡ put_at (block_at f i 1 * 128) (first_block_of s i 1) y
    → z ≡ first_blocks f s (i + 1) m
unfolding first_blocks
firsts_more f s m i ex ey ez = rw add-one (cc (ex, ey, ez))
