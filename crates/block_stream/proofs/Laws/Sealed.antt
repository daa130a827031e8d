-- A block's tag and size written before its data.
--
-- In order:
--   sealed_stretch, sealed_over               what the tag is over; tag, size and data over the front
--   sealed_is                                 these steps are `sealed`
--   sealed-fits, sealed_short, sealed_long    a block over the front, or nothing is written
-- Not here: that a sealed block is accepted (Judged).
-- Assumes nothing.
use mathlib.Core.Path.{◌≡◌, sym, ap, ap₂, ◌∙◌}
use mathlib.Core.List.{List, ◌++◌, append_assoc}
use Prim.Native.Nat.{ℕ, ◌+◌, ◌-◌, ◌≤◌, ◌<◌}
use native.Mathlib.Omega.{arith}
use lib.ListN.{length, take, drop, length-append, length-drop, take-append-drop}
use lib.Seq.{drop_at, drop-drop, take-append-add, take_all, length-take-le}
use borrow.Author.Tests.{le-leb, lt-leb}
use Rattle.words.specs.Endian.{le_bytes}
use Rattle.slices.specs.Over.{over}
use Rattle.slices.proofs.Laws.Over.{length_over}
use Rattle.refusals.specs.Limits.{file_limit}
use Rattle.block_stream.specs.Blocks.{block_tag, block_bytes, sealed}

-- s with a size z at 32
module _ (z s : List ℕ) (lz : length z ≡ 4) (ls : 36 ≤ length s) where
  long : length (take 32 s ++ z) ≡ 36
  long = length-append (take 32 s) z ∙ ap₂ ◌+◌ (length-take-le 32 s (omega arith)) lz

  behind : drop 32 (over (take 32 s ++ z) s) ≡ z ++ drop 36 s
  unfolding over
  behind = rw (long, append_assoc) (drop_at (take 32 s) (z ++ drop 36 s) 32 (length-take-le 32 s (omega arith)))

  pub sealed_stretch : (n : ℕ) → take (4 + n) (drop 32 (over (take 32 s ++ z) s)) ≡ z ++ take n (drop 36 s)
  sealed_stretch n =
      rw behind (ap (λ (k : ℕ). take (k + n) (z ++ drop 36 s)) (sym lz) ∙ take-append-add z (drop 36 s) n)

  pub sealed_over : (t : List ℕ) (n : ℕ) → length t ≡ 32 → 36 + n ≤ length s
      → over t (over (take 32 s ++ z) s) ≡ over (t ++ (z ++ take n (drop 36 s))) s
  unfolding over
  sealed_over t n lt l =
      let d = take n (drop 36 s) in
      let ld : length d ≡ n = length-take-le n (drop 36 s) (simp length-drop (omega arith)) in
      let m : length (t ++ (z ++ d)) ≡ 36 + n = rw (length-append, length-append) (omega arith) in
      let e : d ++ drop (36 + n) s ≡ drop 36 s = rw (← drop-drop n 36 s) (take-append-drop n (drop 36 s)) in
      let r = drop (36 + n) s in
      rw (m, lt, append_assoc t (z ++ d) r, append_assoc z d r, e) (ap (λ (w : List ℕ). t ++ w) behind)

-- x has the size before the data, t is the tag of both
pub sealed_is : (base s x z t : List ℕ) (i n : ℕ) → 36 + n ≤ length s → n ≤ file_limit → length z ≡ 4 → z ≡ le_bytes 4 n
    → x ≡ over (take 32 s ++ z) s → length t ≡ 32 → t ≡ block_tag base i (take (36 + n - 32) (drop 32 x))
    → over (take (length x) t) x ≡ sealed base i n s
unfolding sealed block_bytes
sealed_is base s x z t i n l m lz ez ex lt et =
    let d = take n (drop 36 s) in
    let ls : 36 ≤ length s = omega arith in
    let ld : length d ≡ n = length-take-le n (drop 36 s) (simp length-drop (omega arith)) in
    let lf : length (take 32 s ++ z) ≤ length s = omega (arith, long z s lz ls) in
    let lx : length x ≡ length s = ap length ex ∙ length_over (take 32 s ++ z) s lf in
    let e : take (length x) t ≡ t = take_all (length x) t (omega arith) in
    let k : 36 + n - 32 ≡ 4 + n = omega arith in
    let tag : t ≡ block_tag base i (z ++ d) =
    et ∙ ap₂ (λ (j : ℕ) (w : List ℕ). block_tag base i (take j (drop 32 w))) k ex
    ∙ ap (block_tag base i) (sealed_stretch z s lz ls n) in
    let size : z ≡ le_bytes 4 (length d) = ez ∙ ap (le_bytes 4) (sym ld) in
    rw (le-leb _ _ l, le-leb _ _ m)
    (ap₂ over e ex ∙ sealed_over z s lz ls t n lt l
    ∙ ap₂ (λ (a b : List ℕ). over (a ++ (b ++ d)) s)
    (tag ∙ ap (λ (b : List ℕ). block_tag base i (b ++ d)) size) size)

pub sealed-fits : (base s : List ℕ) (i n : ℕ) → 36 + n ≤ length s → n ≤ file_limit
    → sealed base i n s ≡ over (block_bytes base i (take n (drop 36 s))) s
unfolding sealed
sealed-fits base s i n h l = rw (le-leb _ _ h, le-leb _ _ l)

pub sealed_short : (base s : List ℕ) (i n : ℕ) → length s < 36 + n → sealed base i n s ≡ s
unfolding sealed
sealed_short base s i n h = rw (lt-leb _ _ h)

pub sealed_long : (base s : List ℕ) (i n : ℕ) → 36 + n ≤ length s → file_limit < n → sealed base i n s ≡ s
unfolding sealed
sealed_long base s i n h l = rw (le-leb _ _ h, lt-leb _ _ l)
