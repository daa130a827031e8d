-- Blocks that are accepted: what is known of them, and that a block which is written is one.
--
-- In order:
--   length-block_tag, length-block_bytes    32 bytes, and 36 bytes and the data
--   judge-standing                        a block's bytes that stand in a file, at any place
--   judge_written                         the same with what stands before and behind them
--   judge-sealed                          a block that was sealed, at the front
--   Stands, judge_data, judge_closing     a block that is accepted stands in the file
-- Not here: how they come there (Sealed).
-- Assumes nothing.
use mathlib.Core.Path.{◌≡◌, refl, sym, ap, ◌∙◌}
use mathlib.Core.Bool.{true}
use mathlib.Core.List.{List, ◌++◌, append_assoc}
use Prim.Native.Nat.{ℕ, ◌+◌, ◌-◌, ◌^◌, ◌≤◌, ◌<◌}
use native.Mathlib.Nat.{add-zero, mod-eq_of_lt}
use native.Mathlib.Omega.{arith}
use lib.Dec.{eqb, leb}
use lib.ListN.{length, take, drop, length-append, length-drop}
use lib.Seq.{length-take-le, take_at, drop_at, drop-drop, drop-append_seam}
use borrow.Author.Tests.{le-leb, lt-ltb, leb-true}
use Rattle.words.specs.Endian.{le, le_bytes}
use Rattle.words.specs.Size.{int32}
use Rattle.std.specs.Prelude.{Option, Some, None}
use Rattle.words.proofs.Laws.Cases.{by_bool}
use Rattle.words.proofs.Laws.Endian.{le-le_bytes, le-drop, le-append, length-le_bytes}
use Rattle.slices.specs.Over.{over}
use Rattle.slices.proofs.Laws.Over.{length_over}
use Rattle.slices.proofs.Laws.Same.{same_refl}
use Rattle.refusals.specs.Limits.{file_limit}
use Rattle.refusals.proofs.Laws.Limits.{file_size}
use Rattle.fips180.specs.Fips180.{sha256}
use Rattle.fips180.proofs.Laws.Lengths.{length-hash, length-iv256}
use Rattle.hmac.specs.Rfc2104.{hmac}
use Rattle.block_stream.specs.declared.Block.{Block}
use Rattle.block_stream.specs.declared.Block.TheVariants.{Data, Closing, Refused}
use Rattle.block_stream.specs.Blocks.{block_tag, block_bytes, holds, found, judge_size, judge, sealed}
use Rattle.block_stream.proofs.Laws.Sealed.{sealed-fits}

pub length-block_tag : (base m : List ℕ) (i : ℕ) → length (block_tag base i m) ≡ 32
unfolding block_tag hmac
length-block_tag base m i = length-hash sha256 _ length-iv256

pub length-block_bytes : (base d : List ℕ) (i : ℕ) → length (block_bytes base i d) ≡ 36 + length d
unfolding block_bytes
length-block_bytes base d i =
    rw (length-append, length-append, length-block_tag, length-le_bytes) (omega arith)

-- t is the tag, d the data, r what stands behind
module _ (t d r f : List ℕ) (p : ℕ) (lt : length t ≡ 32) (l : length f ≤ file_limit)
    (e : drop p f ≡ (t ++ (le_bytes 4 (length d) ++ d)) ++ r) where
  abbrev size : List ℕ
  size = le_bytes 4 (length d)

  length_size : length (size ++ d) ≡ 4 + length d
  length_size = length-append size d ∙ ap (λ (k : ℕ). k + length d) (length-le_bytes 4 (length d))

  within : p + 36 + length d ≤ length f
  within =
      let k : length f - p ≡ 36 + length d + length r =
      sym (length-drop p f) ∙ ap length e ∙ rw (length-append, length-append, lt, length_size) (omega arith) in
      omega (arith, k)

  tag-part : take 32 (drop p f) ≡ t
  tag-part = rw (e, append_assoc t (size ++ d) r) (take_at t ((size ++ d) ++ r) 32 lt)

  behind : drop (p + 32) f ≡ (size ++ d) ++ r
  behind = rw (← drop-drop 32 p f, e, append_assoc t (size ++ d) r) (drop_at t ((size ++ d) ++ r) 32 lt)

  stretch : take (4 + length d) (drop (p + 32) f) ≡ size ++ d
  stretch = rw behind (take_at (size ++ d) r (4 + length d) length_size)

  size_is : le 4 f (p + 32) ≡ length d
  size_is =
      let a : le 4 f (p + 32) ≡ le 4 (drop (p + 32) f) 0 =
      sym (le-drop (p + 32) 4 f 0 ∙ ap (le 4 f) (add-zero (p + 32))) in
      let b : 0 + 4 ≤ length size = omega (arith, length-le_bytes 4 (length d)) in
      let k : length d < 256 ^ 4 = omega (arith, within, l, file_size) in
      a ∙ ap (λ (s : List ℕ). le 4 s 0) (behind ∙ append_assoc size d r) ∙ le-append 4 size (d ++ r) 0 b
      ∙ le-le_bytes 4 (length d) ∙ mod-eq_of_lt k

  int32_is : int32 (le 4 f (p + 32)) ≡ Some (length d)
  unfolding int32
  int32_is =
      let k : length d < 2 ^ 31 = omega (arith, within, l, file_size) in
      rw (size_is, lt-ltb (length d) (2 ^ 31) k)

  holds_is : (base : List ℕ) (i : ℕ) → t ≡ block_tag base i (size ++ d) → holds base f i p (length d) ≡ true
  unfolding holds
  holds_is base i g = rw (tag-part, stretch, ← g) (same_refl t)

  judged : (base : List ℕ) (i : ℕ) → t ≡ block_tag base i (size ++ d) → judge base f i p ≡ found (length d)
  unfolding judge judge_size
  judged base i g =
      let a : p + 36 ≤ length f = omega (arith, within) in
      let b : length d ≤ length f - (p + 36) = omega (arith, within) in
      rw (le-leb _ _ l, le-leb _ _ a, int32_is, le-leb _ _ b, holds_is base i g)

-- what stands from p on in a file starts with the bytes of block i
pub judge-standing : (base d r f : List ℕ) (i p : ℕ) → length f ≤ file_limit → drop p f ≡ block_bytes base i d ++ r
    → judge base f i p ≡ found (length d)
unfolding block_bytes
judge-standing base d r f i p l e =
    let t = block_tag base i (le_bytes 4 (length d) ++ d) in
    judged t d r f p (length-block_tag base (le_bytes 4 (length d) ++ d) i) l e base i refl

-- whatever stands before and behind it
pub judge_written : (base s d r : List ℕ) (i : ℕ) → length (s ++ (block_bytes base i d ++ r)) ≤ file_limit
    → judge base (s ++ (block_bytes base i d ++ r)) i (length s) ≡ found (length d)
judge_written base s d r i l =
    judge-standing base d r (s ++ (block_bytes base i d ++ r)) i (length s) l
    (drop-append_seam s (block_bytes base i d ++ r))

over_is : (b s : List ℕ) → drop 0 (over b s) ≡ b ++ drop (length b) s
unfolding over
over_is b s = refl

-- what is sealed is accepted
pub judge-sealed : (base s : List ℕ) (i n : ℕ) → length s ≤ file_limit → 36 + n ≤ length s
    → judge base (sealed base i n s) i 0 ≡ found n
judge-sealed base s i n l h =
    let d = take n (drop 36 s) in
    let b = block_bytes base i d in
    let ld : length d ≡ n = length-take-le n (drop 36 s) (simp length-drop (omega arith)) in
    let lb : length b ≤ length s = omega (arith, length-block_bytes base d i) in
    let e : sealed base i n s ≡ over b s = sealed-fits base s i n h (omega arith) in
    let k : length (over b s) ≤ file_limit = omega (arith, length_over b s lb) in
    ap (λ (x : List ℕ). judge base x i 0) e ∙ judge-standing base d (drop (length b) s) (over b s) i 0 k (over_is b s)
    ∙ ap found ld

-- a block that is accepted stands in a file within the limit
pub record Stands (f : List ℕ) (p n : ℕ) : Type 0 where
  pub limit : length f ≤ file_limit
  pub inside : p + 36 + n ≤ length f

-- nothing is said of a refusal
abbrev Kept : List ℕ → ℕ → Block → Type 0
Kept f p (Data n) = Stands f p n
Kept f p Closing = Stands f p 0
Kept f p (Refused r) = 0 ≤ 0

found_kept : (f : List ℕ) (p n : ℕ) → Stands f p n → Kept f p (found n)
unfolding found
found_kept f p n h =
    by_bool (eqb n 0)
    (λ t. rw t (record { limit = h.limit; inside = omega (arith, h.inside) }))
    (λ t. rw t h)

judge_size_kept : (base f : List ℕ) (i p : ℕ) (z : Option ℕ) → length f ≤ file_limit → p + 36 ≤ length f
    → Kept f p (judge_size base f i p z)
unfolding judge_size
judge_size_kept base f i p None l h = omega arith
judge_size_kept base f i p (Some n) l h =
    by_bool (leb n (length f - (p + 36)))
    (λ t. by_bool (holds base f i p n)
    (λ u. rw (t, u)
    (found_kept f p n (record { limit = l; inside = omega (arith, leb-true n (length f - (p + 36)) t) })))
    (λ u. rw (t, u) (omega arith)))
    (λ t. rw t (omega arith))

judge_kept : (base f : List ℕ) (i p : ℕ) → Kept f p (judge base f i p)
unfolding judge
judge_kept base f i p =
    by_bool (leb (length f) file_limit)
    (λ t. by_bool (leb (p + 36) (length f))
    (λ u. rw (t, u)
    (judge_size_kept base f i p (int32 (le 4 f (p + 32))) (leb-true (length f) file_limit t)
    (leb-true (p + 36) (length f) u)))
    (λ u. rw (t, u) (omega arith)))
    (λ t. rw t (omega arith))

pub judge_data : (base f : List ℕ) (i p n : ℕ) → judge base f i p ≡ Data n → Stands f p n
judge_data base f i p n e = rw e at (judge_kept base f i p)

pub judge_closing : (base f : List ℕ) (i p : ℕ) → judge base f i p ≡ Closing → Stands f p 0
judge_closing base f i p e = rw e at (judge_kept base f i p)
