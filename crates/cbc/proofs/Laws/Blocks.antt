-- Strings cut into blocks, and blocks joined.
--
-- In order:
--   Sizes, AllBlocks, all_sizes         lists of sixteen bytes, lists of blocks
--   length-blocks, blocks-add, blocks-snoc, blocks-append, blocks-sizes, blocks_all
--   joined-append, length-joined, joined-blocks, blocks-joined
--   whole_blocks-sizes, whole_blocks_all, whole_blocks-append, whole_blocks-joined, joined-whole_blocks
--   xors-block                          the exclusive or of two blocks
-- Not here: the mode itself (Chain, Mode).
-- Assumes nothing.
use mathlib.Core.Path.{◌≡◌, refl, ◌∙◌, ap}
use mathlib.Core.List.{List, [], ◌∷◌, ◌++◌, append_assoc}
use Prim.Native.Nat.{ℕ, zero, suc, ◌+◌, ◌*◌, ◌/◌, ◌%◌, ◌≤◌}
use native.Mathlib.Nat.{suc-add, zero-add}
use native.Mathlib.Omega.{arith}
use lib.Bits.{xor_lt}
use lib.ListN.{length, take, drop, length-append, length-drop, take-append-drop}
use lib.Seq.{length-take-le, take-append-le, drop-append-le, take_at, drop_at, drop-drop, get_or-drop}
use Rattle.words.specs.Endian.{Bytes}
use Rattle.words.specs.Xor.{xors}
use Rattle.words.proofs.Laws.Xors.{length-xors}
use Rattle.words.specs.Block.{IsBlock}
use Rattle.slices.specs.Cut.{cut}
use Rattle.cbc.specs.Sp80038a.{blocks, whole_blocks, joined}

-- a list of lists of sixteen
pub data Sizes : List (List ℕ) → Type 0 where
  sizes_none : Sizes []
  sizes_more : {x : List ℕ} {xs : List (List ℕ)} → length x ≡ 16 → Sizes xs → Sizes (x ∷ xs)

-- a list of blocks
pub data AllBlocks : List (List ℕ) → Type 0 where
  all_none : AllBlocks []
  all_more : {x : List ℕ} {xs : List (List ℕ)} → IsBlock x → AllBlocks xs → AllBlocks (x ∷ xs)

pub all_sizes : {xs : List (List ℕ)} → AllBlocks xs → Sizes xs
all_sizes all_none = sizes_none
all_sizes (all_more p q) = sizes_more p.size (all_sizes q)

pub length-blocks : (n : ℕ) (s : List ℕ) → length (blocks n s) ≡ n
unfolding cut
length-blocks zero s = refl
length-blocks (suc n) s = ap suc (length-blocks n (drop 16 s))

pub blocks-add : (n m : ℕ) (s : List ℕ) → blocks (n + m) s ≡ blocks n s ++ blocks m (drop (16 * n) s)
unfolding cut
blocks-add zero m s = rw (zero-add m)
blocks-add (suc n) m s =
    let e : 16 + 16 * n ≡ 16 * suc n = omega arith in
    rw (suc-add n m, blocks-add n m (drop 16 s), drop-drop (16 * n) 16 s, e)

pub blocks-snoc : (n : ℕ) (s : List ℕ) → blocks (n + 1) s ≡ blocks n s ++ (take 16 (drop (16 * n) s) ∷ [])
unfolding cut
blocks-snoc n s = blocks-add n 1 s

pub blocks-append : (n : ℕ) (a b : List ℕ) → 16 * n ≤ length a → blocks n (a ++ b) ≡ blocks n a
unfolding cut
blocks-append zero a b h = refl
blocks-append (suc n) a b h =
    let one : 16 ≤ length a = omega arith in
    let left : 16 * n ≤ length (drop 16 a) = simp length-drop (omega arith) in
    rw (take-append-le 16 a b one, drop-append-le 16 a b one, blocks-append n (drop 16 a) b left)

pub blocks-sizes : (n : ℕ) (s : List ℕ) → 16 * n ≤ length s → Sizes (blocks n s)
unfolding cut
blocks-sizes zero s h = sizes_none
blocks-sizes (suc n) s h =
    let rest = length-drop 16 s in
    sizes_more (length-take-le 16 s (omega arith)) (blocks-sizes n (drop 16 s) (omega arith))

-- a part of bytes is bytes
take_bytes : (n : ℕ) (s : List ℕ) → Bytes s → Bytes (take n s)
take_bytes zero s b k = omega arith
take_bytes (suc n) [] b k = omega arith
take_bytes (suc n) (x ∷ s) b zero = b 0
take_bytes (suc n) (x ∷ s) b (suc k) = take_bytes n s (λ i. b (suc i)) k

pub blocks_all : (n : ℕ) (s : List ℕ) → 16 * n ≤ length s → Bytes s → AllBlocks (blocks n s)
unfolding cut
blocks_all zero s h b = all_none
blocks_all (suc n) s h b =
    let rest = length-drop 16 s in
    all_more (record { size = length-take-le 16 s (omega arith); bytes = take_bytes 16 s b })
    (blocks_all n (drop 16 s) (omega arith) (λ k. rw (get_or-drop 16 s k 0) (b (16 + k))))

pub joined-append : (xs ys : List (List ℕ)) → joined (xs ++ ys) ≡ joined xs ++ joined ys
unfolding joined
joined-append [] ys = refl
joined-append (x ∷ xs) ys = rw (joined-append xs ys, append_assoc)

pub length-joined : {xs : List (List ℕ)} → Sizes xs → length (joined xs) ≡ 16 * length xs
unfolding joined
length-joined sizes_none = refl
length-joined (sizes_more {x} {xs} p q) =
    let e = length-joined q in
    simp length-append (omega arith)

pub joined-blocks : (n : ℕ) (s : List ℕ) → length s ≡ 16 * n → joined (blocks n s) ≡ s
unfolding cut joined
joined-blocks zero [] e = refl
joined-blocks zero (x ∷ s) e = absurd (omega arith)
joined-blocks (suc n) s e =
    let left : length (drop 16 s) ≡ 16 * n = simp length-drop (omega arith) in
    rw (joined-blocks n (drop 16 s) left, take-append-drop 16 s)

pub blocks-joined : {xs : List (List ℕ)} → Sizes xs → blocks (length xs) (joined xs) ≡ xs
unfolding cut joined
blocks-joined sizes_none = refl
blocks-joined (sizes_more {x} {xs} p q) = rw (take_at x (joined xs) 16 p, drop_at x (joined xs) 16 p, blocks-joined q)

pub whole_blocks-sizes : (s : List ℕ) → Sizes (whole_blocks s)
unfolding whole_blocks
whole_blocks-sizes s = blocks-sizes (length s / 16) s (omega arith)

pub whole_blocks_all : (s : List ℕ) → Bytes s → AllBlocks (whole_blocks s)
unfolding whole_blocks
whole_blocks_all s b = blocks_all (length s / 16) s (omega arith) b

pub whole_blocks-append : (a b : List ℕ) → length a % 16 ≡ 0 → whole_blocks (a ++ b) ≡ whole_blocks a ++ whole_blocks b
unfolding whole_blocks
whole_blocks-append a b h =
    let n : length (a ++ b) / 16 ≡ length a / 16 + length b / 16 = simp length-append (omega arith) in
    let e : length a ≡ 16 * (length a / 16) = omega arith in
    let l : 16 * (length a / 16) ≤ length a = omega arith in
    rw (
      n,
      blocks-add (length a / 16) (length b / 16) (a ++ b),
      blocks-append (length a / 16) a b l,
      drop_at a b (16 * (length a / 16)) e,
    )

pub whole_blocks-joined : {xs : List (List ℕ)} → Sizes xs → whole_blocks (joined xs) ≡ xs
unfolding whole_blocks
whole_blocks-joined {xs} p =
    let l = length-joined p in
    let n : length (joined xs) / 16 ≡ length xs = omega arith in
    rw n (blocks-joined p)

pub joined-whole_blocks : (s : List ℕ) → length s % 16 ≡ 0 → joined (whole_blocks s) ≡ s
unfolding whole_blocks
joined-whole_blocks s h = joined-blocks (length s / 16) s (omega arith)

xors_bytes : (x y : List ℕ) → Bytes x → Bytes y → Bytes (xors x y)
unfolding xors
xors_bytes [] y p q k = omega arith
xors_bytes (a ∷ x) [] p q k = omega arith
xors_bytes (a ∷ x) (b ∷ y) p q zero = xor_lt 8 a b (p 0) (q 0)
xors_bytes (a ∷ x) (b ∷ y) p q (suc k) = xors_bytes x y (λ i. p (suc i)) (λ i. q (suc i)) k

pub xors_size : (x y : List ℕ) → length x ≡ 16 → length y ≡ 16 → length (xors x y) ≡ 16
xors_size x y p q =
    let l : length x ≤ length y = omega arith in
    length-xors x y l ∙ p

pub xors-block : (x y : List ℕ) → IsBlock x → IsBlock y → IsBlock (xors x y)
xors-block x y p q = record { size = xors_size x y p.size q.size; bytes = xors_bytes x y p.bytes q.bytes }
