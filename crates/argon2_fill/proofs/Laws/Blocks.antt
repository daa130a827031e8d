-- One block compressed and put in place, word by word.
--
-- In order:
--   put_more, put_all                        words written over the front, one after the other
--   get_or_over_next                           the word behind what is written is the old one
--   length-mixed, mixed-word                 the exclusive or of two blocks
--   length_fresh, length_added, added_word   what is put
--   length-compress, compress-zeros          G, and G of zeros and a block
--   block_put                                the memory's tail lent to a writer, and back
--   tail-length, source_is, length-source    R, from the memory's tails
--   fill_block_first, fill_block_later         a block of the first pass, and of a later one
-- Assumes nothing.
use mathlib.Core.Path.{◌≡◌, refl, sym, ap, ap₂, ◌∙◌}
use mathlib.Core.List.{List, [], ◌∷◌, ◌++◌}
use Prim.Native.Nat.{ℕ, ◌+◌, ◌-◌, ◌*◌, ◌≤◌, ◌<◌}
use native.Mathlib.Nat.{add-zero}
use native.Mathlib.Omega.{arith}
use lib.Bits.{bit_xor, xor_zero_l}
use lib.ListN.{length, get_or, set, take, drop, replicate, length-drop}
use lib.Seq.{take_all, length-take-le, get_or-take, get_or-append-add, drop-cons}
use borrow.Author.Tests.{eq-eqb, ne_eqb}
use Rattle.words.specs.Xor.{xors}
use Rattle.words.proofs.Laws.Xors.{length-xors, get_or-xors}
use Rattle.slices.specs.Over.{over, put_at}
use Rattle.slices.proofs.Laws.Over.{over_more, over_fits}
use Rattle.slices.proofs.Laws.Put.{put_at-tail}
use Rattle.slices.proofs.Laws.Parts.{part-tail}
use Rattle.argon2_block.specs.Rfc9106.{permuted, compress}
use Rattle.argon2_block.proofs.Laws.Permutation.{length-permuted}
use Rattle.argon2_fill.specs.Rfc9106.{Figures, Position, block, previous, reference, current, source, new_block, fill_block}
use Rattle.argon2_fill.specs.State.{Placed, Room}
use Rattle.argon2_fill.proofs.Laws.Places.{previous_lt}
use Rattle.argon2_fill.proofs.Laws.Reference.{reference-lt}
use Rattle.argon2_fill.proofs.Laws.Memory.{room_block, length-block}

pub put_more : (w d o : List ℕ) (i v : ℕ) → o ≡ over (take i w) d → i < length w → i < length d → v ≡ get_or w i 0
    → set o i v ≡ over (take (i + 1) w) d
put_more w d o i v e h k f = rw (e, f) (over_more w d i h k)

pub put_all : (w d o : List ℕ) (i : ℕ) → o ≡ over (take i w) d → length w ≤ i → o ≡ over w d
put_all w d o i e h = e ∙ ap (λ (x : List ℕ). over x d) (take_all i w h)

pub get_or_over_next : (w d o : List ℕ) (i : ℕ) → o ≡ over (take i w) d → i ≤ length w → i < length d
    → get_or o i 0 ≡ get_or d i 0
unfolding over
get_or_over_next w d o i e h k =
    let n : length (take i w) ≡ i = length-take-le i w h in
    let g : get_or (take i w ++ drop i d) (length (take i w) + 0) 0 ≡ get_or (drop i d) 0 0 =
    get_or-append-add (take i w) (drop i d) 0 0 in
    let m : get_or (drop i d) 0 0 ≡ get_or d i 0 = ap (λ (l : List ℕ). get_or l 0 0) (drop-cons d i 0 k) in
    ap (λ (l : List ℕ). get_or l i 0) (e ∙ ap (λ (j : ℕ). take i w ++ drop j d) n)
    ∙ ap (λ (j : ℕ). get_or (take i w ++ drop i d) j 0) (sym (add-zero (length (take i w)) ∙ n)) ∙ g ∙ m

pub length-mixed : (x y : List ℕ) → 128 ≤ length x → 128 ≤ length y → length (xors (take 128 x) (take 128 y)) ≡ 128
length-mixed x y h k =
    let a : length (take 128 x) ≡ 128 = length-take-le 128 x h in
    let b : length (take 128 y) ≡ 128 = length-take-le 128 y k in
    length-xors (take 128 x) (take 128 y) (omega arith) ∙ a

pub mixed-word : (x y : List ℕ) (i : ℕ) → 128 ≤ length x → 128 ≤ length y → i < 128
    → bit_xor (get_or x i 0) (get_or y i 0) ≡ get_or (xors (take 128 x) (take 128 y)) i 0
mixed-word x y i h k l =
    let a : length (take 128 x) ≡ 128 = length-take-le 128 x h in
    let b : length (take 128 y) ≡ 128 = length-take-le 128 y k in
    sym (get_or-xors (take 128 x) (take 128 y) i (omega arith) (omega arith)
    ∙ ap₂ bit_xor (get_or-take 128 x i 0 l) (get_or-take 128 y i 0 l))

pub length_fresh : (z r : List ℕ) → length z ≡ 128 → length r ≡ 128 → length (xors z r) ≡ 128
length_fresh z r h k = length-xors z r (omega arith) ∙ h

pub fresh_word : (z r : List ℕ) (i : ℕ) → length z ≡ 128 → length r ≡ 128 → i < 128
    → bit_xor (get_or z i 0) (get_or r i 0) ≡ get_or (xors z r) i 0
fresh_word z r i h k l = sym (get_or-xors z r i (omega arith) (omega arith))

pub length_added : (z r d : List ℕ) → length z ≡ 128 → length r ≡ 128 → 128 ≤ length d
    → length (xors (xors z r) (take 128 d)) ≡ 128
length_added z r d h k l =
    let a = length_fresh z r h k in
    let b : length (take 128 d) ≡ 128 = length-take-le 128 d l in
    length_fresh (xors z r) (take 128 d) a b

pub added_word : (z r d : List ℕ) (i : ℕ) → length z ≡ 128 → length r ≡ 128 → 128 ≤ length d → i < 128
    → bit_xor (bit_xor (get_or z i 0) (get_or r i 0)) (get_or d i 0) ≡ get_or (xors (xors z r) (take 128 d)) i 0
added_word z r d i h k l m =
    let a = length_fresh z r h k in
    let b : length (take 128 d) ≡ 128 = length-take-le 128 d l in
    ap₂ bit_xor (fresh_word z r i h k m) (sym (get_or-take 128 d i 0 m)) ∙ fresh_word (xors z r) (take 128 d) i a b m

pub length-compress : (x y : List ℕ) → length x ≡ 128 → length y ≡ 128 → length (compress x y) ≡ 128
unfolding compress
length-compress x y a b =
    let c = length_fresh x y a b in
    length_fresh (permuted (xors x y)) (xors x y) (length-permuted (xors x y) ∙ c) c

-- exclusive or with zeros
xors-zeros : (r : List ℕ) → xors (replicate (length r) 0) r ≡ r
unfolding xors
xors-zeros [] = refl
xors-zeros (x ∷ r) = ap₂ ◌∷◌ (xor_zero_l x) (xors-zeros r)

pub compress-zeros : (r z o : List ℕ) → length r ≡ 128 → z ≡ permuted r → o ≡ xors z r
    → o ≡ compress (replicate 128 0) r
unfolding compress
compress-zeros r z o h e g =
    let x : xors (replicate 128 0) r ≡ r = ap (λ (n : ℕ). xors (replicate n 0) r) (sym h) ∙ xors-zeros r in
    g ∙ rw (x, e)

-- the memory's tail lent to a writer, and back
pub block_put : (m ys w : List ℕ) (at k : ℕ) → at + 128 ≤ length m → k ≡ length m - at → length w ≡ 128
    → ys ≡ over w (take k (drop at m)) → take at m ++ (ys ++ drop k (drop at m)) ≡ put_at at w m
block_put m ys w at k h e n g =
    let l : length (take k (drop at m)) ≡ k = length-take-le k (drop at m) (simp length-drop (omega arith)) in
    put_at-tail w m ys at k (omega arith) e (g ∙ sym (over_fits w (take k (drop at m)) (omega arith)))

tail-block : (m : List ℕ) (at k : ℕ) → k ≡ length m - at → take 128 (take k (drop at m)) ≡ take 128 (drop at m)
tail-block m at k e = ap (take 128) (ap (λ (n : ℕ). take n (drop at m)) e ∙ part-tail at m)

-- the part lent has a block
pub tail-length : (m : List ℕ) (at k : ℕ) → at + 128 ≤ length m → k ≡ length m - at → 128 ≤ length (take k (drop at m))
tail-length m at k h e =
    let l : length (take k (drop at m)) ≡ k = length-take-le k (drop at m) (simp length-drop (omega arith)) in
    omega arith

pub source_is : (f : Figures) (p : Position) (w : ℕ) (m r : List ℕ) (x y k l : ℕ) → x ≡ previous f p * 128
    → y ≡ reference f p w * 128 → k ≡ length m - x → l ≡ length m - y
    → r ≡ xors (take 128 (take k (drop x m))) (take 128 (take l (drop y m))) → r ≡ source f p w m
source_is f p w m r x y k l a b e g h = h ∙ ap₂ xors (tail-block m x k e) (tail-block m y l g) ∙ rw (a, b)

pub length-source : (f : Figures) (p : Position) (w : ℕ) (m r : List ℕ) → Placed f p → Room f m → r ≡ source f p w m
    → length r ≡ 128
length-source f p w m r h k e =
    ap length e ∙ length_fresh (block m (previous f p)) (block m (reference f p w))
    (length-block m (previous f p) (room_block f m (previous f p) k (previous_lt f p h)))
    (length-block m (reference f p w) (room_block f m (reference f p w) k (reference-lt f p w h)))

new_block_first : (f : Figures) (p : Position) (w : ℕ) (m r z : List ℕ) → p.pass ≡ 0
    → r ≡ xors (block m (previous f p)) (block m (reference f p w)) → z ≡ permuted r → xors z r ≡ new_block f p w m
unfolding new_block compress
new_block_first f p w m r z e g h = rw (eq-eqb p.pass 0 e, h, g)

new_block_later : (f : Figures) (p : Position) (w : ℕ) (m r z : List ℕ) (at k : ℕ) → (p.pass ≡ 0 → ⊥)
    → r ≡ xors (block m (previous f p)) (block m (reference f p w)) → z ≡ permuted r
    → at ≡ current f p * 128 → k ≡ length m - at
    → xors (xors z r) (take 128 (take k (drop at m))) ≡ new_block f p w m
unfolding new_block compress
new_block_later f p w m r z at k n g h a e = rw (ne_eqb p.pass 0 n, tail-block m at k e, a, h, g)

length_permuted_fresh : (r z : List ℕ) → length r ≡ 128 → z ≡ permuted r → length z ≡ 128
length_permuted_fresh r z n e = ap length e ∙ length-permuted r ∙ n

pub fill_block_first : (choose : List ℕ → Position → ℕ) (f : Figures) (p : Position) (m r z ys : List ℕ) (at k : ℕ)
    → p.pass ≡ 0 → length r ≡ 128 → r ≡ source f p (choose m p) m → z ≡ permuted r → at ≡ current f p * 128
    → at + 128 ≤ length m → k ≡ length m - at → ys ≡ over (xors z r) (take k (drop at m))
    → take at m ++ (ys ++ drop k (drop at m)) ≡ fill_block choose f p m
unfolding fill_block
fill_block_first choose f p m r z ys at k e n g h a b c d =
    block_put m ys (xors z r) at k b c (length_fresh z r (length_permuted_fresh r z n h) n) d
    ∙ ap₂ (λ (i : ℕ) (w : List ℕ). put_at i w m) a (new_block_first f p (choose m p) m r z e g h)

pub fill_block_later : (choose : List ℕ → Position → ℕ) (f : Figures) (p : Position) (m r z ys : List ℕ) (at k : ℕ)
    → (p.pass ≡ 0 → ⊥) → length r ≡ 128 → r ≡ source f p (choose m p) m → z ≡ permuted r → at ≡ current f p * 128
    → at + 128 ≤ length m → k ≡ length m - at
    → ys ≡ over (xors (xors z r) (take 128 (take k (drop at m)))) (take k (drop at m))
    → take at m ++ (ys ++ drop k (drop at m)) ≡ fill_block choose f p m
unfolding fill_block
fill_block_later choose f p m r z ys at k e n g h a b c d =
    let l : length (take k (drop at m)) ≡ k = length-take-le k (drop at m) (simp length-drop (omega arith)) in
    let w : List ℕ = xors (xors z r) (take 128 (take k (drop at m))) in
    let u : length w ≡ 128 =
    length_added z r (take k (drop at m)) (length_permuted_fresh r z n h) n (omega arith) in
    block_put m ys w at k b c u d
    ∙ ap₂ (λ (i : ℕ) (v : List ℕ). put_at i v m) a (new_block_later f p (choose m p) m r z at k e g h a c)
